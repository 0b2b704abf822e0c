-- A reader's step, case by case.
use Prim.Native.Nat.{ℕ, ◌+◌, ◌*◌, ◌≤◌, ◌<◌}
use mathlib.Core.Path.{◌≡◌, sym, ◌∙◌}
use mathlib.Core.Bool.{true, false}
use mathlib.Core.List.{List}
use native.Mathlib.Decide.{dec_le}
use native.Mathlib.Omega.{arith}
use borrow.Author.Tests.{leb-false, le-leb, lt-leb, lt-ltb}
use lib.Dec.{leb}
use lib.ListN.{length, take, drop}
use Rattle.blocks.specs.Block.{count}
use Rattle.traced.specs.Decoded.{decoded}
use Rattle.traced.specs.Decoded as of
use Rattle.traced.specs.declared.Traced.{Traced}
use Rattle.trace.specs.Reader.{entry, damaged, end, block_at, behind, shut, step_at}

module _ (bytes : List ℕ) (place index : ℕ) where
  pub at-end : leb (length bytes) (512 * place) ≡ true → end ≡ step_at bytes place index
  unfolding step_at
  at-end h = rw h

  pub more_left : leb (length bytes) (512 * place) ≡ false → 512 * place < length bytes
  more_left h = leb-false (length bytes) (512 * place) h

  module _ (more : leb (length bytes) (512 * place) ≡ false) where
    pub at-shut : shut bytes place index ≡ true → damaged (record { place = place + 1; index = 0 }) ≡ step_at bytes place index
    unfolding step_at
    at-shut h = rw (more, h)

    module _ (opened : shut bytes place index ≡ false) where
      pub at-malformed : of.malformed ≡ decoded (take 32 (drop (512 * place + 8 + 32 * index) bytes))
          → damaged (record { place = place + 1; index = 0 }) ≡ step_at bytes place index
      unfolding step_at
      at-malformed h = rw (more, opened, ← h)

      pub at_entry : {e : Traced} → of.entry e ≡ decoded (take 32 (drop (512 * place + 8 + 32 * index) bytes))
          → entry e (behind (count (block_at bytes place)) place index) ≡ step_at bytes place index
      unfolding step_at
      at_entry h = rw (more, opened, ← h)

  pub open-index : shut bytes place index ≡ false → index < 15
  open-index h = go (dec_le 15 index)
    where
      go : Dec (15 ≤ index) → index < 15
      go (no few) = omega arith
      go (yes many) =
          let closed : true ≡ false = sym (rw (le-leb 15 index many)) ∙ h in
          let z : ◌≡◌ {A = ℕ} 0 1 = cc in
          absurd (omega arith)

  pub open-whole : shut bytes place index ≡ false → 512 * place + 512 ≤ length bytes
  open-whole h = go (dec_le (512 * place + 512) (length bytes)) (open-index h)
    where
      go : Dec (512 * place + 512 ≤ length bytes) → index < 15 → 512 * place + 512 ≤ length bytes
      go (yes whole) few = whole
      go (no less) few =
          let lacks : length bytes < 512 * place + 512 = omega arith in
          let closed : true ≡ false = sym (rw (lt-leb 15 index few, lt-ltb (length bytes) (512 * place + 512) lacks)) ∙ h in
          let z : ◌≡◌ {A = ℕ} 0 1 = cc in
          absurd (omega arith)
