-- A writer's calls, case by case.
use Prim.Native.Nat.{ℕ, ◌+◌, ◌^◌, ◌≤◌, ◌<◌}
use mathlib.Core.Path.{◌≡◌}
use mathlib.Core.Bool.{true, false, not, ◌||◌}
use mathlib.Core.List.{List}
use borrow.Author.Tests.{leb-false, lt-ltb, le-ltb, eq-eqb, ne_eqb}
use lib.Dec.{eqb, leb}
use lib.ListN.{length}
use Rattle.image.proofs.Choices.{neither}
use Rattle.blocks.specs.Written.{finished}
use Rattle.traced.specs.Well.{well_traced}
use Rattle.traced.specs.declared.Traced.{Traced}
use Rattle.trace.specs.Writer.{kept, full, refused, unfit, with_entry, next_block, appending, closing}
use Rattle.trace.specs.declared.writer.Writer.{Writer}

-- what a writer that fits its buffer has
module _ (w : Writer) (len : ℕ) (h : unfit w len ≡ false) where
  pub fit-number : w.number < 2 ^ 48
  fit-number = leb-false (2 ^ 48) w.number (neither (not (eqb len 512) || leb 15 w.count) (leb (2 ^ 48) w.number) h).1

module _ (w : Writer) (buffer : List ℕ) (e : Traced) where
  pub append-refused : (unfit w (length buffer) || not (well_traced e)) ≡ true → (refused, buffer) ≡ appending w buffer e
  unfolding appending
  append-refused h = rw h

  module _ (h : (unfit w (length buffer) || not (well_traced e)) ≡ false) where
    pub append-fit : unfit w (length buffer) ≡ false
    append-fit = (neither (unfit w (length buffer)) (not (well_traced e)) h).0

    pub append-kept : w.count < 14
        → (kept (record { count = w.count + 1; number = w.number }), with_entry buffer w.count e) ≡ appending w buffer e
    unfolding appending
    append-kept few = rw (h, lt-ltb w.count 14 few)

    pub append-full : 14 ≤ w.count → (full (next_block w), finished (with_entry buffer w.count e) w.number 15) ≡ appending w buffer e
    unfolding appending
    append-full last = rw (h, le-ltb w.count 14 last)

module _ (w : Writer) (buffer : List ℕ) where
  pub close-refused : unfit w (length buffer) ≡ true → (refused, buffer) ≡ closing w buffer
  unfolding closing
  close-refused h = rw h

  module _ (h : unfit w (length buffer) ≡ false) where
    pub close-none : w.count ≡ 0 → (kept w, buffer) ≡ closing w buffer
    unfolding closing
    close-none none = rw (h, eq-eqb w.count 0 none)

    pub close-full : (w.count ≡ 0 → ⊥) → (full (next_block w), finished buffer w.number w.count) ≡ closing w buffer
    unfolding closing
    close-full some = rw (h, ne_eqb w.count 0 some)
