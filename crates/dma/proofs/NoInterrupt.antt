-- No granted host address lies in the interrupt range.
use Prim.Native.Nat.{ℕ, ◌+◌, ◌≤◌, ◌<◌}
use mathlib.Core.Bool.{Bool, true, false, ◌&&◌}
use mathlib.Core.Path.{◌≡◌, refl, sym, ◌∙◌}
use native.Mathlib.Decide.{dec_le}
use native.Mathlib.Omega.{arith}
use borrow.Author.Tests.{leb-false, le-leb, lt-leb, lt-ltb, le-ltb}
use lib.Dec.{leb}
use Rattle.std.specs.Prelude.{if◌then◌else◌}
use Rattle.image.specs.Memory.{Memory}
use Rattle.image.specs.Rules.{Rules, run}
use Rattle.registers.specs.Admission.{Admitted, refusal, pass, taken_up, admission, in_interrupt_range}
use Rattle.registers.specs.Registers.{registers_bad}
use Rattle.registers.specs.declared.Registers.{Registers}
use Rattle.dma.specs.InterruptRange.{meets_interrupt_range, span_at}
use Rattle.dma.specs.Isolation.{answer_over}
use Rattle.dma.specs.NoInterrupt.{NoInterruptGranted, Clear, WholeFrameTested}
use Rattle.dma.specs.Page.{host_address}
use Rattle.dma.specs.Requests.{granted, refused, memory_outcome}
use Rattle.dma.specs.Translation.{Translation, through, leaf, fault, translation_rules}
use Rattle.dma.specs.declared.MemoryRequest.{MemoryRequest}
use Rattle.dma.proofs.Admissions.{refuses, passes, takes}
use Rattle.dma.proofs.Leaves.{leaf-granted}
use Rattle.dma.proofs.Steps.{offset-lt}

below : (a : ℕ) → a < 0xFEE0_0000 → in_interrupt_range a ≡ false
below a h = rw (lt-leb 0xFEE0_0000 a h)

above : (a : ℕ) → 0xFEEF_FFFF < a → in_interrupt_range a ≡ false
above a h = rw (lt-leb a 0xFEEF_FFFF h) (last (leb 0xFEE0_0000 a))
  where
    last : (t : Bool) → (t && false) ≡ false
    last true = refl
    last false = refl

inside : (a : ℕ) → 0xFEE0_0000 ≤ a → a ≤ 0xFEEF_FFFF → in_interrupt_range a ≡ true
inside a from to = rw (le-leb 0xFEE0_0000 a from, le-leb a 0xFEEF_FFFF to)

module _ (frame span : ℕ) where
  clear : meets_interrupt_range frame span ≡ false → Clear frame span
  clear h byte from to = go (dec_le (frame + span) 0xFEE0_0000)
    where
      go : Dec (frame + span ≤ 0xFEE0_0000) → in_interrupt_range byte ≡ false
      go (yes ended) = below byte (omega arith)
      go (no later) =
          let past = leb-false frame 0xFEEF_FFFF (rw (lt-ltb 0xFEE0_0000 (frame + span) (omega arith)) at h) in
          above byte (omega arith)

  untouched : 0 < span → Clear frame span → meets_interrupt_range frame span ≡ false
  untouched some free = go (dec_le (frame + span) 0xFEE0_0000) (dec_le frame 0xFEEF_FFFF) (dec_le frame 0xFEE0_0000)
    where
      go : Dec (frame + span ≤ 0xFEE0_0000) → Dec (frame ≤ 0xFEEF_FFFF) → Dec (frame ≤ 0xFEE0_0000) → meets_interrupt_range frame span ≡ false
      go (yes ended) start first = rw (le-ltb 0xFEE0_0000 (frame + span) ended)
      go (no later) (no past) first =
          rw (lt-ltb 0xFEE0_0000 (frame + span) (omega arith), lt-leb frame 0xFEEF_FFFF (omega arith))
      go (no later) (yes start) (yes first) =
          let z : ◌≡◌ {A = Bool} true false = sym (inside 0xFEE0_0000 (omega arith) (omega arith)) ∙ free 0xFEE0_0000 first (omega arith) in
          let y : ◌≡◌ {A = ℕ} 0 1 = cc in
          absurd (omega arith)
      go (no later) (yes start) (no behind) =
          let z : ◌≡◌ {A = Bool} true false = sym (inside frame (omega arith) start) ∙ free frame (omega arith) (omega arith) in
          let y : ◌≡◌ {A = ℕ} 0 1 = cc in
          absurd (omega arith)

pub whole-frame-tested : WholeFrameTested
whole-frame-tested frame span some = record { clear = clear frame span; untouched = untouched frame span some }

module _ (registers : Registers) (request : MemoryRequest) (m : Memory) (host : ℕ) where
  abbrev rules : Rules Translation
  rules = translation_rules registers request.address request.write request.source.id

  -- an address that isn't refused lies outside the range
  admitted-outside : ((n : ℕ) → refusal n ≡ admission registers (in_interrupt_range request.address) registers.te → ⊥)
      → in_interrupt_range request.address ≡ false
  unfolding admission
  admitted-outside = by (registers_bad registers) (in_interrupt_range request.address) registers.te
    where
      by : (bad wrong on : Bool) → ((n : ℕ) → refusal n ≡ (if bad then refusal 1 else if wrong then refusal 2 else if on then taken_up else pass) → ⊥)
          → wrong ≡ false
      by true wrong on not = absurd (not 1 refl)
      by false true on not = absurd (not 2 refl)
      by false false on not = refl

  translated : in_interrupt_range request.address ≡ false → (t : Translation) → memory_outcome request t ≡ granted host → in_interrupt_range host ≡ false
  translated free through was = let same : host ≡ request.address = cc in rw same free
  translated free (leaf frame level) was =
      let is = leaf-granted request frame level was in
      rw is.1
      (clear frame (span_at level) is.0 (host_address level frame request.address) (omega arith)
      (omega (arith, offset-lt request.address level)))
  translated free (fault reason fpd) was = let z : ◌≡◌ {A = ℕ} 0 1 = cc in absurd (omega arith)

  admitted : (k : Admitted) → k ≡ admission registers (in_interrupt_range request.address) registers.te
      → answer_over registers request m ≡ granted host → in_interrupt_range host ≡ false
  admitted (refusal n) h was =
      let no : refused n ≡ granted host = refuses registers request m refl h ∙ was in
      let z : ◌≡◌ {A = ℕ} 0 1 = cc in
      absurd (omega arith)
  admitted pass h was =
      let is : granted request.address ≡ granted host = passes registers request m refl h ∙ was in
      let same : host ≡ request.address = cc in
      rw same (admitted-outside (λ n other. let z : ◌≡◌ {A = ℕ} 0 1 = cc in omega arith))
  admitted taken_up h was =
      translated (admitted-outside (λ n other. let z : ◌≡◌ {A = ℕ} 0 1 = cc in omega arith)) (run rules m)
      (takes registers request m refl h ∙ was)

pub no-interrupt-granted : NoInterruptGranted
no-interrupt-granted registers request m host =
    admitted registers request m host (admission registers (in_interrupt_range request.address) registers.te) refl
