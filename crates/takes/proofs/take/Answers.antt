use Prim.Native.Nat.{ℕ, ◌+◌, ◌%◌, ◌≤◌}
use mathlib.Core.Bool.{false}
use mathlib.Core.List.{List}
use mathlib.Core.Path.{◌≡◌, refl, ap, sym, ◌∙◌}
use native.Mathlib.Omega.{arith}
use lib.ListN.{length}
use Rattle.image.specs.Answers.{number64}
use Rattle.image.specs.Memory.{entry, found}
use Rattle.image.specs.Windows.{of_windows, bad_windows}
use Rattle.image.proofs.Opened.{fine, shown}
use Rattle.image.proofs.WindowEntries.{WholeAt, whole-at}
use Rattle.registers.specs.declared.Registers.{Registers}
use Rattle.interrupts.proofs.Exact.{at-inside}
use Rattle.takes.specs.Answers.{handed_of}
use Rattle.takes.specs.Take.{TakeOutcome, clear_bit, take_written}
use Rattle.takes.proofs.Decide.{Answers, refuses-windows, refuses-registers, unaligned, outside, answered, handed-at, no-vector}
use Rattle.takes.proofs.Stores.{length-clear_bit}
use Rattle.takes.proofs.take.Goals.{After-place64-at}
use Rattle.takes.proofs.take.Goals as goal

-- windows that are refused
pub returns-in_default : goal.returns-in_default
returns-in_default c =
    let a = c.args in
    let told = refuses-windows a.registers a.descriptor a.windows.now a.image.now c.in_default.ensures in
    record { result_value = told.0; image_after = told.1 }

pub returns-then-bad : goal.returns-then-bad
returns-then-bad c =
    let a = c.args in
    let told = refuses-registers a.registers a.descriptor a.windows.now a.image.now (sym c.bad.ensures ∙ c.if-bad.true) in
    record { result_value = told.0; image_after = told.1 }

pub returns-then-descriptor-ne0 : goal.returns-then-descriptor-ne0
returns-then-descriptor-ne0 c =
    let a = c.args in
    let told = unaligned a.registers a.descriptor a.windows.now a.image.now (fine c.in-Some.memory c.in-Some.ensures)
    (sym c.bad.ensures ∙ c.if-bad.false) c.if-descriptor-ne0.true in
    record { result_value = told.0; image_after = told.1 }

-- past them
pub returns-in_default-entry : goal.returns-in_default-entry
returns-in_default-entry c =
    let a = c.args in
    let there = shown c.in-Some.memory c.in-Some.ensures in
    let told = outside a.registers a.descriptor a.windows.now a.image.now (fine c.in-Some.memory c.in-Some.ensures)
    (sym c.bad.ensures ∙ c.if-bad.false) c.if-descriptor-ne0.false (sym (rw there at c.in_default-entry.ensures.result_value)) in
    record { result_value = told.0; image_after = told.1 }

pub place64-at-requires : goal.place64-at-requires
place64-at-requires c = (fine c.in-Some.memory c.in-Some.ensures, c.if-descriptor-ne0.false)

-- the descriptor stands whole in a window
module _ (c : After-place64-at) where
  abbrev registers : Registers
  registers = c.args.registers

  abbrev descriptor : ℕ
  descriptor = c.args.descriptor

  abbrev windows : List ℕ
  windows = c.args.windows.now

  abbrev image : List ℕ
  image = c.args.image.now

  good : bad_windows windows (length image) ≡ false
  good = fine c.in-Some.memory c.in-Some.ensures

  read : entry 8 (of_windows windows image) descriptor ≡ found (number64 c.in-Ok.d)
  read = let there = shown c.in-Some.memory c.in-Some.ensures in sym (rw there at c.in-Ok.ensures.result_value)

  stands : WholeAt windows image 64 descriptor (number64 c.in-Ok.d)
  stands =
      let aligned : descriptor % 64 ≡ 0 = c.if-descriptor-ne0.false in
      whole-at windows image good 7 descriptor (omega arith) read

  whole : c.place64-at.result + 64 ≤ length image
  whole = at-inside windows image descriptor c.place64-at.ensures stands.spot good

  -- what the highest bit makes of the answer
  by-highest : {o : TakeOutcome} {after : List ℕ} → o ≡ handed_of c.highest_request-handed.result
      → after ≡ take_written windows descriptor o image → Answers registers descriptor windows image o after
  by-highest said left =
      answered registers descriptor windows image good (sym c.bad.ensures ∙ c.if-bad.false) c.if-descriptor-ne0.false read
      (said ∙ c.highest_request-handed.ensures) left

pub clear_bit-requires : goal.clear_bit-requires
clear_bit-requires c = let w = whole (goal.at.clear_bit-requires c).After-place64-at in omega (arith, w)

pub clear_bit-requires-in-Some-handed : goal.clear_bit-requires-in-Some-handed
clear_bit-requires-in-Some-handed c =
    let kept = ap length c.clear_bit.ensures ∙ length-clear_bit c.args.image.now c.place64-at.result 256 in
    let w = whole (goal.at.clear_bit-requires-in-Some-handed c).After-place64-at in
    omega (arith, kept, w)

pub returns-in-Some-handed : goal.returns-in-Some-handed
returns-in-Some-handed c =
    let a = c.args in
    let p = (goal.at.returns-in-Some-handed c).After-place64-at in
    let vector = c.in-Some-handed.vector in
    let told = by-highest p (ap handed_of (sym c.in-Some-handed.is))
    (c.clear_bit-in-Some-handed.ensures ∙ ap (clear_bit c.place64-at.result vector) c.clear_bit.ensures
    ∙ handed-at a.windows.now a.image.now a.descriptor c.place64-at.ensures (stands p).spot vector) in
    record { result_value = told.0; image_after = told.1 }

pub returns-in_default-handed : goal.returns-in_default-handed
returns-in_default-handed c =
    let a = c.args in
    let p = (goal.at.returns-in_default-handed c).After-place64-at in
    let told = by-highest p refl
    (c.clear_bit.ensures
    ∙ no-vector a.windows.now a.image.now a.descriptor c.place64-at.ensures (stands p).spot c.highest_request-handed.result c.in_default-handed.not-Some) in
    record { result_value = told.0; image_after = told.1 }
