-- The named words of a request: none, its entry's two, or these and a descriptor's eight.
use Prim.Native.Nat.{ℕ, ◌+◌, ◌*◌, ◌^◌, ◌≤◌, ◌<◌}
use mathlib.Core.Bool.{Bool, true, false}
use mathlib.Core.List.{List, [], ◌∷◌, ◌++◌}
use mathlib.Core.Path.{◌≡◌, refl}
use native.Mathlib.Omega.{arith}
use Rattle.image.specs.Bits.{bit}
use Rattle.std.specs.Prelude.{if◌then◌else◌}
use Rattle.image.specs.EntryKind.{words_of}
use Rattle.image.specs.Memory.{Memory, Fetched, missing, found, on_fetch, entry}
use Rattle.image.specs.Rules.{Rules, answer, fetch, run, named, words_from}
use Rattle.image.proofs.Fields.{fits}
use Rattle.image.proofs.Forks.{every-run, every-named, every-weaken}
use Rattle.registers.specs.declared.Registers.{Registers}
use Rattle.interrupts.specs.Claims.{indexed_entry, before_table, IndexBound, EntryOfIndex, NoWrap, AtMostTen, NoneBeforeTable}
use Rattle.interrupts.specs.Interrupts.{InterruptOutcome, interrupt_rules}
use Rattle.interrupts.specs.declared.InterruptRequest.{InterruptRequest}
use Rattle.interrupts.proofs.Forks.{Fork, Ends, Late, access-late, Tabled, tabled, interrupt-forks}

pub at-most-ten : AtMostTen
at-most-ten registers request m =
    every-named Fork Ends 10 (interrupt_rules registers request) m (interrupt-forks registers request)

module _ (registers : Registers) (request : InterruptRequest) (m : Memory) where
  none_before : (q : Rules InterruptOutcome) → Tabled registers request q → before_table (run q m) ≡ true → named q m ≡ []
  unfolding run named
  none_before (answer o) h early = refl
  none_before (fetch kind at outside next) h early = by (entry (words_of kind) m at) early
    where
      late : (e : ℕ) → Late (run (next e) m)
      late e =
          every-run Fork Late (λ kind at o is. access-late o is) 8 (next e) m
          (every-weaken Fork Fork (λ o. Ends o × Late o) Late (λ kind at o is. is) (λ o is. is.1) 8 (next e) (h.3 e))

      by : (f : Fetched) → before_table (on_fetch f outside (λ e. run (next e) m)) ≡ true
          → on_fetch f [] (λ e. words_from (words_of kind) at ++ named (next e) m) ≡ []
      by missing is = refl
      by (found e) is = absurd (late e is)

  first_word : (q : Rules InterruptOutcome) → Tabled registers request q → (at : ℕ) (rest : List ℕ) → named q m ≡ at ∷ rest
      → at ≡ indexed_entry registers request
  unfolding named words_from
  first_word (answer o) h at rest is = let z : ◌≡◌ {A = ℕ} 0 1 = cc in absurd (omega arith)
  first_word (fetch kind from outside next) h at rest is = by (entry (words_of kind) m from) (words_of kind) h.0 is
    where
      by : (f : Fetched) (n : ℕ) → n ≡ 2 → on_fetch f [] (λ e. words_from n from ++ named (next e) m) ≡ at ∷ rest
          → at ≡ indexed_entry registers request
      by missing n two is = let z : ◌≡◌ {A = ℕ} 0 1 = cc in absurd (omega arith)
      by (found e) n two is =
          let words : (from ∷ (from + 8) ∷ named (next e) m) ≡ at ∷ rest = rw two at is in
          cc h.1

pub none-before-table : NoneBeforeTable
none-before-table registers request m = none_before registers request m (interrupt_rules registers request) (tabled registers request)

pub entry-of-index : EntryOfIndex
entry-of-index registers request m = first_word registers request m (interrupt_rules registers request) (tabled registers request)

pub no_wrap : NoWrap
no_wrap registers request request' m m' at rest rest' first first' =
    let here = entry-of-index registers request m at rest first in
    let there = entry-of-index registers request' m' at rest' first' in
    omega arith

pub index-bound : IndexBound
index-bound request = go (bit request.address 3) (fits request.address 19 5) (fits request.address 2 2) (fits request.«data» 15 0)
  where
    go : (shv : Bool) {high low sub : ℕ} → high < 2 ^ 15 → low < 2 → sub < 2 ^ 16
        → high + low * 2 ^ 15 + (if shv then sub else 0) ≤ 131070
    go true h l s = omega arith
    go false h l s = omega arith
