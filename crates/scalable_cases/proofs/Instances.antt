-- The claims on rights are given premises that hold.
use Prim.Native.Nat.{ℕ, ◌≤◌}
use mathlib.Core.Bool.{Bool, true, false, ◌&&◌}
use mathlib.Core.List.Memᴰ
use mathlib.Core.List.{List, [], ◌∷◌, Memᴰ}
use mathlib.Core.Path.{◌≡◌, refl, ap, sym, ◌∙◌, subst}
use mathlib.Core.Logic.{⊎_elim}
use native.Mathlib.Nat.{le_refl}
use native.Mathlib.Omega.{arith}
use borrow.Author.Tests.{eqb-true, leb-true}
use lib.Dec.{eqb, leb, lit≤}
use Rattle.image.specs.Bits.{bits}
use Rattle.std.specs.Prelude.{if◌then◌else◌}
use Rattle.image.specs.Memory.{Fetched, missing, found, entry}
use Rattle.image.specs.Rules.{run, map_rules, entries_of, words_from}
use Rattle.registers.specs.Admission.{admission}
use Rattle.registers.specs.Registers.{registers_bad}
use Rattle.dma.specs.Isolation.{SwitchedEntry, BothFetched, Switched}
use Rattle.dma.specs.Page.{page_reserved}
use Rattle.dma.specs.Requests.{granted}
use Rattle.dma.specs.Walk.{walk_rules}
use Rattle.pasid.specs.Context.{context_reserved, context_invalid, context_check}
use Rattle.pasid.specs.Directory.{directory_reserved, directory_check}
use Rattle.pasid.specs.Root.{root_reserved, root_check}
use Rattle.pasid.specs.Table.{feature_reserved, pointers_reserved, table_reserved, table_invalid, table_check}
use Rattle.first.specs.First.{not_canonical, first_reserved, first_step}
use Rattle.nested.specs.Pages.{intermediate_rules, locate, host_page_rules}
use Rattle.nested.specs.Then.{then_rules}
use Rattle.nested.specs.Way.{way_rules}
use Rattle.scalable.specs.Lookup.{table_rules, directory_rules, context_rules, lookup_rules}
use Rattle.scalable.specs.Requests.{second_pages, paged_rules, type_rules, scalable_rules}
use Rattle.rights.specs.Rights.{decided, walked_by_any}
use Rattle.rights.proofs.Rights.{scalable-rights-on, scalable-rights-off}
use Rattle.rights.specs.Tables.{table_words, SharesNoByte}
use Rattle.scalable_cases.specs.Instances.{reading, writing, walked_by_both, ScalablePremisesMet}
use Rattle.scalable_cases.specs.Rows.{row_registers, row_words, by_words}

unfoldable every : (ℕ → Bool) → List ℕ → Bool
every f [] = true
every f (n ∷ rest) = f n && every f rest

of-every : (f : ℕ → Bool) (all : List ℕ) → every f all ≡ true → (n : ℕ) → Memᴰ n all → f n ≡ true
unfolding every
of-every f [] h n is = absurd (Memᴰ.not-nil is)
of-every f (k ∷ rest) h n is = by (f k) refl h (λ later there. of-every f rest later n there)
  where
    by : (b : Bool) → f k ≡ b → (b && every f rest) ≡ true → (every f rest ≡ true → Memᴰ n rest → f n ≡ true) → f n ≡ true
    by true e h ih = ⊎_elim (λ (same : n ≡ k). ap f same ∙ e) (ih h) (Memᴰ.cases_cons is)
    by false e h ih = let z : ◌≡◌ {A = ℕ} 0 1 = cc in absurd (omega arith)

-- walked entries from 10000h on, all other entries below
parted : (entries words : List ℕ) → every (leb 0x10000) entries ≡ true → every (λ n. leb n 0x8FFF) words ≡ true
    → (e word : ℕ) → Memᴰ e entries → Memᴰ word words → SharesNoByte e word
parted entries words above below e word is there n from end from' end' =
    let high : 0x10000 ≤ e = leb-true 0x10000 e (of-every _ entries above e is) in
    let low : word ≤ 0x8FFF = leb-true word 0x8FFF (of-every _ words below word there) in
    omega (arith, high, low)

-- one of the entries has its rights turned
module _ (turned : ℕ → ℕ → Type 0) (same : (n : ℕ) → turned n n) (words : List (ℕ × ℕ)) (at old new : ℕ) (entries : List ℕ)
    (there : Memᴰ at entries) (was : by_words words at ≡ found old) (turns : SwitchedEntry turned old new) where
  kept : (f : Fetched) → BothFetched (SwitchedEntry turned) f f
  kept missing = tt
  kept (found e) = record { other-bits = refl; read = same (bits e 0 0); write = same (bits e 1 1) }

  one-switched : Switched turned entries (by_words words) (by_words ((at, new) ∷ words))
  unfolding by_words
  one-switched = record { elsewhere = λ n ok out. other n out (eqb n at) refl; switched = λ n is. each n (eqb n at) refl }
    where
      other : (n : ℕ) → (Memᴰ n entries → ⊥) → (b : Bool) → eqb n at ≡ b → (if b then found new else by_words words n) ≡ by_words words n
      other n out true e = absurd (out (subst (λ (k : ℕ). Memᴰ k entries) (sym (eqb-true n at e)) there))
      other n out false e = refl

      each : (n : ℕ) (b : Bool) → eqb n at ≡ b → BothFetched (SwitchedEntry turned) (by_words words n) (if b then found new else by_words words n)
      each n true e = rw (eqb-true n at e, was) turns
      each n false e = kept (by_words words n)

-- of the write, then of the read: two second-level entries for each first-level entry and for the page
abbrev entries : List ℕ
entries =
    0x10000
    ∷ 0x11008
    ∷ 0x10000
    ∷ 0x11000
    ∷ 0x40000
    ∷ 0x10000
    ∷ 0x11000
    ∷ 0x41000
    ∷ 0x10000
    ∷ 0x11000
    ∷ 0x42000
    ∷ 0x10000
    ∷ 0x11000
    ∷ 0x43008
    ∷ 0x10000
    ∷ 0x11000
    ∷ []

-- what the two requests walk and read, and what they are answered, as the memory has it
computed : (walked_by_both (by_words row_words) ≡ entries)
    × (every (leb 0x10000) entries ≡ true)
    × (every (λ n. leb n 0x8FFF) (table_words (scalable_rules row_registers reading) (by_words row_words)) ≡ true)
    × (every (λ n. leb n 0x8FFF) (table_words (scalable_rules row_registers writing) (by_words row_words)) ≡ true)
    × (by_words row_words 0x11008 ≡ found 0x200081)
    × (by_words row_words 0x11000 ≡ found 0x83)
    × ((decided row_registers reading (by_words row_words)).outcome ≡ granted 0x123ABC)
    × ((address : ℕ) → (decided row_registers writing (by_words row_words)).outcome ≡ granted address → ⊥)
unfolding every table_words words_from walked_by_any entries_of by_words scalable_rules type_rules paged_rules second_pages then_rules lookup_rules context_rules directory_rules table_rules run map_rules walk_rules way_rules intermediate_rules locate host_page_rules entry bits admission registers_bad root_check root_reserved context_check context_reserved context_invalid directory_check directory_reserved table_check table_reserved pointers_reserved feature_reserved table_invalid page_reserved not_canonical first_reserved first_step
computed = (refl, refl, refl, refl, refl, refl, refl, λ address h. let z : ◌≡◌ {A = ℕ} 0 1 = cc in omega arith)

turned_on : SwitchedEntry (λ before after. before ≤ after) 0x200081 0x200083
unfolding bits
turned_on = record { other-bits = refl; read = lit≤ tt; write = lit≤ tt }

turned-off : SwitchedEntry (λ before after. after ≤ before) 0x83 0x80
unfolding bits
turned-off = record { other-bits = refl; read = lit≤ tt; write = lit≤ tt }

pub scalable-premises-met : ScalablePremisesMet
scalable-premises-met =
    let k = computed in
    record {
      on-apart = rw k.0 (parted entries _ k.1 k.2);
      switched-on = rw k.0 (one-switched _ le_refl row_words 0x11008 0x200081 0x200083 entries (Memᴰ.tail (Memᴰ.head refl)) k.4 turned_on);
      was_granted = k.6;
      off-apart = rw k.0 (parted entries _ k.1 k.3);
      switched-off =
          rw k.0
          (one-switched _ le_refl row_words 0x11000 0x83 0x80 entries (Memᴰ.tail (Memᴰ.tail (Memᴰ.tail (Memᴰ.head refl)))) k.5 turned-off);
      not-granted = k.7;
    }

-- and the claims take them
kept_on : decided row_registers reading (by_words ((0x11008, 0x200083) ∷ row_words)) ≡ decided row_registers reading (by_words row_words)
kept_on =
    let p = scalable-premises-met in
    scalable-rights-on row_registers (writing ∷ reading ∷ []) reading _ _ p.on-apart p.switched-on 0x123ABC p.was_granted

none-given : (address : ℕ) → (decided row_registers writing (by_words ((0x11000, 0x80) ∷ row_words))).outcome ≡ granted address → ⊥
none-given =
    let p = scalable-premises-met in
    scalable-rights-off row_registers (writing ∷ reading ∷ []) writing _ _ p.off-apart p.switched-off p.not-granted
