-- The two formats of a walk, of memory requests and of translation requests, over well-built tables.
use Prim.Native.Nat.{ℕ, zero, suc, ◌+◌, ◌*◌, ◌/◌, ◌%◌, ◌^◌, ◌≤◌, ◌<◌}
use mathlib.Core.Bool.{Bool, true, false, not}
use mathlib.Core.Path.{◌≡◌, refl, ap, ◌∙◌}
use mathlib.Core.List.{List}
use native.Mathlib.Nat.{le_refl}
use native.Mathlib.Omega.{arith}
use borrow.Author.Tests.{ne_eqb}
use lib.Dec.{eqb}
use lib.ListN.{length}
use lib.Pow.{pow_mono}
use Rattle.image.specs.Bits.{bits, bit, any_set, in_place}
use Rattle.image.specs.Check.{Check, stop, go, on_check}
use Rattle.std.specs.Prelude.{if◌then◌else◌}
use Rattle.image.specs.Memory.{Memory}
use Rattle.image.specs.Place.{Place, entry_at, last_tried}
use Rattle.image.specs.Rules.{Rules, run}
use Rattle.image.proofs.Choices.{both as both_true}
use Rattle.image.proofs.Fields.{past_top}
use Rattle.registers.specs.declared.Registers.{Registers}
use Rattle.dma.specs.Page.{denied, own_right, leaf_at, page_reserved, page_check}
use Rattle.dma.specs.Translation.{Translation, fault, leaf, page_step, page_rules}
use Rattle.dma.specs.Walk.{Step, done, down}
use Rattle.dma.proofs.Reserved.{small}
use Rattle.translation.specs.Completion.{Completion, page, empty, entry_step, joined_rules}
use Rattle.translation.specs.Completion as completion
use Rattle.translation.specs.Rights.{both, joined, some_left}
use Rattle.translation.specs.declared.Rights.{Rights}
use Rattle.translation.proofs.Entries.{check-clear, check-own}
use Rattle.tables.specs.Tables.{present, maps_page, table_entry}
use Rattle.tables.specs.Way.{way}
use Rattle.tables.specs.declared.Tree.{Tree}
use Rattle.leaves.specs.Leaves.{Leaf, on_leaf, leaf_over}
use Rattle.leaves.specs.WellBuilt.{WellBuilt}
use Rattle.built.proofs.Walked.{Shown, address-in, by-leaf}

-- a table's entry: both rights, and no bit that is reserved
module _ (registers : Registers) (start place : ℕ) (aligned : start % 4096 ≡ 0) (fits : start + 4096 * place + 4096 ≤ 2 ^ registers.haw) where
  abbrev e : ℕ
  e = table_entry start (4096 * place)

  two : bits e 1 0 ≡ 3
  unfolding bits
  two = omega arith

  first : bits e 0 0 ≡ 1
  unfolding bits
  first = omega arith

  second : bits e 1 1 ≡ 1
  unfolding bits
  second = let half : e / 2 ≡ 2 * (1024 * (start / 4096 + place)) + 1 = omega arith in rw half (omega arith)

  seventh : bits e 7 7 ≡ 0
  unfolding bits
  seventh = omega arith

  some : any_set e 1 0 ≡ true
  some = ap (λ (n : ℕ). not (eqb n 0)) two

  no-page : bit e 7 ≡ false
  no-page = ap (λ (n : ℕ). eqb n 1) seventh

  free : (level : ℕ) → page_reserved registers level e ≡ false
  free level =
      small registers e level no-page
      ∙ ap (λ (n : ℕ). not (eqb n 0)) (past_top e registers.haw 51 {low = registers.haw} (omega arith) (le_refl registers.haw))

  own : (write : Bool) → own_right write e ≡ true
  own true = ap (λ (n : ℕ). eqb n 1) second
  own false = ap (λ (n : ℕ). eqb n 1) first

  table : (n : ℕ) → leaf_at (suc (suc n)) e ≡ false
  table n = rw (ne_eqb (suc (suc n)) 1 (λ z. omega arith)) no-page

  module _ (haw : registers.haw ≤ 52) where
    address_is : in_place e 51 12 ≡ start + 4096 * place
    address_is = address-in start place aligned (omega (arith, pow_mono {i = registers.haw} {j = 52} haw))

    memory-passes : (address : ℕ) (write fpd : Bool) (n at : ℕ)
        → page_step registers address write fpd (suc (suc n)) at tt e ≡ down (start + 4096 * place) tt
    memory-passes address write fpd n at =
        rw (check-own registers write (suc (suc n)) e some (free (suc (suc n))) (own write), table n, address_is)

    joined_is : joined both e ≡ both
    joined_is = rw (first, second)

    left_is : some_left (joined both e) ≡ true
    left_is = rw first

    translation-passes : (fpd : Bool) (n at : ℕ)
        → entry_step registers fpd (suc (suc n)) at both e ≡ down (start + 4096 * place) both
    translation-passes fpd n at = rw (some, free (suc (suc n)), left_is, joined_is, table n, address_is)

-- an entry that maps a page is a leaf
page-here : (below e : ℕ) → maps_page below e ≡ true → leaf_at (suc below) e ≡ true
page-here zero e h = refl
page-here (suc n) e h =
    let large = (both_true (eqb (suc n) 1) (bit e 7) (rw (ne_eqb (suc n) 0 (λ z. omega arith)) at h)).1 in
    rw (large, ne_eqb (suc (suc n)) 1 (λ z. omega arith))

-- what the page over an address makes of a request
abbrev pub page_by : Registers → (write fpd : Bool) → (below e : ℕ) → Translation
page_by registers write fpd below e =
    on_check (page_check registers write (suc below) e) (λ reason. fault reason fpd) (λ frame. leaf frame (suc below))

abbrev pub translated_by : Registers → (write fpd : Bool) → Leaf → Translation
translated_by registers write fpd over = on_leaf over (fault (denied write) fpd) (page_by registers write fpd)

abbrev pub completion_by : Registers → (fpd : Bool) → (below e : ℕ) → Completion
completion_by registers fpd below e =
    if page_reserved registers (suc below) e then completion.fault 0x0C fpd
    else if not (some_left (joined both e)) then empty
    else page (in_place e 51 12) (suc below) (joined both e)

abbrev pub completed_by : Registers → (fpd : Bool) → Leaf → Completion
completed_by registers fpd over = on_leaf over empty (completion_by registers fpd)

module _ (below at e : ℕ) (is : present e ≡ true) (maps : maps_page below e ≡ true) where
  memory-maps : (registers : Registers) (address : ℕ) (write fpd : Bool)
      → page_step registers address write fpd (suc below) at tt e ≡ done (page_by registers write fpd below e)
  memory-maps registers address write fpd = rw (page-here below e maps) (checked (page_check registers write (suc below) e))
    where
      checked : (k : Check ℕ)
          → ◌≡◌ {A = Step (Unit {0}) Translation}
          (on_check k (λ reason. done (fault reason fpd)) (λ frame. if true then done (leaf frame (suc below)) else down frame tt))
          (done (on_check k (λ reason. fault reason fpd) (λ frame. leaf frame (suc below))))
      checked (stop reason) = refl
      checked (go frame) = refl

  translation-maps : (registers : Registers) (fpd : Bool)
      → entry_step registers fpd (suc below) at both e ≡ done (completion_by registers fpd below e)
  translation-maps registers fpd = rw (is, page-here below e maps) (by (page_reserved registers (suc below) e) (not (some_left (joined both e))))
    where
      by : (t u : Bool)
          → ◌≡◌ {A = Step Rights Completion}
          (if t then done (completion.fault 0x0C fpd) else if u then done empty else done (page (in_place e 51 12) (suc below) (joined both e)))
          (done (if t then completion.fault 0x0C fpd else if u then empty else page (in_place e 51 12) (suc below) (joined both e)))
      by true u = refl
      by false true = refl
      by false false = refl

module _ (registers : Registers) (haw : registers.haw ≤ 52) (m : Memory) (bytes marks : List ℕ) (tree : Tree) (well : WellBuilt bytes marks tree)
    (shown : Shown m tree.start bytes) (fits : tree.start + 4096 * length marks ≤ 2 ^ registers.haw) (address : ℕ) where
  room : (p : ℕ) → p < length marks → tree.start + 4096 * p + 4096 ≤ 2 ^ registers.haw
  room p inside = omega arith

  -- rules that stop at the entry where the way ends
  abbrev StopsThere : {A : Type 0} → Rules A → Type 0
  StopsThere q = (before : Place) → last_tried before q m ≡ entry_at (tree.start + (way bytes tree address 0).at)

  pub memory-by-leaf : (write fpd : Bool)
      → (run (page_rules registers address write fpd (suc tree.below) (tree.start + tree.top)) m
      ≡ translated_by registers write fpd (leaf_over bytes tree address))
      × StopsThere (page_rules registers address write fpd (suc tree.below) (tree.start + tree.top))
  memory-by-leaf write fpd =
      by-leaf address (λ s. fault 0x07 fpd) (page_step registers address write fpd) m bytes marks tree well shown tt
      (λ n at p inside. memory-passes registers tree.start p well.placed.start-aligned (room p inside) haw address write fpd n at)
      (fault (denied write) fpd) (λ level at e absent. rw (check-clear registers write level e absent)) (page_by registers write fpd)
      (λ below at e is maps. memory-maps below at e is maps registers address write fpd)

  pub translation-by-leaf : (fpd : Bool)
      → (run (joined_rules registers address fpd (suc tree.below) (tree.start + tree.top) both) m
      ≡ completed_by registers fpd (leaf_over bytes tree address))
      × StopsThere (joined_rules registers address fpd (suc tree.below) (tree.start + tree.top) both)
  translation-by-leaf fpd =
      by-leaf address (λ above. completion.fault 0x07 fpd) (entry_step registers fpd) m bytes marks tree well shown both
      (λ n at p inside. translation-passes registers tree.start p well.placed.start-aligned (room p inside) haw fpd n at)
      empty (λ level at e absent. rw absent) (completion_by registers fpd) (λ below at e is maps. translation-maps below at e is maps registers fpd)
