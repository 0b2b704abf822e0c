-- Over a state that holds a list, the newest place that fits is where the list's newest that fits is held.
use Prim.Native.Nat.{ℕ, zero, suc, ◌+◌, ◌-◌, ◌*◌, ◌/◌, ◌^◌, ◌<◌, ◌≤◌, min}
use mathlib.Core.Bool.{Bool, true, false}
use mathlib.Core.List.{List, [], ◌∷◌}
use mathlib.Core.Path.{◌≡◌, refl, ap, sym, ◌∙◌, subst}
use native.Mathlib.Omega.{arith}
use native.Mathlib.Decide.{dec_lt, dec_le}
use borrow.Author.Tests.{eq-eqb, eqb-true, lt-leb, le-leb, lt-ltb, le-ltb}
use lib.Dec.{eqb}
use lib.ListN.{length}
use Rattle.dma.specs.declared.MemoryRequest.{MemoryRequest}
use Rattle.places.specs.Layout.{words}
use Rattle.places.specs.Chain.{age_of_key}
use Rattle.places.proofs.Linked.{First, age-of-key-first}
use Rattle.cache.specs.Held.{Held, miss, hit, page_of, fits, lookup}
use Rattle.cache.specs.Keys.{key_of, key_for}
use Rattle.cache.specs.Numbers.{newest}
use Rattle.cache.proofs.Holds.{Holdable, holdable-key, Slot, free, of, slot_at, HeldAt, Slots, Holds, slot-past}
use Rattle.cache.proofs.Lists.{fitting}
use Rattle.cache.proofs.Numbered.{key-level, key-same}
use Rattle.cache.proofs.Page.{alike-test}

-- the list's lookup by slots
lookup-at : (r : MemoryRequest) (held : List Held) (x : ℕ) (h : Held) → slot_at held x ≡ of h → fits r h ≡ true
    → ((j : ℕ) (g : Held) → j < x → slot_at held j ≡ of g → fits r g ≡ false) → lookup r held ≡ hit h
unfolding slot_at lookup
lookup-at r [] x h at it others = let z : ◌≡◌ {A = ℕ} 0 1 = cc in absurd (omega arith)
lookup-at r (y ∷ held) zero h at it others = let same : y ≡ h = cc in rw (same, it)
lookup-at r (y ∷ held) (suc x) h at it others =
    rw (others 0 y (omega arith) refl) (lookup-at r held x h at it (λ j g below there. others (suc j) g (omega arith) there))

lookup-none : (r : MemoryRequest) (held : List Held) → ((j : ℕ) (g : Held) → slot_at held j ≡ of g → fits r g ≡ false) → lookup r held ≡ miss
unfolding slot_at lookup
lookup-none r [] others = refl
lookup-none r (y ∷ held) others = rw (others 0 y refl) (lookup-none r held (λ j g there. others (suc j) g there))

-- a held translation fits just where its key is the request's, by its level
fits-key : (r : MemoryRequest) (h : Held) → Holdable h → r.address < 2 ^ 57 → r.source.id < 2 ^ 16 → eqb (key_of h) (key_for r h.level) ≡ fits r h
unfolding fits
fits-key r h good near id =
    key-same h.address r.address h.source r.source.id h.write r.write (good.address, near) (good.source, id) h.level good.least
    good.most

-- a request past 2^57 fits nothing
far : (r : MemoryRequest) (h : Held) → Holdable h → 2 ^ 57 ≤ r.address → fits r h ≡ true → ⊥
unfolding page_of
far r h good past it =
    let page = (fitting r h it).2 in
    let same = alike-test h.address r.address (12 + 9 * (h.level - 1)) page 57 (omega (arith, good.most)) in
    let left = lt-leb (2 ^ 57) h.address good.address in
    let right = le-leb (2 ^ 57) r.address past in
    let z : ◌≡◌ {A = ℕ} 0 1 = cc in
    omega arith

untrue : (t : Bool) → (t ≡ true → ⊥) → t ≡ false
untrue true h = absurd (h refl)
untrue false h = refl

-- what is found
pub data Finds (state : List ℕ) (held : List Held) (r : MemoryRequest) : Type 0 where
  found : (h : Held) → newest state r < 64 → lookup r held ≡ hit h → HeldAt state h (newest state r) → Finds state held r
  nothing : 64 ≤ newest state r → lookup r held ≡ miss → Finds state held r

module _ (state : List ℕ) (held : List Held) (r : MemoryRequest) (was : Holds state held) (id : r.source.id < 2 ^ 16) where
  -- what is in a slot is held at its age
  in-slot : (j : ℕ) (g : Held) → slot_at held j ≡ of g → (j < 64) × HeldAt state g j
  in-slot j g there = on (dec_lt j 64)
    where
      on : Dec (j < 64) → (j < 64) × HeldAt state g j
      on (yes few) = (few, subst (Slots state j) there (was.slots j few))
      on (no many) =
          let none = slot-past held j (omega (arith, was.few)) in
          let z : ◌≡◌ {A = ℕ} 0 1 = cc in
          absurd (omega arith)

  module _ (near : r.address < 2 ^ 57) where
    key-used : (level : ℕ) → 1 ≤ level → level ≤ 3 → key_for r level ≡ 0 → ⊥
    key-used level least most none =
        omega (arith, (key-level level r.address r.source.id r.write near id least most).0)

    first : (level : ℕ) → 1 ≤ level → level ≤ 3 → First state (key_for r level) 0 (age_of_key state (key_for r level))
    first level least most = age-of-key-first state (key_for r level) was.linked was.flagged (key-used level least most)

    -- one that fits is no newer than the first of its level
    not-before : (j : ℕ) (g : Held) → slot_at held j ≡ of g → fits r g ≡ true → age_of_key state (key_for r g.level) ≤ j
    not-before j g there it =
        let at = (in-slot j g there).1 in
        let good = at.holdable in
        let same : key_of g ≡ key_for r g.level = eqb-true _ _ (fits-key r g good near id ∙ it) in
        let f = first g.level good.least good.most in
        on (dec_lt j (age_of_key state (key_for r g.level))) (λ below. f.none j (omega arith) below (at.key ∙ same))
      where
        on : Dec (j < age_of_key state (key_for r g.level)) → (j < age_of_key state (key_for r g.level) → ⊥) → age_of_key state (key_for r g.level) ≤ j
        on (yes below) never = absurd (never below)
        on (no above) never = omega arith

    abbrev least-of : ℕ
    least-of = min (age_of_key state (key_for r 1)) (min (age_of_key state (key_for r 2)) (age_of_key state (key_for r 3)))

    -- no older than the first of any level
    under : (level : ℕ) → 1 ≤ level → level ≤ 3 → least-of ≤ age_of_key state (key_for r level)
    under zero least most = absurd (omega arith)
    under (suc zero) least most = omega arith
    under (suc (suc zero)) least most = omega arith
    under (suc (suc (suc zero))) least most = omega arith
    under (suc (suc (suc (suc n)))) least most = absurd (omega arith)

    others : (j : ℕ) (g : Held) → j < least-of → slot_at held j ≡ of g → fits r g ≡ false
    others j g below there =
        untrue (fits r g)
        (λ it.
        let good = (in-slot j g there).1.holdable in
        omega (arith, not-before j g there it, under g.level good.least good.most))

    -- the place of the first of a level
    at_level : (level : ℕ) → 1 ≤ level → level ≤ 3 → age_of_key state (key_for r level) < 64 → (s : Slot) → slot_at held (age_of_key state (key_for r level)) ≡ s
        → (h : Held) × (s ≡ of h) × (fits r h ≡ true) × HeldAt state h (age_of_key state (key_for r level))
    at_level level least most few free is =
        let none = subst (Slots state (age_of_key state (key_for r level))) is (was.slots (age_of_key state (key_for r level)) few) in
        absurd (key-used level least most (sym ((first level least most).has few) ∙ none))
    at_level level least most few (of h) is =
        let at : HeldAt state h (age_of_key state (key_for r level)) = (in-slot (age_of_key state (key_for r level)) h is).1 in
        let good = at.holdable in
        let same : key_of h ≡ key_for r level = sym at.key ∙ (first level least most).has few in
        let mine : h.level ≡ level =
        sym (holdable-key h good).0
        ∙ ap (λ (k : ℕ). k / 2 ^ 62) same
        ∙ (key-level level r.address r.source.id r.write near id least most).0 in
        (h, refl, sym (fits-key r h good near id) ∙ eq-eqb (key_of h) (key_for r h.level) (same ∙ ap (key_for r) (sym mine)), at)

    hits : (level : ℕ) → 1 ≤ level → level ≤ 3 → least-of ≡ age_of_key state (key_for r level) → newest state r ≡ least-of → least-of < 64 → Finds state held r
    hits level least most is now few =
        let x = at_level level least most (omega arith) (slot_at held (age_of_key state (key_for r level))) refl in
        let age : newest state r ≡ age_of_key state (key_for r level) = now ∙ is in
        found x.0 (omega arith)
        (lookup-at r held (age_of_key state (key_for r level)) x.0 x.1 x.2 (λ j g below there. others j g (omega arith) there))
        (subst (HeldAt state x.0) (sym age) x.3)

    which : newest state r ≡ least-of → Dec (least-of < 64) → Dec (age_of_key state (key_for r 1) ≤ least-of) → Dec (age_of_key state (key_for r 2) ≤ least-of)
        → Finds state held r
    which now (no many) one two =
        nothing (omega arith)
        (lookup-none r held (λ j g there. others j g (omega (arith, (in-slot j g there).0)) there))
    which now (yes few) (yes one) two = hits 1 (omega arith) (omega arith) (omega (arith, one)) now few
    which now (yes few) (no one) (yes two) = hits 2 (omega arith) (omega arith) (omega (arith, two)) now few
    which now (yes few) (no one) (no two) = hits 3 (omega arith) (omega arith) (omega arith) now few

  near-newest : r.address < 2 ^ 57
      → newest state r ≡ min (age_of_key state (key_for r 1)) (min (age_of_key state (key_for r 2)) (age_of_key state (key_for r 3)))
  unfolding newest
  near-newest near = rw (eq-eqb (length state) words was.long, lt-ltb r.address (2 ^ 57) near)

  far-newest : 2 ^ 57 ≤ r.address → newest state r ≡ 64
  unfolding newest
  far-newest past = rw (eq-eqb (length state) words was.long, le-ltb r.address (2 ^ 57) past)

  pub finds : Finds state held r
  finds = on (dec_lt r.address (2 ^ 57))
    where
      on : Dec (r.address < 2 ^ 57) → Finds state held r
      on (yes near) =
          which near (near-newest near) (dec_lt (least-of near) 64) (dec_le (age_of_key state (key_for r 1)) (least-of near))
          (dec_le (age_of_key state (key_for r 2)) (least-of near))
      on (no past) =
          let none = far-newest (omega arith) in
          nothing (omega arith)
          (lookup-none r held (λ j g there. untrue (fits r g) (far r g (in-slot j g there).1.holdable (omega arith))))
