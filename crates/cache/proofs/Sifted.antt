-- Sifting takes out what is of a domain and leaves the others in their order.
use Prim.Native.Nat.{ℕ, zero, suc, ◌+◌, ◌%◌, ◌≤◌}
use mathlib.Core.Bool.{Bool, true, false, ◌||◌}
use mathlib.Core.List.{List, [], ◌∷◌, ◌++◌, append-nil, append_assoc}
use mathlib.Core.Path.{◌≡◌, refl, ap, sym, ◌∙◌, subst}
use native.Mathlib.Omega.{arith}
use native.Mathlib.Decide.{ℕ_discrete}
use borrow.Author.Tests.{eq-eqb, ne_eqb}
use lib.Dec.{eqb}
use lib.ListN.{length, length-append, take}
use Rattle.std.specs.Prelude.{if◌then◌else◌}
use Rattle.places.specs.Layout.{head_of, key_in, frame_in, domain_in, place_of_age}
use Rattle.places.specs.Changes.{holding, freed, resettled, sifted}
use Rattle.places.proofs.Kept.{head-new, freed-head}
use Rattle.cache.specs.Held.{Held, without}
use Rattle.cache.specs.Keys.{key_of}
use Rattle.cache.proofs.Holds.{holdable-key, used-key, of, slot_at, HeldAt, Slots, Holds, slot-past, slot-seam, hold_holds, freed-holds}
use Rattle.cache.proofs.Holding.{held64}

-- a list that isn't empty has a last one
pub record Ended (held : List Held) (n : ℕ) : Type 0 where
  pub others : List Held
  pub last : Held
  pub is : held ≡ others ++ (last ∷ [])
  pub many : length others ≡ n

ended : (held : List Held) (n : ℕ) → length held ≡ suc n → Ended held n
ended [] n e = absurd (omega arith)
ended (x ∷ []) zero e = record { others = []; last = x; is = refl; many = refl }
ended (x ∷ []) (suc n) e = absurd (omega arith)
ended (x ∷ (y ∷ held)) zero e = absurd (omega arith)
ended (x ∷ (y ∷ held)) (suc n) e =
    let rest = ended (y ∷ held) n (omega arith) in
    record {
      others = x ∷ rest.others;
      last = rest.last;
      is = ap (λ (l : List Held). x ∷ l) rest.is;
      many = ap suc rest.many;
    }

take_all : (n : ℕ) (l : List Held) → length l ≤ n → take n l ≡ l
take_all zero [] few = refl
take_all zero (x ∷ l) few = absurd (omega arith)
take_all (suc n) [] few = refl
take_all (suc n) (x ∷ l) few = ap (λ (l : List Held). x ∷ l) (take_all n l (omega arith))

take-front : (n : ℕ) (front back : List Held) → length front ≡ n → take n (front ++ back) ≡ front
take-front zero [] back e = refl
take-front zero (x ∷ front) back e = absurd (omega arith)
take-front (suc n) [] back e = absurd (omega arith)
take-front (suc n) (x ∷ front) back e = ap (λ (l : List Held). x ∷ l) (take-front n front back (omega arith))

without-last : (d : ℕ) (held : List Held) (x : Held) → without d (held ++ (x ∷ [])) ≡ without d held ++ without d (x ∷ [])
unfolding without
without-last d [] x = refl
without-last d (y ∷ held) x = on (eqb y.domain d) (without-last d held x)
  where
    on : (t : Bool) → without d (held ++ (x ∷ [])) ≡ without d held ++ without d (x ∷ [])
        → (if t then without d (held ++ (x ∷ [])) else y ∷ without d (held ++ (x ∷ [])))
        ≡ (if t then without d held else y ∷ without d held) ++ without d (x ∷ [])
    on true e = e
    on false e = ap (λ (l : List Held). y ∷ l) e

module _ (d : ℕ) where
  -- a free place, or one of the domain, is freed
  drops : (state : List ℕ) (p : ℕ) → (eqb (key_in state p) 0 || eqb (domain_in state p) d) ≡ true → resettled state d p ≡ freed state p
  unfolding resettled
  drops state p h = rw h

  moves : (state : List ℕ) (p : ℕ) → (eqb (key_in state p) 0 || eqb (domain_in state p) d) ≡ false
      → resettled state d p ≡ holding (freed state p) (key_in state p) (frame_in state p) (domain_in state p)
  unfolding resettled
  moves state p h = rw h

  or_right : (a : Bool) → (a || true) ≡ true
  or_right true = refl
  or_right false = refl

  pub sift-holds : (n : ℕ) (newest : ℕ) (state : List ℕ) (kept left : List Held) → Holds state (kept ++ left) → length left ≤ n → length kept + n ≤ 64
      → (head_of state + length kept) % 64 ≡ newest → Holds (sifted d newest n state) (without d left ++ kept)
  unfolding sifted without
  sift-holds zero newest state kept [] was few room at = rw append-nil at was
  sift-holds zero newest state kept (x ∷ left) was few room at = absurd (omega arith)
  sift-holds (suc n) newest state kept left was few room at =
      on (ℕ_discrete (length left) (suc n)) (λ state' kept' left'. sift-holds n newest state' kept' left')
    where
      age : ℕ
      age = length kept + n

      there : (newest + n) % 64 ≡ place_of_age state (length kept + n)
      there = omega arith

      on : Dec (length left ≡ suc n)
          → ((state' : List ℕ) (kept' left' : List Held) → Holds state' (kept' ++ left') → length left' ≤ n → length kept' + n ≤ 64
          → (head_of state' + length kept') % 64 ≡ newest → Holds (sifted d newest n state') (without d left' ++ kept'))
          → Holds (sifted d newest n (resettled state d ((newest + n) % 64))) (without d left ++ kept)
      on (no fewer) ih =
          let p = place_of_age state (length kept + n) in
          let size = length-append kept left in
          let none = subst (Slots state (length kept + n)) (slot-past (kept ++ left) (length kept + n) (omega (arith, size))) (was.slots (length kept + n) (omega arith)) in
          let drop = drops state p (rw (eq-eqb (key_in state p) 0 none)) in
          let now = freed-holds state (kept ++ left) (length kept + n) (omega arith) (omega (arith, size)) was in
          rw (there, drop)
          (ih (freed state p) kept left (rw (take_all (length kept + n) (kept ++ left) (omega (arith, size))) at now) (omega arith) (omega arith)
          (ap (λ (h : ℕ). (h + length kept) % 64) (freed-head state p (omega arith) was.long) ∙ at))
      on (yes full) ih =
          let e = ended left n full in
          let p = place_of_age state (length kept + n) in
          let x = e.last in
          let joined : kept ++ left ≡ (kept ++ e.others) ++ (x ∷ []) = ap (λ (l : List Held). kept ++ l) e.is ∙ sym (append_assoc kept e.others (x ∷ [])) in
          let size : length (kept ++ e.others) ≡ length kept + n = length-append kept e.others ∙ ap (λ (k : ℕ). length kept + k) e.many in
          let slot : slot_at (kept ++ left) (length kept + n) ≡ of x = ap (λ (l : List Held). slot_at l (length kept + n)) joined ∙ slot-seam (kept ++ e.others) x [] (length kept + n) (sym size) in
          let held : HeldAt state x (length kept + n) = subst (Slots state (length kept + n)) slot (was.slots (length kept + n) (omega arith)) in
          let now = freed-holds state (kept ++ left) (length kept + n) (omega arith) (omega (arith, length-append kept left)) was in
          let front : take (length kept + n) (kept ++ left) ≡ kept ++ e.others =
          ap (take (length kept + n)) joined ∙ take-front (length kept + n) (kept ++ e.others) (x ∷ []) size in
          rw (there, e.is, without-last d e.others x)
          (by x held e.others e.many (rw front at now) (ℕ_discrete x.domain d))
        where
          by : (x : Held) → HeldAt state x (length kept + n) → (others : List Held) → length others ≡ n
              → Holds (freed state (place_of_age state (length kept + n))) (kept ++ others) → Dec (x.domain ≡ d)
              → Holds (sifted d newest n (resettled state d (place_of_age state (length kept + n)))) ((without d others ++ without d (x ∷ [])) ++ kept)
          by x held others many now (yes its) =
              let p = place_of_age state (length kept + n) in
              let drop = drops state p (rw (eq-eqb (domain_in state p) d (held.domain ∙ its)) (or_right (eqb (key_in state p) 0))) in
              rw (drop, eq-eqb x.domain d its, append-nil (without d others))
              (ih (freed state p) kept others now (omega arith) (omega arith)
              (ap (λ (h : ℕ). (h + length kept) % 64) (freed-head state p (omega arith) was.long) ∙ at))
          by x held others many now (no other) =
              let p = place_of_age state (length kept + n) in
              let size = length-append kept others in
              let used : key_in state p ≡ 0 → ⊥ = λ none. used-key x held.holdable (sym held.key ∙ none) in
              let move = moves state p (rw (ne_eqb (key_in state p) 0 used, ne_eqb (domain_in state p) d (λ its. other (sym held.domain ∙ its)))) in
              let more = hold_holds (freed state p) (kept ++ others) x held.holdable now in
              let fits = (holdable-key x held.holdable).1 in
              let head = head-new (freed state p) (key_of x) x.frame x.domain now.long fits in
              let next : Holds (holding (freed state p) (key_of x) x.frame x.domain) ((x ∷ kept) ++ others) =
              rw (held64 x (kept ++ others) (omega arith)) at more in
              rw (move, held.key, held.frame, held.domain, ne_eqb x.domain d other, append_assoc (without d others) (x ∷ []) kept)
              (ih (holding (freed state p) (key_of x) x.frame x.domain) (x ∷ kept) others next (omega arith) (omega arith)
              (omega (arith, head, freed-head state p (omega arith) was.long)))
