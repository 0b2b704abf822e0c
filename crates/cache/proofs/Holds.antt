-- The numbers of a state that hold a list of translations, and what each change of them makes of the list.
use Prim.Native.Nat.{ℕ, zero, suc, ◌+◌, ◌/◌, ◌^◌, ◌<◌, ◌≤◌}
use mathlib.Core.List.{List, [], ◌∷◌, ◌++◌}
use mathlib.Core.Path.{◌≡◌, refl, ap, ◌∙◌, subst}
use native.Mathlib.Omega.{arith}
use native.Mathlib.Decide.{dec_le, ℕ_discrete}
use lib.ListN.{length, length-take, replicate, take}
use Rattle.places.specs.Layout.{words, key_in, frame_in, domain_in, place_of_age}
use Rattle.places.specs.Changes.{holding, freed}
use Rattle.places.proofs.Lengths.{length-holding, length-freed}
use Rattle.places.proofs.Linked.{Linked, Flagged}
use Rattle.places.proofs.Kept.{newest-key, newest-frame, newest-domain, older-key, older-frame, older-domain, hold-linked, hold-flagged, freed-place, freed-key, freed-there, freed-elsewhere, freed-linked, freed-flagged, zero-at}
use Rattle.cache.specs.Held.{Held, insert}
use Rattle.cache.specs.Keys.{key_of}
use Rattle.cache.proofs.Numbered.{key-level}

-- what a word can hold: what a walk that is granted reaches is so
pub record Holdable (h : Held) : Type 0 where
  pub source : h.source < 2 ^ 16
  pub address : h.address < 2 ^ 57
  pub frame : h.frame < 2 ^ 52
  pub least : 1 ≤ h.level
  pub most : h.level ≤ 3

pub holdable-key : (h : Held) → Holdable h → (key_of h / 2 ^ 62 ≡ h.level) × (key_of h < 2 ^ 64)
holdable-key h good = key-level h.level h.address h.source h.write good.address good.source good.least good.most

pub used-key : (h : Held) → Holdable h → key_of h ≡ 0 → ⊥
used-key h good none = let level = (holdable-key h good).0 in omega (arith, good.least)

-- the translation of an age, newest first, or none
pub data Slot : Type 0 where
  free : Slot
  of : Held → Slot

unfoldable pub slot_at : List Held → ℕ → Slot
slot_at [] i = free
slot_at (h ∷ held) zero = of h
slot_at (h ∷ held) (suc i) = slot_at held i

pub record HeldAt (state : List ℕ) (h : Held) (i : ℕ) : Type 0 where
  pub key : key_in state (place_of_age state i) ≡ key_of h
  pub frame : frame_in state (place_of_age state i) ≡ h.frame
  pub domain : domain_in state (place_of_age state i) ≡ h.domain
  pub holdable : Holdable h

abbrev pub Slots : (state : List ℕ) (i : ℕ) → Slot → Type 0
Slots state i free = key_in state (place_of_age state i) ≡ 0
Slots state i (of h) = HeldAt state h i

pub record Holds (state : List ℕ) (held : List Held) : Type 0 where
  pub long : length state ≡ words
  pub linked : Linked state
  pub flagged : Flagged state
  pub few : length held ≤ 64
  pub slots : (i : ℕ) → i < 64 → Slots state i (slot_at held i)

-- the same slot over another state
move : (state state' : List ℕ) (i j : ℕ) → key_in state' (place_of_age state' j) ≡ key_in state (place_of_age state i)
    → frame_in state' (place_of_age state' j) ≡ frame_in state (place_of_age state i) → domain_in state' (place_of_age state' j) ≡ domain_in state (place_of_age state i)
    → (s : Slot) → Slots state i s → Slots state' j s
move state state' i j k f d free at = k ∙ at
move state state' i j k f d (of h) at =
    record { key = k ∙ at.key; frame = f ∙ at.frame; domain = d ∙ at.domain; holdable = at.holdable }

-- slots of parts of a list
pub slot-take : (n : ℕ) (held : List Held) (i : ℕ) → i < n → slot_at (take n held) i ≡ slot_at held i
unfolding slot_at
slot-take zero held i h = absurd (omega arith)
slot-take (suc n) [] i h = refl
slot-take (suc n) (x ∷ held) zero h = refl
slot-take (suc n) (x ∷ held) (suc i) h = slot-take n held i (omega arith)

pub slot-past : (held : List Held) (i : ℕ) → length held ≤ i → slot_at held i ≡ free
unfolding slot_at
slot-past [] i h = refl
slot-past (x ∷ held) zero h = absurd (omega arith)
slot-past (x ∷ held) (suc i) h = slot-past held i (omega arith)

pub slot-seam : (before : List Held) (x : Held) (after : List Held) (i : ℕ) → i ≡ length before → slot_at (before ++ x ∷ after) i ≡ of x
unfolding slot_at
slot-seam [] x after zero e = refl
slot-seam [] x after (suc i) e = absurd (omega arith)
slot-seam (y ∷ before) x after zero e = absurd (omega arith)
slot-seam (y ∷ before) x after (suc i) e = slot-seam before x after i (omega arith)

-- nothing is held by zeros
pub empty_holds : Holds (replicate words 0) []
unfolding slot_at
empty_holds =
    record {
      long = refl;
      linked = λ i few used. absurd (used (zero-at words (8 + place_of_age (replicate words 0) i)));
      flagged = λ i few used. absurd (used (zero-at words (8 + place_of_age (replicate words 0) i)));
      few = omega arith;
      slots = λ i few. zero-at words (8 + place_of_age (replicate words 0) i);
    }

-- one more
pub hold_holds : (state : List ℕ) (held : List Held) (h : Held) → Holdable h → Holds state held
    → Holds (holding state (key_of h) h.frame h.domain) (insert h held)
unfolding insert slot_at
hold_holds state held h good was =
    let fits = (holdable-key h good).1 in
    record {
      long = length-holding state (key_of h) h.frame h.domain ∙ was.long;
      linked = hold-linked state (key_of h) h.frame h.domain was.long fits was.linked;
      flagged = hold-flagged state (key_of h) h.frame h.domain was.long fits was.flagged;
      few = omega (arith, length-take 64 (h ∷ held));
      slots = all;
    }
  where
    all : (i : ℕ) → i < 64 → Slots (holding state (key_of h) h.frame h.domain) i (slot_at (take 64 (h ∷ held)) i)
    all zero few =
        let fits = (holdable-key h good).1 in
        record {
          key = newest-key state (key_of h) h.frame h.domain was.long fits;
          frame = newest-frame state (key_of h) h.frame h.domain was.long fits;
          domain = newest-domain state (key_of h) h.frame h.domain was.long fits;
          holdable = good;
        }
    all (suc i) few =
        let fits = (holdable-key h good).1 in
        rw (slot-take 63 held i (omega arith))
        (move state (holding state (key_of h) h.frame h.domain) i (suc i)
        (older-key state (key_of h) h.frame h.domain was.long fits i (omega arith))
        (older-frame state (key_of h) h.frame h.domain was.long fits i (omega arith))
        (older-domain state (key_of h) h.frame h.domain was.long fits i (omega arith))
        (slot_at held i) (was.slots i (omega arith)))

-- the oldest, or a free place behind it, is freed
pub freed-holds : (state : List ℕ) (held : List Held) (age : ℕ) → age < 64 → length held ≤ age + 1 → Holds state held
    → Holds (freed state (place_of_age state age)) (take age held)
freed-holds state held age few-ages last was =
    record {
      long = length-freed state (place_of_age state age) ∙ was.long;
      linked = freed-linked state p near was.long was.linked;
      flagged = freed-flagged state p near was.long was.flagged;
      few = omega (arith, length-take age held);
      slots = λ i few. on i few (ℕ_discrete i age) (dec_le i age);
    }
  where
    p : ℕ
    p = place_of_age state age

    near : place_of_age state age < 64
    near = omega arith

    other : (i : ℕ) → i < 64 → (i ≡ age → ⊥) → place_of_age state i ≡ place_of_age state age → ⊥
    other i few apart e = apart (omega arith)

    kept : (i : ℕ) → i < 64 → (i ≡ age → ⊥) → (s : Slot) → Slots state i s → Slots (freed state (place_of_age state age)) i s
    kept i few apart =
        let same = freed-place state (place_of_age state age) near was.long i in
        move state (freed state (place_of_age state age)) i i
        (rw same (freed-key state (place_of_age state age) near was.long (place_of_age state i) (other i few apart)))
        (rw same (freed-elsewhere state (place_of_age state age) near was.long (72 + place_of_age state i) (λ e. omega arith)))
        (rw same (freed-elsewhere state (place_of_age state age) near was.long (136 + place_of_age state i) (λ e. omega arith)))

    on : (i : ℕ) → i < 64 → Dec (i ≡ age) → Dec (i ≤ age) → Slots (freed state (place_of_age state age)) i (slot_at (take age held) i)
    on i few (yes same) d =
        let none = slot-past (take age held) i (omega (arith, length-take age held)) in
        let at = freed-place state (place_of_age state age) near was.long i in
        let it : place_of_age state i ≡ place_of_age state age = ap (place_of_age state) same in
        rw none (rw at (rw it (freed-there state (place_of_age state age) near was.long)))
    on i few (no apart) (yes below) =
        rw (slot-take age held i (omega arith)) (kept i few apart (slot_at held i) (was.slots i few))
    on i few (no apart) (no above) =
        let none = slot-past (take age held) i (omega (arith, length-take age held)) in
        let was_free = slot-past held i (omega arith) in
        rw none (kept i few apart free (subst (Slots state i) was_free (was.slots i few)))
