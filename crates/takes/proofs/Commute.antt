-- Bits set in the image in either order.
use Prim.Native.Nat.{ℕ, ◌+◌, ◌/◌, ◌%◌, ◌^◌, ◌≤◌, ◌<◌}
use mathlib.Core.Bool.{Bool, true, false, not, ◌&&◌, ◌||◌, or-false, or_comm}
use mathlib.Core.List.{List}
use mathlib.Core.Path.{◌≡◌, refl, ap, sym, ◌∙◌}
use native.Mathlib.Decide.{dec_le}
use native.Mathlib.Omega.{arith}
use borrow.Author.Tests.{ne_eqb, eqb-true, eqb-false}
use lib.Dec.{eqb}
use lib.ListN.{length, get_or, set}
use lib.Seq.{get_or-set_same, get_or-set_other, set_out, set-set, set_comm}
use Rattle.image.specs.Bits.{bit}
use Rattle.std.specs.Prelude.{if◌then◌else◌}
use Rattle.image.specs.Choice.{one-if}
use Rattle.interrupts.specs.Claims.{due}
use Rattle.interrupts.specs.Descriptor.{Notification, silent, notification}
use Rattle.interrupts.specs.Post.{with_bit, set_bit, notified}
use Rattle.interrupts.proofs.Exact.{bit-with}

-- two bits of a byte
with-comm : (p q byte : ℕ) → with_bit p (with_bit q byte) ≡ with_bit q (with_bit p byte)
with-comm p q byte = go (eqb p q) refl
  where
    other-bit : (x y : ℕ) → (x ≡ y → ⊥) → bit (with_bit y byte) x ≡ bit byte x
    other-bit x y apart = bit-with byte y x ∙ ap (λ (t : Bool). bit byte x || t) (ne_eqb x y apart) ∙ or-false (bit byte x)

    sums : (s t : Bool) → (if s then (if t then byte else byte + 2 ^ q) else (if t then byte else byte + 2 ^ q) + 2 ^ p)
        ≡ (if t then (if s then byte else byte + 2 ^ p) else (if s then byte else byte + 2 ^ p) + 2 ^ q)
    sums true true = refl
    sums true false = refl
    sums false true = refl
    sums false false = omega arith

    go : (t : Bool) → eqb p q ≡ t → with_bit p (with_bit q byte) ≡ with_bit q (with_bit p byte)
    go true e = ap (λ (n : ℕ). with_bit n (with_bit q byte)) (eqb-true p q e) ∙ ap (λ (n : ℕ). with_bit q (with_bit n byte)) (sym (eqb-true p q e))
    go false e =
        let apart = eqb-false p q e in
        ap (λ (t : Bool). if t then with_bit q byte else with_bit q byte + 2 ^ p) (other-bit p q apart)
        ∙ sums (bit byte p) (bit byte q)
        ∙ ap (λ (t : Bool). if t then with_bit p byte else with_bit p byte + 2 ^ q) (sym (other-bit q p (λ h. apart (sym h))))

-- a store at a byte, whatever the byte held
store-comm : (f g : ℕ → ℕ) (i j : ℕ) (image : List ℕ) → (i ≡ j → (b : ℕ) → f (g b) ≡ g (f b))
    → let one = set image j (g (get_or image j 0)) in let other = set image i (f (get_or image i 0)) in
    set one i (f (get_or one i 0)) ≡ set other j (g (get_or other j 0))
store-comm f g i j image comm = go (eqb i j) refl (dec_le (length image) i)
  where
    one : List ℕ
    one = set image j (g (get_or image j 0))

    other : List ℕ
    other = set image i (f (get_or image i 0))

    twice : (f g : ℕ → ℕ) (k : ℕ) → k < length image
        → set (set image k (g (get_or image k 0))) k (f (get_or (set image k (g (get_or image k 0))) k 0)) ≡ set image k (f (g (get_or image k 0)))
    twice f g k inside =
        ap (λ (b : ℕ). set (set image k (g (get_or image k 0))) k (f b)) (get_or-set_same image k (g (get_or image k 0)) 0 inside)
        ∙ set-set image k (g (get_or image k 0)) (f (g (get_or image k 0)))

    past : (f g : ℕ → ℕ) (k : ℕ) → length image ≤ k
        → set (set image k (g (get_or image k 0))) k (f (get_or (set image k (g (get_or image k 0))) k 0)) ≡ image
    past f g k outside = rw (set_out image k (g (get_or image k 0)) outside) (set_out image k (f (get_or image k 0)) outside)

    go : (t : Bool) → eqb i j ≡ t → Dec (length image ≤ i) → set one i (f (get_or one i 0)) ≡ set other j (g (get_or other j 0))
    go true e d =
        let same : i ≡ j = eqb-true i j e in
        ap (λ (n : ℕ). set (set image n (g (get_or image n 0))) i (f (get_or (set image n (g (get_or image n 0))) i 0))) (sym same)
        ∙ meet d
        ∙ ap (λ (n : ℕ). set other n (g (get_or other n 0))) same
      where
        meet : Dec (length image ≤ i)
            → set (set image i (g (get_or image i 0))) i (f (get_or (set image i (g (get_or image i 0))) i 0))
            ≡ set (set image i (f (get_or image i 0))) i (g (get_or (set image i (f (get_or image i 0))) i 0))
        meet (yes outside) = past f g i outside ∙ sym (past g f i outside)
        meet (no inside) =
            twice f g i (omega arith) ∙ ap (set image i) (comm (eqb-true i j e) (get_or image i 0)) ∙ sym (twice g f i (omega arith))
    go false e d =
        let apart = eqb-false i j e in
        ap (λ (b : ℕ). set one i (f b)) (get_or-set_other image j i (g (get_or image j 0)) 0 apart)
        ∙ set_comm image j i (g (get_or image j 0)) (f (get_or image i 0)) (λ h. apart (sym h))
        ∙ ap (λ (b : ℕ). set other j (g b)) (sym (get_or-set_other image i j (f (get_or image i 0)) 0 (λ h. apart (sym h))))

pub set-bits : (x p y q : ℕ) (image : List ℕ) → set_bit x p (set_bit y q image) ≡ set_bit y q (set_bit x p image)
unfolding set_bit
set-bits x p y q image =
    store-comm (with_bit (p % 8)) (with_bit (q % 8)) (x + p / 8) (y + q / 8) image (λ h. with-comm (p % 8) (q % 8))

-- ON set or not
abbrev pub mark : Bool → (descriptor : ℕ) → List ℕ → List ℕ
mark test descriptor image = if test then set_bit descriptor 256 image else image

pub marked : (descriptor : ℕ) (m : Notification) (image : List ℕ) → notified descriptor m image ≡ mark (due m) descriptor image
marked descriptor silent image = refl
marked descriptor (notification v d) image = refl

mark_set : (t : Bool) (d x p : ℕ) (image : List ℕ) → mark t d (set_bit x p image) ≡ set_bit x p (mark t d image)
mark_set true d x p image = set-bits d 256 x p image
mark_set false d x p image = refl

mark-mark : (s t : Bool) (d e : ℕ) (image : List ℕ) → mark s d (mark t e image) ≡ mark t e (mark s d image)
mark-mark true t d e image = sym (mark_set t e d 256 image)
mark-mark false t d e image = refl

-- the writes of two posts, with the notifications that each has after the other
module _ (d u e w : ℕ) (image : List ℕ) where
  abbrev both : List ℕ
  both = set_bit e w (set_bit d u image)

  gathered : (s t : Bool) → mark t e (set_bit e w (mark s d (set_bit d u image))) ≡ mark t e (mark s d both)
  gathered s t = ap (mark t e) (sym (mark_set s d e w (set_bit d u image)))

  gathered' : (s t : Bool) → mark s d (set_bit d u (mark t e (set_bit e w image))) ≡ mark s d (mark t e both)
  gathered' s t = ap (mark s d) (sym (mark_set t e d u (set_bit e w image)) ∙ ap (mark t e) (set-bits d u e w image))

  -- where the descriptors are two, each notification is as it would be first
  pub two-descriptors : (s t : Bool)
      → mark t e (set_bit e w (mark s d (set_bit d u image))) ≡ mark s d (set_bit d u (mark t e (set_bit e w image)))
  two-descriptors s t = gathered s t ∙ mark-mark t s e d both ∙ sym (gathered' s t)

  -- where they are one, there is one notification, of the one that comes first
  module _ (same : d ≡ e) (on x y : Bool) where
    one-mark : (x y : Bool) (image : List ℕ) → mark (not (on || (not on && x)) && y) d (mark (not on && x) d image) ≡ mark (not on && (x || y)) d image
    one-mark x y image = go on x y
      where
        go : (on x y : Bool) → mark (not (on || (not on && x)) && y) d (mark (not on && x) d image) ≡ mark (not on && (x || y)) d image
        go true x y = refl
        go false true y = refl
        go false false y = refl

    pub one-descriptor :
        mark (not (on || (not on && x)) && y) e (set_bit e w (mark (not on && x) d (set_bit d u image)))
        ≡ mark (not (on || (not on && y)) && x) d (set_bit d u (mark (not on && y) e (set_bit e w image)))
    one-descriptor =
        gathered (not on && x) (not (on || (not on && x)) && y)
        ∙ ap (λ (n : ℕ). mark (not (on || (not on && x)) && y) n (mark (not on && x) d both)) (sym same)
        ∙ one-mark x y both
        ∙ ap (λ (t : Bool). mark (not on && t) d both) (or_comm x y)
        ∙ sym (one-mark y x both)
        ∙ ap (λ (n : ℕ). mark (not (on || (not on && y)) && x) d (mark (not on && y) n both)) same
        ∙ sym (gathered' (not (on || (not on && y)) && x) (not on && y))

-- and as many notifications in either order
pub one-notification : (on x y : Bool)
    → one-if (not on && x) + (one-if (not (on || (not on && x)) && y) + 0)
    ≡ one-if (not on && y) + (one-if (not (on || (not on && y)) && x) + 0)
one-notification true x y = refl
one-notification false true true = refl
one-notification false true false = refl
one-notification false false true = refl
one-notification false false false = refl
