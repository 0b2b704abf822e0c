-- Flags are set exactly: each in its byte, by host address.
use Rattle.std.proofs.Common.{◌≡◌, ℕ, ◌/◌, ◌%◌, ◌<◌, Bool, true, false, ◌&&◌, ◌||◌, eqb, List, [], ◌∷◌, length, get_or, set, sym, refl, ap, ◌∙◌, arith, get_or-set_other, get_or-set_same, eq-eqb, ne_eqb, eqb-true}
use mathlib.Core.Bool.{or-false, or_assoc}
use borrow.Author.Tests.{eqb-false}
use Rattle.image.specs.Bits.{bit}
use Rattle.image.specs.Windows.{windows_of, Spot, nowhere, here, on_spot, spot_in, byte_at, bad_windows}
use Rattle.image.proofs.WindowBytes.{one_address}
use Rattle.interrupts.specs.Claims.{bit_at, Shows}
use Rattle.interrupts.specs.Post.{with_bit}
use Rattle.interrupts.proofs.Exact.{bit-with}
use Rattle.interrupts.proofs.Hosts.{spot-inside}
use Rattle.flags.specs.Claims.{among, is_shown, SetsFlags, StaysInside}
use Rattle.flags.specs.Flags.{set_flag, set_flags}
use Rattle.flags.proofs.Turns.{length-set_flag}

-- the same bit of one byte is the same bit
same_bit : (k n : ℕ) → k / 8 ≡ n / 8 → eqb (k % 8) (n % 8) ≡ eqb k n
same_bit k n same = by (eqb k n) refl
  where
    by : (t : Bool) → eqb k n ≡ t → eqb (k % 8) (n % 8) ≡ t
    by true e = let it : k ≡ n = eqb-true k n e in eq-eqb (k % 8) (n % 8) (omega arith)
    by false e = ne_eqb (k % 8) (n % 8) (λ low. eqb-false k n e (omega arith))

-- one flag, bit by bit
module _ (windows bytes : List ℕ) (good : bad_windows windows (length bytes) ≡ false) (n k : ℕ) where
  apart : {s t : Spot} → spot_in (windows_of windows) 1 (n / 8) ≡ s → spot_in (windows_of windows) 1 (k / 8) ≡ t → (t ≡ s → ⊥) → eqb k n ≡ false
  apart e f other = ne_eqb k n (λ same. other (sym f ∙ ap (λ (x : ℕ). spot_in (windows_of windows) 1 (x / 8)) same ∙ e))

  inside : {p l : ℕ} → spot_in (windows_of windows) 1 (n / 8) ≡ here p l → p < length bytes
  inside e = let room = spot-inside windows bytes good 1 (n / 8) e in omega arith

  set-bit : bit_at windows (set_flag windows n bytes) k ≡ (bit_at windows bytes k || is_shown windows (k / 8) && eqb k n)
  unfolding byte_at set_flag
  set-bit = by (spot_in (windows_of windows) 1 (n / 8)) (spot_in (windows_of windows) 1 (k / 8)) refl refl
    where
      at_place : {p l j r : ℕ} → spot_in (windows_of windows) 1 (n / 8) ≡ here p l → spot_in (windows_of windows) 1 (k / 8) ≡ here j r → (t : Bool) → eqb j p ≡ t
          → bit (get_or (set bytes p (with_bit (n % 8) (get_or bytes p 0))) j 0) (k % 8) ≡ (bit (get_or bytes j 0) (k % 8) || eqb k n)
      at_place {p} {l} {j} {r} e f true h =
          let is : j ≡ p = eqb-true j p h in
          let f' : spot_in (windows_of windows) 1 (k / 8) ≡ here p r = f ∙ ap (λ (x : ℕ). here x r) is in
          let same : k / 8 ≡ n / 8 = one_address windows (length bytes) good (k / 8) (n / 8) f' e in
          rw is
          (ap (λ (b : ℕ). bit b (k % 8)) (get_or-set_same bytes p _ 0 (inside e))
          ∙ bit-with (get_or bytes p 0) (n % 8) (k % 8)
          ∙ ap (λ (t : Bool). bit (get_or bytes p 0) (k % 8) || t) (same_bit k n same))
      at_place {p} {l} {j} {r} e f false h =
          let other = eqb-false j p h in
          rw (apart e f (λ same. other (let z : j ≡ p = cc in z)))
          (ap (λ (b : ℕ). bit b (k % 8)) (get_or-set_other bytes p j _ 0 other) ∙ sym (or-false (bit (get_or bytes j 0) (k % 8))))

      by : (s t : Spot) → spot_in (windows_of windows) 1 (n / 8) ≡ s → spot_in (windows_of windows) 1 (k / 8) ≡ t
          → bit (on_spot t 0 (λ j left. get_or (on_spot s bytes (λ place left. set bytes place (with_bit (n % 8) (get_or bytes place 0)))) j 0)) (k % 8)
          ≡ (bit (on_spot t 0 (λ j left. get_or bytes j 0)) (k % 8) || on_spot t false (λ place left. true) && eqb k n)
      by s nowhere e f = sym (or-false _)
      by nowhere (here j r) e f =
          rw (apart e f (λ same. let z : ◌≡◌ {A = ℕ} 0 1 = cc in omega arith)) (sym (or-false _))
      by (here p l) (here j r) e f = at_place e f (eqb j p) refl

or-and-or : (b s e rest : Bool) → ((b || s && e) || s && rest) ≡ (b || s && (e || rest))
or-and-or b true e rest = or_assoc b e rest
or-and-or b false e rest = or-false (b || false)

pub sets-flags : SetsFlags
unfolding set_flags among
sets-flags windows [] bytes good n = sym (none (bit_at windows bytes n) (is_shown windows (n / 8)))
  where
    none : (b s : Bool) → (b || s && false) ≡ b
    none b true = or-false b
    none b false = or-false b
sets-flags windows (f ∷ rest) bytes good n =
    let still : bad_windows windows (length (set_flag windows f bytes)) ≡ false = rw (length-set_flag windows bytes f) good in
    sets-flags windows rest (set_flag windows f bytes) still n
    ∙ ap (λ (t : Bool). t || is_shown windows (n / 8) && among n rest) (set-bit windows bytes good f n)
    ∙ or-and-or (bit_at windows bytes n) (is_shown windows (n / 8)) (eqb n f) (among n rest)

unshown : (windows bytes : List ℕ) (n place : ℕ) → ((at : ℕ) → Shows windows at place → ⊥) → get_or (set_flag windows n bytes) place 0 ≡ get_or bytes place 0
unfolding set_flag
unshown windows bytes n place never = by (spot_in (windows_of windows) 1 (n / 8)) refl
  where
    by : (s : Spot) → spot_in (windows_of windows) 1 (n / 8) ≡ s
        → get_or (on_spot s bytes (λ place left. set bytes place (with_bit (n % 8) (get_or bytes place 0)))) place 0 ≡ get_or bytes place 0
    by nowhere e = refl
    by (here p l) e = get_or-set_other bytes p place _ 0 (λ same. never (n / 8) (l, e ∙ ap (λ (x : ℕ). here x l) (sym same)))

pub stays-inside : StaysInside
unfolding set_flags
stays-inside windows [] bytes = (refl, λ place never. refl)
stays-inside windows (f ∷ rest) bytes =
    let after = stays-inside windows rest (set_flag windows f bytes) in
    (after.0 ∙ length-set_flag windows bytes f, λ place never. after.1 place never ∙ unshown windows bytes f place never)
