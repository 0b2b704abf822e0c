-- Bits that are set and cleared in the lent run, one by one.
use Prim.Native.Nat.{ℕ, ◌+◌, ◌-◌, ◌*◌, ◌/◌, ◌%◌, ◌^◌, ◌≤◌, ◌<◌}
use mathlib.Core.Bool.{Bool, true, false, not, ◌&&◌, ◌||◌, or-false, and-true, and-false}
use mathlib.Core.List.{List}
use mathlib.Core.Path.{◌≡◌, refl, ap, sym, ◌∙◌}
use native.Mathlib.Decide.{dec_le}
use native.Mathlib.Omega.{arith}
use native.Mathlib.Nat.{mod-lt, add-mul, one-mul}
use borrow.Author.Tests.{ne_eqb, eqb-true, eqb-false}
use lib.Bits.{or_lt}
use lib.Dec.{eqb}
use lib.ListN.{length, get_or, set, length-set}
use lib.Arith.{digits_div}
use lib.Pow.{pow-lt, pow_pos, split}
use lib.Seq.{get_or-set_same, get_or-set_other, set_out}
use Rattle.image.specs.Bits.{bits, bit}
use Rattle.std.specs.Prelude.{if◌then◌else◌}
use Rattle.image.proofs.Bytes.{AreBytes}
use Rattle.image.specs.Windows.{windows_of, Spot, nowhere, here, on_spot, spot_in, bad_windows}
use Rattle.interrupts.specs.Claims.{bit_at}
use Rattle.interrupts.specs.Descriptor.{Notification, silent, notification}
use Rattle.interrupts.specs.Interrupts.{InterruptOutcome, passed, remapped, posted, blocked, refused}
use Rattle.interrupts.specs.Post.{with_bit, set_bit, notified, interrupt_written}
use Rattle.interrupts.proofs.Exact.{bit-with}
use Rattle.interrupts.proofs.Hosts.{store_at}
use Rattle.interrupts.proofs.Posts.{one_bit, or-power}
use Rattle.takes.specs.Take.{without_bit, clear_bit}

pub length-clear_bit : (image : List ℕ) (descriptor place : ℕ) → length (clear_bit descriptor place image) ≡ length image
unfolding clear_bit
length-clear_bit image descriptor place = simp length-set

-- a byte with a bit clear, bit by bit
module _ (byte place : ℕ) where
  lowered : bit byte place ≡ true → (2 ^ place ≤ byte) × (bit (byte - 2 ^ place) place ≡ false)
  lowered set =
      let one : byte / 2 ^ place % 2 ≡ 1 = sym (one_bit byte place) ∙ eqb-true (bits byte place place) 1 set in
      let k = byte / 2 ^ place - 1 in
      let high : byte / 2 ^ place ≡ k + 1 = omega arith in
      let whole : byte / 2 ^ place * 2 ^ place + byte % 2 ^ place ≡ byte = split byte place in
      let more : (k + 1) * 2 ^ place ≡ k * 2 ^ place + 1 * 2 ^ place = add-mul k 1 (2 ^ place) in
      let parts : k * 2 ^ place + 1 * 2 ^ place + byte % 2 ^ place ≡ byte = ap (λ (n : ℕ). n + byte % 2 ^ place) (sym (ap (λ (n : ℕ). n * 2 ^ place) high ∙ more)) ∙ whole in
      let unit : 1 * 2 ^ place ≡ 2 ^ place = one-mul (2 ^ place) in
      let rest : byte - 2 ^ place ≡ k * 2 ^ place + byte % 2 ^ place = omega arith in
      let top : (byte - 2 ^ place) / 2 ^ place ≡ k = ap (λ (n : ℕ). n / 2 ^ place) rest ∙ digits_div k (mod-lt byte (pow_pos place)) in
      let even : (byte - 2 ^ place) / 2 ^ place % 2 ≡ 0 = rw top (omega arith) in
      (omega arith, ne_eqb (bits (byte - 2 ^ place) place place) 1 (λ h. omega (arith, one_bit (byte - 2 ^ place) place)))

  pub bit-without : (other : ℕ) → bit (without_bit place byte) other ≡ (bit byte other && not (eqb other place))
  bit-without other = go (bit byte place) refl (eqb other place) refl
    where
      go : (s : Bool) → bit byte place ≡ s → (t : Bool) → eqb other place ≡ t
          → bit (if s then byte - 2 ^ place else byte) other ≡ (bit byte other && not t)
      go true e true same =
          ap (bit (byte - 2 ^ place)) (eqb-true other place same) ∙ (lowered e).1 ∙ sym (and-false (bit byte other))
      go true e false apart =
          let low = byte - 2 ^ place in
          let back : with_bit place low ≡ byte = rw (lowered e).1 (omega (arith, (lowered e).0)) in
          sym (or-false (bit low other)) ∙ ap (λ (t : Bool). bit low other || t) (sym apart) ∙ sym (bit-with low place other)
          ∙ ap (λ (n : ℕ). bit n other) back ∙ sym (and-true (bit byte other))
      go false e true same =
          ap (bit byte) (eqb-true other place same) ∙ e ∙ sym (and-false (bit byte other))
      go false e false apart = sym (and-true (bit byte other))

  pub without-below : byte < 256 → without_bit place byte < 256
  without-below h = go (bit byte place)
    where
      go : (t : Bool) → (if t then byte - 2 ^ place else byte) < 256
      go true = omega arith
      go false = h

  pub with-below : byte < 256 → place < 8 → with_bit place byte < 256
  with-below h p = rw (or-power byte place) at (or_lt 8 byte (2 ^ place) h (pow-lt p))

-- what stands at a place of a run of bytes after a store
pub bytes-set : (image : List ℕ) (at value : ℕ) → AreBytes image → value < 256 → AreBytes (set image at value)
bytes-set image at value bytes h n = go (eqb n at) refl (dec_le (length image) at)
  where
    go : (t : Bool) → eqb n at ≡ t → Dec (length image ≤ at) → get_or (set image at value) n 0 < 256
    go true e (yes past) = rw (set_out image at value past) (bytes n)
    go true e (no inside) =
        let same : n ≡ at = eqb-true n at e in
        rw (same, get_or-set_same image at value 0 (omega arith)) h
    go false e d = rw (get_or-set_other image at n value 0 (eqb-false n at e)) (bytes n)

module _ (image : List ℕ) (bytes : AreBytes image) (descriptor place : ℕ) where
  pub bytes-set_bit : AreBytes (set_bit descriptor place image)
  unfolding set_bit
  bytes-set_bit =
      let at = descriptor + place / 8 in
      bytes-set image at _ bytes (with-below (get_or image at 0) (place % 8) (bytes at) (omega arith))

  pub bytes-clear_bit : AreBytes (clear_bit descriptor place image)
  unfolding clear_bit
  bytes-clear_bit =
      let at = descriptor + place / 8 in
      bytes-set image at _ bytes (without-below (get_or image at 0) (place % 8) (bytes at))

pub bytes-written : (windows image : List ℕ) → AreBytes image → (o : InterruptOutcome) → AreBytes (interrupt_written windows o image)
bytes-written windows image bytes (posted d u m) = by m (spot_in (windows_of windows) 64 d)
  where
    by : (m : Notification) (s : Spot) → AreBytes (on_spot s image (λ at left. notified at m (set_bit at u image)))
    by m nowhere = bytes
    by silent (here at left) = bytes-set_bit image bytes at u
    by (notification v t) (here at left) = bytes-set_bit (set_bit at u image) (bytes-set_bit image bytes at u) at 256
bytes-written windows image bytes passed = bytes
bytes-written windows image bytes (remapped r) = bytes
bytes-written windows image bytes (blocked f) = bytes
bytes-written windows image bytes (refused number) = bytes

-- the run with a bit of a descriptor clear, bit by bit and by host address
pub host-clear : (windows bytes : List ℕ) → bad_windows windows (length bytes) ≡ false → (descriptor : ℕ) {k left : ℕ}
    → spot_in (windows_of windows) 64 descriptor ≡ here k left → (place : ℕ) → place < 512 → (n : ℕ)
    → bit_at windows (clear_bit k place bytes) n ≡ (bit_at windows bytes n && not (eqb n (8 * descriptor + place)))
unfolding clear_bit
host-clear = store_at (λ a b. a && not b) and-true without_bit bit-without

-- a byte of the run in which no bit of a descriptor is cleared
pub uncleared : (bytes : List ℕ) (at place k : ℕ) → (k ≡ at + place / 8 → ⊥) → get_or (clear_bit at place bytes) k 0 ≡ get_or bytes k 0
unfolding clear_bit
uncleared bytes at place k other = get_or-set_other bytes (at + place / 8) k _ 0 other
