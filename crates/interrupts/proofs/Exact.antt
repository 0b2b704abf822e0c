-- A request sets exactly the bits that its outcome says.
use Prim.Native.Nat.{ℕ, zero, suc, ◌+◌, ◌-◌, ◌*◌, ◌/◌, ◌%◌, ◌^◌, ◌≤◌, ◌<◌}
use mathlib.Core.Bool.{Bool, true, false, ◌&&◌, ◌||◌, or-false, or_assoc}
use mathlib.Core.List.{List}
use mathlib.Core.Path.{◌≡◌, refl, ap, sym, ◌∙◌}
use native.Mathlib.Decide.{dec_le}
use native.Mathlib.Nat.{mod-lt, div-eq_of_lt, mul-mod_left, one-mul}
use native.Mathlib.Omega.{arith}
use borrow.Author.Tests.{eqb-true, eqb-false}
use lib.Bits.{bit_or, or_shr, or_mod, or_zero_r}
use lib.Dec.{eqb}
use lib.ListN.{length, get_or, length-set}
use lib.Pow.{pow-lt, pow-add, shl-shr}
use lib.Seq.{get_or-set_other}
use Rattle.image.specs.Bits.{bits, bit}
use Rattle.image.specs.Windows.{windows_of, Spot, nowhere, here, on_spot, spot_in, bad_windows}
use Rattle.image.proofs.WindowBytes.{byte-spot}
use Rattle.interrupts.specs.Claims.{bit_at, due, sets, Shows, SetsExactly, LeavesAll, StaysInside}
use Rattle.interrupts.specs.Descriptor.{Notification, silent, notification}
use Rattle.interrupts.specs.Interrupts.{InterruptOutcome, passed, remapped, posted, blocked, refused, interrupt_answer}
use Rattle.interrupts.specs.Post.{with_bit, set_bit, notified, interrupt_written}
use Rattle.interrupts.proofs.Hosts.{spot-inside, store_at}
use Rattle.interrupts.proofs.Posts.{one_bit, or-power}
use Rattle.interrupts.proofs.Raised.{Stands, Within, within}

-- bits of `|`, one by one
or-bit : (a b place : ℕ) → bits (bit_or a b) place place ≡ bit_or (bits a place place) (bits b place place)
or-bit a b place =
    one_bit (bit_or a b) place
    ∙ ap (λ (n : ℕ). n % 2) (or_shr a b place)
    ∙ or_mod (a / 2 ^ place) (b / 2 ^ place) 1
    ∙ sym (ap (λ (n : ℕ). bit_or n (bits b place place)) (one_bit a place) ∙ ap (bit_or (a / 2 ^ place % 2)) (one_bit b place))

-- a power of two has one bit
power-same : (place : ℕ) → bits (2 ^ place) place place ≡ 1
power-same place =
    one_bit (2 ^ place) place
    ∙ ap (λ (n : ℕ). n % 2) (ap (λ (n : ℕ). n / 2 ^ place) (sym (one-mul (2 ^ place))) ∙ shl-shr 1 place)

power-other : (place other : ℕ) → (other ≡ place → ⊥) → bits (2 ^ place) other other ≡ 0
power-other place other h = one_bit (2 ^ place) other ∙ go (dec_le other place)
  where
    go : Dec (other ≤ place) → 2 ^ place / 2 ^ other % 2 ≡ 0
    go (yes below) =
        let k = place - other - 1 in
        let gap : place ≡ (k + 1) + other = omega arith in
        ap (λ (n : ℕ). n / 2 ^ other % 2) (ap (λ (n : ℕ). 2 ^ n) gap ∙ pow-add 2 (k + 1) other)
        ∙ ap (λ (n : ℕ). n % 2) (shl-shr (2 ^ (k + 1)) other ∙ pow-add 2 k 1)
        ∙ mul-mod_left (2 ^ k) 2
    go (no above) = ap (λ (n : ℕ). n % 2) (div-eq_of_lt (pow-lt {i = place} {j = other} (omega arith)))

-- a byte with a bit set, bit by bit
pub bit-with : (byte place other : ℕ) → bit (with_bit place byte) other ≡ (bit byte other || eqb other place)
bit-with byte place other = ap (λ (n : ℕ). bit n other) (sym (or-power byte place)) ∙ go (eqb other place) refl
  where
    small : bits byte other other < 2
    small = rw (one_bit byte other) (mod-lt (byte / 2 ^ other) (omega arith))

    filled : (b : ℕ) → b < 2 → eqb (bit_or b 1) 1 ≡ (eqb b 1 || true)
    filled zero h = refl
    filled (suc zero) h = refl
    filled (suc (suc b)) h = absurd (omega arith)

    go : (t : Bool) → eqb other place ≡ t → bit (bit_or byte (2 ^ place)) other ≡ (bit byte other || t)
    go true e =
        let same : other ≡ place = eqb-true other place e in
        ap (λ (n : ℕ). eqb n 1) (or-bit byte (2 ^ place) other ∙ ap (λ (n : ℕ). bit_or (bits byte other other) (bits (2 ^ n) other other)) (sym same) ∙ ap (bit_or (bits byte other other)) (power-same other))
        ∙ filled (bits byte other other) small
    go false e =
        ap (λ (n : ℕ). eqb n 1) (or-bit byte (2 ^ place) other ∙ ap (bit_or (bits byte other other)) (power-other place other (eqb-false other place e)) ∙ or_zero_r (bits byte other other))
        ∙ sym (or-false (bit byte other))

pub length-set_bit : (image : List ℕ) (descriptor place : ℕ) → length (set_bit descriptor place image) ≡ length image
unfolding set_bit
length-set_bit image descriptor place = simp length-set

-- the run with a bit of a descriptor set, bit by bit and by host address
host-at : (windows bytes : List ℕ) → bad_windows windows (length bytes) ≡ false → (descriptor : ℕ) {k left : ℕ}
    → spot_in (windows_of windows) 64 descriptor ≡ here k left → (place : ℕ) → place < 512 → (n : ℕ)
    → bit_at windows (set_bit k place bytes) n ≡ (bit_at windows bytes n || eqb n (8 * descriptor + place))
unfolding set_bit
host-at = store_at (λ a b. a || b) or-false with_bit bit-with

module _ (windows bytes : List ℕ) (descriptor vector : ℕ) (s : Stands windows bytes descriptor vector) where
  post-at : (m : Notification) (n : ℕ)
      → bit_at windows (notified s.place m (set_bit s.place vector bytes)) n
      ≡ (bit_at windows bytes n || (eqb n (8 * descriptor + vector) || due m && eqb n (8 * descriptor + 256)))
  post-at silent n =
      let h = s.small in
      host-at windows bytes s.good descriptor s.there vector (omega arith) n
      ∙ ap (λ (t : Bool). bit_at windows bytes n || t) (sym (or-false (eqb n (8 * descriptor + vector))))
  post-at (notification v d) n =
      let h = s.small in
      let still : bad_windows windows (length (set_bit s.place vector bytes)) ≡ false = rw (length-set_bit bytes s.place vector) s.good in
      host-at windows (set_bit s.place vector bytes) still descriptor s.there 256 (omega arith) n
      ∙ ap (λ (t : Bool). t || eqb n (8 * descriptor + 256)) (host-at windows bytes s.good descriptor s.there vector (omega arith) n)
      ∙ or_assoc (bit_at windows bytes n) (eqb n (8 * descriptor + vector)) (eqb n (8 * descriptor + 256))

-- what a post writes, at the place where its descriptor stands
pub written-there : (windows bytes : List ℕ) (descriptor vector : ℕ) (m : Notification) {k left : ℕ}
    → spot_in (windows_of windows) 64 descriptor ≡ here k left
    → interrupt_written windows (posted descriptor vector m) bytes ≡ notified k m (set_bit k vector bytes)
written-there windows bytes descriptor vector m there = rw there

-- as the code finds that place
module _ (windows bytes : List ℕ) (descriptor : ℕ) {at k left : ℕ} (found_at : at ≡ on_spot (spot_in (windows_of windows) 64 descriptor) 0 (λ place left. place))
    (there : spot_in (windows_of windows) 64 descriptor ≡ here k left) where
  pub at_place : at ≡ k
  at_place = rw there at found_at

  pub at-inside : bad_windows windows (length bytes) ≡ false → at + 64 ≤ length bytes
  at-inside good = rw at_place (spot-inside windows bytes good 64 descriptor there)

  pub written_at : (vector : ℕ) (m : Notification) → notified at m (set_bit at vector bytes) ≡ interrupt_written windows (posted descriptor vector m) bytes
  written_at vector m = rw at_place (sym (written-there windows bytes descriptor vector m there))

pub outcome-at : (windows bytes : List ℕ) (o : InterruptOutcome) → Within windows bytes o → (n : ℕ)
    → bit_at windows (interrupt_written windows o bytes) n ≡ (bit_at windows bytes n || sets o n)
outcome-at windows bytes (posted descriptor vector m) s n =
    rw (written-there windows bytes descriptor vector m s.there) (post-at windows bytes descriptor vector s m n)
outcome-at windows bytes passed h n = sym (or-false (bit_at windows bytes n))
outcome-at windows bytes (remapped r) h n = sym (or-false (bit_at windows bytes n))
outcome-at windows bytes (blocked f) h n = sym (or-false (bit_at windows bytes n))
outcome-at windows bytes (refused number) h n = sym (or-false (bit_at windows bytes n))

pub sets-exactly : SetsExactly
sets-exactly registers request windows bytes =
    outcome-at windows bytes (interrupt_answer registers request windows bytes) (within registers request windows bytes)

length-notified : (at : ℕ) (m : Notification) (bytes : List ℕ) → length (notified at m bytes) ≡ length bytes
length-notified at silent bytes = refl
length-notified at (notification v d) bytes = length-set_bit bytes at 256

pub length-written : (windows bytes : List ℕ) (o : InterruptOutcome) → length (interrupt_written windows o bytes) ≡ length bytes
length-written windows bytes (posted descriptor vector m) = by (spot_in (windows_of windows) 64 descriptor)
  where
    by : (s : Spot) → length (on_spot s bytes (λ at left. notified at m (set_bit at vector bytes))) ≡ length bytes
    by nowhere = refl
    by (here at left) = length-notified at m (set_bit at vector bytes) ∙ length-set_bit bytes at vector
length-written windows bytes passed = refl
length-written windows bytes (remapped r) = refl
length-written windows bytes (blocked f) = refl
length-written windows bytes (refused number) = refl

-- a byte of the run in which no bit of a descriptor is set
pub other_byte : (bytes : List ℕ) (at place k : ℕ) → (k ≡ at + place / 8 → ⊥) → get_or (set_bit at place bytes) k 0 ≡ get_or bytes k 0
unfolding set_bit
other_byte bytes at place k other = get_or-set_other bytes (at + place / 8) k _ 0 other

pub other-bytes : (bytes : List ℕ) (at vector : ℕ) (m : Notification) (k : ℕ) → vector < 256 → ((i : ℕ) → i < 64 → k ≡ at + i → ⊥)
    → get_or (notified at m (set_bit at vector bytes)) k 0 ≡ get_or bytes k 0
other-bytes bytes at vector silent k small off = other_byte bytes at vector k (off (vector / 8) (omega arith))
other-bytes bytes at vector (notification v d) k small off =
    other_byte (set_bit at vector bytes) at 256 k (off 32 (omega arith)) ∙ other_byte bytes at vector k (off (vector / 8) (omega arith))

-- the bits that a post sets
set_is : (d v : ℕ) (t : Bool) (n : ℕ) → v < 256 → (eqb n (8 * d + v) || t && eqb n (8 * d + 256)) ≡ true → (p : ℕ) × (p < 512) × (n ≡ 8 * d + p)
set_is d v t n small h = by (eqb n (8 * d + v)) refl t (eqb n (8 * d + 256)) refl h
  where
    by : (a : Bool) → eqb n (8 * d + v) ≡ a → (t b : Bool) → eqb n (8 * d + 256) ≡ b → (a || t && b) ≡ true → (p : ℕ) × (p < 512) × (n ≡ 8 * d + p)
    by true e t b f h = (v, omega arith, eqb-true n (8 * d + v) e)
    by false e true true f h = (256, omega arith, eqb-true n (8 * d + 256) f)
    by false e true false f h = let z : ◌≡◌ {A = ℕ} 0 1 = cc in absurd (omega arith)
    by false e false b f h = let z : ◌≡◌ {A = ℕ} 0 1 = cc in absurd (omega arith)

module _ (windows bytes : List ℕ) where
  abbrev Lies : ℕ → Type 0
  Lies n = (place : ℕ) × Shows windows (n / 8) place × (place < length bytes)

  set-inside : (o : InterruptOutcome) → Within windows bytes o → (n : ℕ) → sets o n ≡ true → Lies n
  set-inside (posted d v m) s n e =
      let is = set_is d v (due m) n s.small e in
      let p = is.0 in
      let small = is.1 in
      let at : n ≡ 8 * d + p = is.2 in
      let address : d + p / 8 ≡ n / 8 = omega arith in
      let byte = byte-spot windows (length bytes) s.good 64 d (p / 8) s.there (omega arith) in
      let inside = spot-inside windows bytes s.good 64 d s.there in
      (s.place + p / 8, (s.left - p / 8, ap (spot_in (windows_of windows) 1) (sym address) ∙ byte), omega arith)
  set-inside passed h n e = let z : ◌≡◌ {A = ℕ} 0 1 = cc in absurd (omega arith)
  set-inside (remapped r) h n e = let z : ◌≡◌ {A = ℕ} 0 1 = cc in absurd (omega arith)
  set-inside (blocked f) h n e = let z : ◌≡◌ {A = ℕ} 0 1 = cc in absurd (omega arith)
  set-inside (refused number) h n e = let z : ◌≡◌ {A = ℕ} 0 1 = cc in absurd (omega arith)

  unshown : (o : InterruptOutcome) → Within windows bytes o → (place : ℕ) → ((at : ℕ) → Shows windows at place → ⊥)
      → get_or (interrupt_written windows o bytes) place 0 ≡ get_or bytes place 0
  unshown (posted d v m) s place never =
      rw (written-there windows bytes d v m s.there)
      (other-bytes bytes s.place v m place s.small
      (λ i h e. never (d + i) (s.left - i, rw e (byte-spot windows (length bytes) s.good 64 d i s.there h))))
  unshown passed h place never = refl
  unshown (remapped r) h place never = refl
  unshown (blocked f) h place never = refl
  unshown (refused number) h place never = refl

pub stays-inside : StaysInside
stays-inside registers request windows bytes =
    let o = interrupt_answer registers request windows bytes in
    let w = within registers request windows bytes in
    (length-written windows bytes o, set-inside windows bytes o w, unshown windows bytes o w)

unposted : (windows bytes : List ℕ) (o : InterruptOutcome) → ((descriptor vector : ℕ) (m : Notification) → o ≡ posted descriptor vector m → ⊥)
    → interrupt_written windows o bytes ≡ bytes
unposted windows bytes (posted descriptor vector m) h = absurd (h descriptor vector m refl)
unposted windows bytes passed h = refl
unposted windows bytes (remapped r) h = refl
unposted windows bytes (blocked f) h = refl
unposted windows bytes (refused number) h = refl

pub leaves_all : LeavesAll
leaves_all registers request windows bytes = unposted windows bytes (interrupt_answer registers request windows bytes)
