-- A take: what it met, and bit by bit what it leaves.
use Prim.Native.Nat.{ℕ, ◌+◌, ◌-◌, ◌*◌, ◌/◌, ◌%◌, ◌<◌}
use mathlib.Core.Bool.{Bool, true, false, not, ◌&&◌, and-true}
use mathlib.Core.List.{List}
use mathlib.Core.Path.{◌≡◌, refl, ap, sym, ◌∙◌}
use native.Mathlib.Omega.{arith}
use borrow.Author.Tests.{ne_eqb, eqb-true, not-false}
use lib.Dec.{eqb}
use lib.ListN.{length, get_or}
use Rattle.image.specs.Bits.{bit}
use Rattle.std.specs.Prelude.{if◌then◌else◌}
use Rattle.image.specs.Memory.{Memory, Fetched, missing, found, on_fetch, entry}
use Rattle.image.specs.Rules.{answer, run}
use Rattle.image.specs.Windows.{windows_of, Spot, nowhere, here, on_spot, spot_in, of_windows, bad_windows}
use Rattle.image.proofs.Bytes.{AreBytes}
use Rattle.image.proofs.Choices.{chosen}
use Rattle.image.proofs.WindowBytes.{byte-spot}
use Rattle.image.proofs.WindowEntries.{whole-at}
use Rattle.registers.specs.Registers.{registers_bad}
use Rattle.registers.specs.declared.Registers.{Registers}
use Rattle.interrupts.specs.Claims.{bit_at, Shows}
use Rattle.interrupts.proofs.EntryBits.{entry-bit}
use Rattle.takes.specs.Claims.{clears, ClearsExactly, TakesStayInside, HandsHighest, NoneStands}
use Rattle.takes.specs.Runs.{stands, unrefused}
use Rattle.takes.specs.Take.{TakeOutcome, handed, none, refused, highest, take_rules, clear_bit, take_written, take_answer}
use Rattle.takes.proofs.Bools.{and-not-or}
use Rattle.takes.proofs.Highest.{Finds, finds, highest-same}
use Rattle.takes.proofs.Stores.{length-clear_bit, bytes-clear_bit, host-clear, uncleared}

pub bytes-taken : (windows bytes : List ℕ) → AreBytes bytes → (d : ℕ) (o : TakeOutcome) → AreBytes (take_written windows d o bytes)
bytes-taken windows bytes are d (handed h) = by (spot_in (windows_of windows) 64 d)
  where
    by : (s : Spot) → AreBytes (on_spot s bytes (λ at left. clear_bit at h (clear_bit at 256 bytes)))
    by nowhere = are
    by (here at left) = bytes-clear_bit (clear_bit at 256 bytes) (bytes-clear_bit bytes are at 256) at h
bytes-taken windows bytes are d none = by (spot_in (windows_of windows) 64 d)
  where
    by : (s : Spot) → AreBytes (on_spot s bytes (λ at left. clear_bit at 256 bytes))
    by nowhere = are
    by (here at left) = bytes-clear_bit bytes are at 256
bytes-taken windows bytes are d (refused number) = are

-- an unrefused take's descriptor is 64-aligned and stands whole in a window, of windows that aren't refused
pub record Standing (windows bytes : List ℕ) (d : ℕ) : Type 0 where
  pub good : bad_windows windows (length bytes) ≡ false
  pub aligned : d % 64 ≡ 0
  pub place : ℕ
  pub left : ℕ
  pub there : spot_in (windows_of windows) 64 d ≡ here place left

-- and its vector is one of 256
abbrev pub Whole : (windows bytes : List ℕ) (d : ℕ) → TakeOutcome → Type 0
Whole windows bytes d (handed h) = Standing windows bytes d × (h < 256)
Whole windows bytes d none = Standing windows bytes d
Whole windows bytes d (refused number) = Unit {0}

-- and the answer is that of its request bits
abbrev pub Took : (windows bytes : List ℕ) (d : ℕ) → TakeOutcome → Type 0
Took windows bytes d (handed h) = Standing windows bytes d × Finds (stands windows d bytes) 256 (handed h)
Took windows bytes d none = Standing windows bytes d × Finds (stands windows d bytes) 256 none
Took windows bytes d (refused number) = Unit {0}

-- any rule that holds of refusals and, once the descriptor is fetched, of its highest bit holds of a take
module _ (registers : Registers) (d : ℕ) (windows bytes : List ℕ) (P : TakeOutcome → Type 0) (refuses : (number : ℕ) → P (refused number)) where
  by-rules : (Standing windows bytes d → (e : ℕ) → entry 8 (of_windows windows bytes) d ≡ found e → P (highest 256 (bit e)))
      → P (take_answer registers d windows bytes)
  unfolding take_rules run
  by-rules answered =
      chosen P (bad_windows windows (length bytes)) (λ h. refuses 1)
      (λ good. chosen (λ q. P (run q m)) (registers_bad registers) (λ h. refuses 1)
      (λ h. chosen (λ q. P (run q m)) (not (eqb (d % 64) 0)) (λ h. refuses 5)
      (λ aligned. by good (eqb-true (d % 64) 0 (not-false _ aligned)) (entry 8 m d) refl)))
    where
      m : Memory
      m = of_windows windows bytes

      by : bad_windows windows (length bytes) ≡ false → d % 64 ≡ 0 → (f : Fetched) → entry 8 m d ≡ f → P (on_fetch f (refused 5) (λ e. highest 256 (bit e)))
      by good aligned missing h = refuses 5
      by good aligned (found e) h =
          let w = whole-at windows bytes good 7 d (omega arith) h in
          answered (record { good = good; aligned = aligned; place = w.place; left = w.left; there = w.spot }) e h

module _ (registers : Registers) (d : ℕ) (windows bytes : List ℕ) where
  pub whole : Whole windows bytes d (take_answer registers d windows bytes)
  whole =
      by-rules registers d windows bytes (Whole windows bytes d) (λ number. tt)
      (λ s e there. seen (bit e) s (highest 256 (bit e)) (finds (bit e) 256))
    where
      seen : (test : ℕ → Bool) → Standing windows bytes d → (o : TakeOutcome) → Finds test 256 o → Whole windows bytes d o
      seen test s (handed h) f = (s, f.0)
      seen test s none f = s
      seen test s (refused number) f = tt

  pub took : AreBytes bytes → Took windows bytes d (take_answer registers d windows bytes)
  took are =
      by-rules registers d windows bytes (Took windows bytes d) (λ number. tt)
      (λ s e there.
      rw (highest-same (bit e) (stands windows d bytes) 256 (λ k b. entry-bit windows bytes s.good are 8 d k there (omega arith)))
      (seen s (highest 256 (stands windows d bytes)) (finds (stands windows d bytes) 256)))
    where
      seen : Standing windows bytes d → (o : TakeOutcome) → Finds (stands windows d bytes) 256 o → Took windows bytes d o
      seen s (handed h) f = (s, f)
      seen s none f = (s, f)
      seen s (refused number) f = tt

pub took-whole : (windows bytes : List ℕ) (d : ℕ) (o : TakeOutcome) → Took windows bytes d o → Whole windows bytes d o
took-whole windows bytes d (handed h) t = (t.0, t.1.0)
took-whole windows bytes d none t = t.0
took-whole windows bytes d (refused number) t = tt

pub unaligned-refused : (registers : Registers) (d : ℕ) (windows bytes : List ℕ) → (d % 64 ≡ 0 → ⊥)
    → unrefused (take_answer registers d windows bytes) ≡ false
unfolding take_rules run
unaligned-refused registers d windows bytes h =
    rw (ne_eqb (d % 64) 0 h) (chosen (λ o. unrefused o ≡ false) (bad_windows windows (length bytes)) (λ bad. refl) (λ good. go (registers_bad registers)))
  where
    go : (t : Bool) → unrefused (run (if t then answer (refused 1) else answer (refused 5)) (of_windows windows bytes)) ≡ false
    go true = refl
    go false = refl

-- what a take writes, at the place where its descriptor stands
module _ (windows bytes : List ℕ) (d : ℕ) {k left : ℕ} (there : spot_in (windows_of windows) 64 d ≡ here k left) where
  pub handed-there : (h : ℕ) → take_written windows d (handed h) bytes ≡ clear_bit k h (clear_bit k 256 bytes)
  handed-there h = rw there

  pub none-there : take_written windows d none bytes ≡ clear_bit k 256 bytes
  none-there = rw there

-- what a take leaves, bit by bit
pub taken_at : (windows bytes : List ℕ) (d : ℕ) (o : TakeOutcome) → Whole windows bytes d o → (n : ℕ)
    → bit_at windows (take_written windows d o bytes) n ≡ (bit_at windows bytes n && not (clears d o n))
taken_at windows bytes d (handed h) w n =
    let s = w.0 in
    let k = s.place in
    let below = w.1 in
    let still : bad_windows windows (length (clear_bit k 256 bytes)) ≡ false = rw (length-clear_bit bytes k 256) s.good in
    rw (handed-there windows bytes d s.there h)
    (host-clear windows (clear_bit k 256 bytes) still d s.there h (omega arith) n
    ∙ ap (λ (t : Bool). t && not (eqb n (8 * d + h))) (host-clear windows bytes s.good d s.there 256 (omega arith) n)
    ∙ and-not-or (bit_at windows bytes n) (eqb n (8 * d + 256)) (eqb n (8 * d + h)))
taken_at windows bytes d none s n =
    rw (none-there windows bytes d s.there) (host-clear windows bytes s.good d s.there 256 (omega arith) n)
taken_at windows bytes d (refused number) w n = sym (and-true (bit_at windows bytes n))

pub clears-exactly : ClearsExactly
clears-exactly registers d windows bytes =
    taken_at windows bytes d (take_answer registers d windows bytes) (whole registers d windows bytes)

module _ (windows bytes : List ℕ) (d : ℕ) where
  length_taken : (o : TakeOutcome) → Whole windows bytes d o → length (take_written windows d o bytes) ≡ length bytes
  length_taken (handed h) w =
      let k = w.0.place in
      rw (handed-there windows bytes d w.0.there h) (length-clear_bit (clear_bit k 256 bytes) k h ∙ length-clear_bit bytes k 256)
  length_taken none s = rw (none-there windows bytes d s.there) (length-clear_bit bytes s.place 256)
  length_taken (refused number) w = refl

  module _ (place : ℕ) (never : (at : ℕ) → Shows windows at place → ⊥) where
    off : (s : Standing windows bytes d) (p : ℕ) → p < 512 → place ≡ s.place + p / 8 → ⊥
    off s p small e =
        let byte = byte-spot windows (length bytes) s.good 64 d (p / 8) s.there (omega arith) in
        never (d + p / 8) (s.left - p / 8, byte ∙ ap (λ (x : ℕ). here x (s.left - p / 8)) (sym e))

    unshown : (o : TakeOutcome) → Whole windows bytes d o → get_or (take_written windows d o bytes) place 0 ≡ get_or bytes place 0
    unshown (handed h) w =
        let k = w.0.place in
        let below = w.1 in
        rw (handed-there windows bytes d w.0.there h)
        (uncleared (clear_bit k 256 bytes) k h place (off w.0 h (omega arith)) ∙ uncleared bytes k 256 place (off w.0 256 (omega arith)))
    unshown none s =
        rw (none-there windows bytes d s.there) (uncleared bytes s.place 256 place (off s 256 (omega arith)))
    unshown (refused number) w = refl

pub takes-stay-inside : TakesStayInside
takes-stay-inside registers d windows bytes =
    let o = take_answer registers d windows bytes in
    let w = whole registers d windows bytes in
    (length_taken windows bytes d o w, λ place never. unshown windows bytes d place never o w)

pub hands-highest : HandsHighest
hands-highest registers d windows bytes are v e =
    let t : Took windows bytes d (handed v) = rw e at (took registers d windows bytes are) in
    t.1

pub none-stands : NoneStands
none-stands registers d windows bytes are e =
    let t : Took windows bytes d none = rw e at (took registers d windows bytes are) in
    t.1
