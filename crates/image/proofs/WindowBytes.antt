-- Bytes by host address: two windows never share one, and those of a word stand side by side in the run.
use Rattle.std.proofs.Common.{◌≡◌, ℕ, zero, suc, ◌+◌, ◌-◌, ◌<◌, ◌≤◌, Bool, true, false, List, [], ◌∷◌, length, get_or, take, drop, refl, ap, ◌∙◌, arith}
use native.Mathlib.Decide.{dec_le}
use Rattle.std.specs.Prelude.{if◌then◌else◌}
use Rattle.image.specs.Windows.{Window, windows_of, end_of, holds_all, here, spot_in, byte_at, bad_windows}
use Rattle.image.proofs.GoodWindows.{GoodWithAll, Good, good, not-over, held, holding, past-it, spot-first, spot-next}
use Rattle.image.proofs.WindowEntries.{all_after, spot_in_lem, spot-none}
use Rattle.image.proofs.Words.{bytes_from, part}

-- a place in one window's part of the run is in none of the others'
apart-spot : (w : Window) (ws : List Window) (at : ℕ) {place left : ℕ} → GoodWithAll w ws → spot_in ws 1 at ≡ here place left
    → w.place ≤ place → place < w.place + w.size → ⊥
unfolding GoodWithAll spot_in
apart-spot w [] at g h low high = let z : ◌≡◌ {A = ℕ} 0 1 = cc in absurd (omega arith)
apart-spot w (v ∷ vs) at {place} {left} g h low high = go (holds_all v 1 at) refl h (λ e. apart-spot w vs at g.1 e low high)
  where
    go : (t : Bool) → holds_all v 1 at ≡ t
        → (if t then here (v.place + (at - v.start)) (end_of v - at) else spot_in vs 1 at) ≡ here place left
        → (spot_in vs 1 at ≡ here place left → ⊥) → ⊥
    go true e h rest =
        let lies = held v 1 at e in
        let is : place ≡ v.place + (at - v.start) = cc in
        let off = not-over w.place w.size v.place v.size g.0.apart (omega (arith, lies.0, lies.1)) in
        omega (arith, lies.0, lies.1)
    go false e h rest = rest h

one_place : (run : ℕ) (ws : List Window) (a b : ℕ) {place left left' : ℕ} → Good ws run → spot_in ws 1 a ≡ here place left
    → spot_in ws 1 b ≡ here place left' → a ≡ b
unfolding Good spot_in
one_place run [] a b g h h' = let z : ◌≡◌ {A = ℕ} 0 1 = cc in absurd (omega arith)
one_place run (w ∷ ws) a b {place} {left} {left'} g h h' =
    go (holds_all w 1 a) (holds_all w 1 b) refl refl h h' (λ p q. one_place run ws a b g.2 p q)
  where
    go : (s t : Bool) → holds_all w 1 a ≡ s → holds_all w 1 b ≡ t
        → (if s then here (w.place + (a - w.start)) (end_of w - a) else spot_in ws 1 a) ≡ here place left
        → (if t then here (w.place + (b - w.start)) (end_of w - b) else spot_in ws 1 b) ≡ here place left'
        → (spot_in ws 1 a ≡ here place left → spot_in ws 1 b ≡ here place left' → a ≡ b) → a ≡ b
    go true true e e' h h' rest =
        let lies = held w 1 a e in
        let lies' = held w 1 b e' in
        let is : place ≡ w.place + (a - w.start) = cc in
        let is' : place ≡ w.place + (b - w.start) = cc in
        omega (arith, lies.0, lies'.0)
    go true false e e' h h' rest =
        let lies = held w 1 a e in
        let is : place ≡ w.place + (a - w.start) = cc in
        absurd (apart-spot w ws b g.1 h' (omega arith) (omega (arith, lies.0, lies.1)))
    go false true e e' h h' rest =
        let lies = held w 1 b e' in
        let is : place ≡ w.place + (b - w.start) = cc in
        absurd (apart-spot w ws a g.1 h (omega arith) (omega (arith, lies.0, lies.1)))
    go false false e e' h h' rest = rest h h'

-- a byte of a span that lies whole in a window
byte_of : (run : ℕ) (ws : List Window) (size at i : ℕ) {place left : ℕ} → Good ws run → spot_in ws size at ≡ here place left → i < size
    → spot_in ws 1 (at + i) ≡ here (place + i) (left - i)
unfolding Good spot_in
byte_of run [] size at i g h in-it = let z : ◌≡◌ {A = ℕ} 0 1 = cc in absurd (omega arith)
byte_of run (w ∷ ws) size at i {place} {left} g h in-it =
    go (holds_all w size at) refl h (λ e. byte_of run ws size at i g.2 e in-it) (dec_le (end_of w) at)
  where
    go : (t : Bool) → holds_all w size at ≡ t
        → (if t then here (w.place + (at - w.start)) (end_of w - at) else spot_in ws size at) ≡ here place left
        → (spot_in ws size at ≡ here place left → spot_in ws 1 (at + i) ≡ here (place + i) (left - i)) → Dec (end_of w ≤ at)
        → spot_in (w ∷ ws) 1 (at + i) ≡ here (place + i) (left - i)
    go true e h rest past =
        let lies = held w size at e in
        let is : place ≡ w.place + (at - w.start) = cc in
        let has : left ≡ end_of w - at = cc in
        let p : w.place + (at + i - w.start) ≡ place + i = omega (arith, lies.0) in
        let l : end_of w - (at + i) ≡ left - i = omega arith in
        spot-first w 1 (at + i) ws (holding w 1 (at + i) (omega (arith, lies.0)) (omega (arith, lies.1))) ∙ rw (p, l)
    go false e h rest (yes past) = spot-next w 1 (at + i) ws (past-it w 1 (at + i) (omega arith)) ∙ rest h
    go false e h rest (no past) =
        let none = spot-none ws size at (all_after w ws at g.1 (omega arith)) in
        let z : ◌≡◌ {A = ℕ} 0 1 = cc in
        absurd (omega arith)

-- so many bytes from a host address
unfoldable pub bytes_at : (numbers run : List ℕ) → (n at : ℕ) → List ℕ
bytes_at numbers run zero at = []
bytes_at numbers run (suc n) at = byte_at numbers run at ∷ bytes_at numbers run n (at + 1)

module _ (numbers : List ℕ) (len : ℕ) (fine : bad_windows numbers len ≡ false) where
  -- two windows never share a byte of the run
  pub one_address : (a b : ℕ) {place left left' : ℕ} → spot_in (windows_of numbers) 1 a ≡ here place left
      → spot_in (windows_of numbers) 1 b ≡ here place left' → a ≡ b
  one_address a b h h' = one_place len (windows_of numbers) a b (good numbers len fine) h h'

  pub byte-spot : (size at i : ℕ) {place left : ℕ} → spot_in (windows_of numbers) size at ≡ here place left → i < size
      → spot_in (windows_of numbers) 1 (at + i) ≡ here (place + i) (left - i)
  byte-spot size at i h in-it = byte_of len (windows_of numbers) size at i (good numbers len fine) h in-it

-- the bytes of a span that lies whole in a window are those at its host addresses
module _ (numbers run : List ℕ) (fine : bad_windows numbers (length run) ≡ false) (size at : ℕ) {place left : ℕ}
    (spot : spot_in (windows_of numbers) size at ≡ here place left) where
  pub byte-there : (i : ℕ) → i < size → byte_at numbers run (at + i) ≡ get_or run (place + i) 0
  unfolding byte_at
  byte-there i h = rw (byte-spot numbers (length run) fine size at i spot h)

  bytes-from : (n i : ℕ) → i + n ≤ size → bytes_from run n (place + i) ≡ bytes_at numbers run n (at + i)
  unfolding bytes_from bytes_at
  bytes-from zero i h = refl
  bytes-from (suc n) i h =
      let p : place + i + 1 ≡ place + (i + 1) = omega arith in
      let q : at + i + 1 ≡ at + (i + 1) = omega arith in
      rw (byte-there i (omega arith), p, q) (ap (λ (l : List ℕ). get_or run (place + i) 0 ∷ l) (bytes-from n (i + 1) (omega arith)))

  pub by_bytes : take size (drop place run) ≡ bytes_at numbers run size at
  by_bytes =
      let lies = spot_in_lem (length run) (windows_of numbers) size at (good numbers (length run) fine) spot in
      let p : place + 0 ≡ place = omega arith in
      let q : at + 0 ≡ at = omega arith in
      part run size place (omega (arith, lies.0, lies.1)) ∙ (rw (p, q) at (bytes-from size 0 (omega arith)))
