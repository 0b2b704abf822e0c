-- A word of lent memory is spelled by the bytes at its 8 host addresses, also where a window ends in it: then one of them isn't shown.
use Prim.Native.Nat.{ℕ, zero, suc, ◌+◌, ◌-◌, ◌*◌, ◌/◌, ◌%◌, ◌≤◌, ◌<◌}
use mathlib.Core.Bool.{Bool, true, false}
use mathlib.Core.Path.{◌≡◌, refl, sym, ◌∙◌}
use mathlib.Core.List.{List, [], ◌∷◌, Memᴰ}
use native.Mathlib.Decide.{dec_le}
use native.Mathlib.Omega.{arith}
use borrow.Author.Tests.{le-leb, lt-leb}
use lib.Dec.{leb}
use lib.ListN.{length}
use Rattle.image.specs.Bits.{bits}
use Rattle.image.specs.Bytes.{little_endian}
use Rattle.std.specs.Prelude.{if◌then◌else◌}
use Rattle.image.specs.Memory.{Fetched, missing, found}
use Rattle.image.specs.Windows.{Window, windows_of, end_of, holds_all, Spot, nowhere, here, on_spot, spot_in, entry_in, of_windows}
use Rattle.image.proofs.GoodWindows.{GoodWithAll, Good, good, held, holding, before-it, past-it, spot-next}
use Rattle.image.proofs.WindowBytes.{byte-spot}
use Rattle.image.proofs.WindowEntries.{AllFrom, spot_in_lem, spot-none, wider}
use Rattle.image.proofs.Words.{bytes_from, part}
use Rattle.dma.specs.Isolation.{SwitchedEntry, BothFetched, Switched}
use Rattle.unit.specs.Lent.{Lent, memory_of, spot_of, byte_of, SwitchedAt, ShowsAll}

-- a byte in front of the number that the bytes after it spell, and so many bytes from an address
abbrev front : Fetched → Fetched → Fetched
front missing rest = missing
front (found b) missing = missing
front (found b) (found rest) = found (b + 256 * rest)

unfoldable joined : ℕ → (ℕ → Fetched) → ℕ → Fetched
joined zero bytes at = found 0
joined (suc n) bytes at = front (bytes at) (joined n bytes (at + 1))

front-missing : (f : Fetched) → front f missing ≡ missing
front-missing missing = refl
front-missing (found b) = refl

joined-missing : (n : ℕ) (bytes : ℕ → Fetched) (at i : ℕ) → i < n → bytes (at + i) ≡ missing → joined n bytes at ≡ missing
unfolding joined
joined-missing zero bytes at i h none = absurd (omega arith)
joined-missing (suc n) bytes at zero h none = let here : at + 0 ≡ at = omega arith in rw (rw here at none)
joined-missing (suc n) bytes at (suc i) h none =
    let there : at + suc i ≡ at + 1 + i = omega arith in
    rw (joined-missing n bytes (at + 1) i (omega arith) (rw there at none)) (front-missing (bytes at))

joined_same : (n : ℕ) (bytes bytes' : ℕ → Fetched) (at : ℕ) → ((k : ℕ) → at ≤ k → k < at + n → bytes' k ≡ bytes k)
    → joined n bytes' at ≡ joined n bytes at
unfolding joined
joined_same zero bytes bytes' at same = refl
joined_same (suc n) bytes bytes' at same =
    rw (same at (omega arith) (omega arith), joined_same n bytes bytes' (at + 1) (λ k from to. same k (omega arith) (omega arith)))

joined-kept : (n : ℕ) (bytes bytes' : ℕ → Fetched) (at w : ℕ) → ((k b : ℕ) → bytes k ≡ found b → bytes' k ≡ found b)
    → joined n bytes at ≡ found w → joined n bytes' at ≡ found w
unfolding joined
joined-kept zero bytes bytes' at w kept h = h
joined-kept (suc n) bytes bytes' at w kept h =
    by (bytes at) (joined n bytes (at + 1)) refl refl h (λ r. joined-kept n bytes bytes' (at + 1) r kept)
  where
    by : (f g : Fetched) → bytes at ≡ f → joined n bytes (at + 1) ≡ g → front f g ≡ found w
        → ((r : ℕ) → joined n bytes (at + 1) ≡ found r → joined n bytes' (at + 1) ≡ found r)
        → front (bytes' at) (joined n bytes' (at + 1)) ≡ found w
    by missing g first rest h ih = let z : ◌≡◌ {A = ℕ} 0 1 = cc in absurd (omega arith)
    by (found b) missing first rest h ih = let z : ◌≡◌ {A = ℕ} 0 1 = cc in absurd (omega arith)
    by (found b) (found r) first rest h ih = rw (kept at b first, ih r rest) h

-- no window shows the byte behind a window's last one, but where a page begins there
all-behind : (run : ℕ) (w : Window) (ws : List Window) (a : ℕ) → Good ws run → GoodWithAll w ws → a ≡ end_of w → (a % 4096 ≡ 0 → ⊥) → AllFrom a ws
unfolding Good GoodWithAll AllFrom
all-behind run w [] a g after is inner = tt
all-behind run w (v ∷ vs) a g after is inner =
    (strictly (dec_le v.start a), all-behind run w vs a g.2 after.1 is inner)
  where
    strictly : Dec (v.start ≤ a) → a < v.start
    strictly (yes h) =
        let same : a ≡ v.start = omega (arith, after.0.sorted) in
        absurd (inner (rw same g.0.aligned))
    strictly (no h) = omega arith

byte-behind : (run : ℕ) (ws : List Window) (at : ℕ) {place left : ℕ} → Good ws run → spot_in ws 1 at ≡ here place left → at % 4096 + left < 4096
    → spot_in ws 1 (at + left) ≡ nowhere
unfolding Good spot_in
byte-behind run [] at g h page = let z : ◌≡◌ {A = ℕ} 0 1 = cc in absurd (omega arith)
byte-behind run (w ∷ ws) at {place} {left} g h page =
    by (holds_all w 1 at) refl h (λ e. byte-behind run ws at g.2 e page) (dec_le w.start at) (dec_le (at + 1) (end_of w))
  where
    by : (t : Bool) → holds_all w 1 at ≡ t
        → (if t then here (w.place + (at - w.start)) (end_of w - at) else spot_in ws 1 at) ≡ here place left
        → (spot_in ws 1 at ≡ here place left → spot_in ws 1 (at + left) ≡ nowhere) → Dec (w.start ≤ at) → Dec (at + 1 ≤ end_of w)
        → spot_in (w ∷ ws) 1 (at + left) ≡ nowhere
    by true e h rest from to =
        let lies = held w 1 at e in
        let has : left ≡ end_of w - at = cc in
        let end : at + left ≡ end_of w = omega (arith, lies.1) in
        spot-next w 1 (at + left) ws (past-it w 1 (at + left) (omega arith))
        ∙ spot-none ws 1 (at + left) (all-behind run w ws (at + left) g.2 g.1 end (λ z. omega (arith, lies.1)))
    by false e h rest (no before) to =
        spot-next w 1 (at + left) ws (before-it w 1 (at + left) (omega (arith, g.0.aligned))) ∙ rest h
    by false e h rest (yes from) (no past) = spot-next w 1 (at + left) ws (past-it w 1 (at + left) (omega arith)) ∙ rest h
    by false e h rest (yes from) (yes to) =
        let z : ◌≡◌ {A = Bool} true false = sym (holding w 1 at from to) ∙ e in
        let y : ◌≡◌ {A = ℕ} 0 1 = cc in
        absurd (omega arith)

module _ (l : Lent) where
  abbrev ws : List Window
  ws = windows_of l.windows

  fine : Good ws (length l.bytes)
  fine = good l.windows (length l.bytes) l.good

  -- whole in a window
  whole-bytes : (at : ℕ) {place left : ℕ} → spot_of l 8 at ≡ here place left → (n i : ℕ) → i + n ≤ 8
      → joined n (byte_of l) (at + i) ≡ found (little_endian (bytes_from l.bytes n (place + i)))
  unfolding joined little_endian bytes_from
  whole-bytes at spot zero i h = refl
  whole-bytes at {place} {left} spot (suc n) i h =
      let next : at + i + 1 ≡ at + (i + 1) = omega arith in
      let next' : place + i + 1 ≡ place + (i + 1) = omega arith in
      rw (byte-spot l.windows (length l.bytes) l.good 8 at i spot (omega arith), next, next', whole-bytes at spot n (i + 1) (omega arith))

  -- the word by its bytes
  word-of-bytes : (at : ℕ) → at % 8 ≡ 0 → memory_of l at ≡ joined 8 (byte_of l) at
  unfolding of_windows entry_in
  word-of-bytes at aligned = by (spot_of l 1 at) refl
    where
      wide : spot_of l 8 at ≡ on_spot (spot_of l 1 at) nowhere (λ place left. if leb 8 left then here place left else nowhere)
      wide = wider (length l.bytes) ws 8 at fine (omega arith)

      held_whole : {place left : ℕ} → spot_of l 8 at ≡ here place left → memory_of l at ≡ joined 8 (byte_of l) at
      held_whole {place} {left} spot =
          let lies = spot_in_lem (length l.bytes) ws 8 at fine spot in
          let p : place + 0 ≡ place = omega arith in
          let q : at + 0 ≡ at = omega arith in
          rw (spot, part l.bytes 8 place (omega (arith, lies.0, lies.1))) (sym (rw (p, q) at (whole-bytes at spot 8 0 (omega arith))))

      ends : (place left : ℕ) → spot_of l 1 at ≡ here place left → Dec (8 ≤ left) → memory_of l at ≡ joined 8 (byte_of l) at
      ends place left first (yes h) = held_whole {place = place} {left = left} (wide ∙ rw (first, le-leb 8 left h))
      ends place left first (no h) =
          let none : spot_of l 8 at ≡ nowhere = wide ∙ rw (first, lt-leb 8 left (omega arith)) in
          let behind = byte-behind (length l.bytes) ws at fine first (omega arith) in
          rw none (sym (joined-missing 8 (byte_of l) at left (omega arith) (rw behind)))

      by : (s : Spot) → spot_of l 1 at ≡ s → memory_of l at ≡ joined 8 (byte_of l) at
      by nowhere first =
          let none : spot_of l 8 at ≡ nowhere = wide ∙ rw first in
          let here-none : byte_of l (at + 0) ≡ missing = let q : at + 0 ≡ at = omega arith in rw (q, first) in
          rw none (sym (joined-missing 8 (byte_of l) at 0 (omega arith) here-none))
      by (here place left) first = ends place left first (dec_le 8 left)

-- the low byte of a word switched
quarter : (b rest : ℕ) → (b + 256 * rest) / 4 ≡ b / 4 + 64 * rest
quarter b rest = omega arith

low_read : (b rest : ℕ) → bits (b + 256 * rest) 0 0 ≡ bits b 0 0
unfolding bits
low_read b rest = omega arith

low-write : (b rest : ℕ) → bits (b + 256 * rest) 1 1 ≡ bits b 1 1
unfolding bits
low-write b rest = omega arith

switch-front : (turned : ℕ → ℕ → Type 0) (f f' rest : Fetched) → BothFetched (SwitchedEntry turned) f f'
    → BothFetched (SwitchedEntry turned) (front f rest) (front f' rest)
switch-front turned missing missing rest both = tt
switch-front turned missing (found b') rest both = absurd both
switch-front turned (found b) missing rest both = absurd both
switch-front turned (found b) (found b') missing both = tt
switch-front turned (found b) (found b') (found r) both =
    record {
      other-bits = rw (quarter b r, quarter b' r, both.other-bits);
      read = rw (low_read b r, low_read b' r) both.read;
      write = rw (low-write b r, low-write b' r) both.write;
    }

-- entries that are words, switched by their low bytes, are switched words
pub words-switched : (turned : ℕ → ℕ → Type 0) (entries : List ℕ) (l l' : Lent) → ((a : ℕ) → Memᴰ a entries → a % 8 ≡ 0)
    → SwitchedAt turned entries l l' → Switched turned entries (memory_of l) (memory_of l')
unfolding joined
words-switched turned entries l l' words at =
    record {
      elsewhere = λ n aligned out.
          rw (word-of-bytes l n aligned, word-of-bytes l' n aligned)
          (joined_same 8 (byte_of l) (byte_of l') n (λ k from to. at.elsewhere k (apart n k aligned out from to)));
      switched = λ n is.
          let aligned = words n is in
          let rest = joined_same 7 (byte_of l) (byte_of l') (n + 1) (λ k from to. at.elsewhere k (λ other. omega (arith, words k other))) in
          rw (word-of-bytes l n aligned, word-of-bytes l' n aligned, rest)
          (switch-front turned (byte_of l n) (byte_of l' n) (joined 7 (byte_of l) (n + 1)) (at.switched n is));
    }
  where
    apart : (n k : ℕ) → n % 8 ≡ 0 → (Memᴰ n entries → ⊥) → n ≤ k → k < n + 8 → Memᴰ k entries → ⊥
    apart n k aligned out from to is =
        let same : k ≡ n = omega (arith, words k is) in
        out (rw (sym same) is)

pub words-kept : (l l' : Lent) → ShowsAll l l' → (at w : ℕ) → at % 8 ≡ 0 → memory_of l at ≡ found w → memory_of l' at ≡ found w
words-kept l l' all at w aligned there =
    word-of-bytes l' at aligned ∙ joined-kept 8 (byte_of l) (byte_of l') at w all (sym (word-of-bytes l at aligned) ∙ there)
