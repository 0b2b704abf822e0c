-- Entries through windows: one that doesn't leave its page is fetched exactly where it lies whole in a single window. Windows begin at
-- multiples of 4096, so that none of its words can stand in one window and the next in another, also where the two touch.
use Rattle.std.proofs.Common.{◌≡◌, ℕ, zero, suc, ◌+◌, ◌-◌, ◌*◌, ◌%◌, ◌<◌, ◌≤◌, min, Bool, true, false, leb, List, [], ◌∷◌, length, take, drop, Option, Some, None, sym, refl, ap, ◌∙◌, subst, arith, length-drop, length-take, le-leb}
use native.Mathlib.Decide.{dec_le}
use borrow.Author.Tests.{lt-leb}
use Rattle.image.specs.Bytes.{little_endian, spell}
use Rattle.std.specs.Prelude.{if◌then◌else◌}
use Rattle.image.specs.Memory.{Memory, Fetched, missing, found, word_at, of_image, entry}
use Rattle.image.specs.Windows.{Window, windows_of, end_of, holds_all, Spot, nowhere, here, on_spot, spot_in, entry_in, of_windows, page_from, bad_window, bad_windows}
use Rattle.image.specs.Spans.{window_by, Holds, Stands}
use Rattle.image.specs.Answers.{HeldBy, PlacedBy}
use Rattle.image.specs.Entry.{EntryLaws}
use Rattle.image.specs.declared.Span.{Span}
use Rattle.image.proofs.GoodWindows.{GoodWithAll, Good, good, good-window, held, holding, before-it, past-it, spot-first, spot-next}
use Rattle.image.proofs.Pages.{in-page}
use Rattle.image.proofs.Words.{words_in, inside, join-missing, spell-run, whole-image}

-- what was spotted lies in the run, with all that its window has from there on
pub spot_in_lem : (run : ℕ) (ws : List Window) (size at : ℕ) {place left : ℕ} → Good ws run → spot_in ws size at ≡ here place left
    → (place + left ≤ run) × (size ≤ left)
unfolding spot_in Good
spot_in_lem run [] size at g h = let z : ◌≡◌ {A = ℕ} 0 1 = cc in absurd (omega arith)
spot_in_lem run (w ∷ ws) size at {place} {left} g h = go (holds_all w size at) refl h (spot_in_lem run ws size at g.2)
  where
    go : (t : Bool) → holds_all w size at ≡ t
        → (if t then here (w.place + (at - w.start)) (end_of w - at) else spot_in ws size at) ≡ here place left
        → (spot_in ws size at ≡ here place left → (place + left ≤ run) × (size ≤ left)) → (place + left ≤ run) × (size ≤ left)
    go true e h rest =
        let lies = held w size at e in
        let is : place ≡ w.place + (at - w.start) = cc in
        let has : left ≡ end_of w - at = cc in
        (omega (arith, lies.0, lies.1, g.0.in_run), omega (arith, lies.0, lies.1))
    go false e h rest = rest h

-- nothing is spotted before every window
unfoldable pub AllFrom : ℕ → List Window → Type 0
AllFrom from [] = Unit {0}
AllFrom from (w ∷ ws) = (from < w.start) × AllFrom from ws

pub spot-none : (ws : List Window) (size at : ℕ) → AllFrom at ws → spot_in ws size at ≡ nowhere
unfolding spot_in AllFrom
spot-none [] size at h = refl
spot-none (w ∷ ws) size at h = rw (before-it w size at h.0) (spot-none ws size at h.1)

-- the windows after one that ends behind an address begin behind it too, and behind all of that address's page
pub all_after : (w : Window) (ws : List Window) (at : ℕ) → GoodWithAll w ws → at < end_of w → AllFrom at ws
unfolding GoodWithAll AllFrom
all_after w [] at after h = tt
all_after w (v ∷ vs) at after h = (omega (arith, after.0.sorted), all_after w vs at after.1 h)

next-page : (run : ℕ) (w : Window) (ws : List Window) (at size a : ℕ) → Good ws run → GoodWithAll w ws → at < end_of w
    → at % 4096 + size ≤ 4096 → a < at + size → AllFrom a ws
unfolding Good GoodWithAll AllFrom
next-page run w [] at size a g after h page in-it = tt
next-page run w (v ∷ vs) at size a g after h page in-it =
    (omega (arith, g.0.aligned, after.0.sorted), next-page run w vs at size a g.2 after.1 h page in-it)

-- where so many bytes stand, by where the first of them stands
pub wider : (run : ℕ) (ws : List Window) (size at : ℕ) → Good ws run → 0 < size
    → spot_in ws size at ≡ on_spot (spot_in ws 1 at) nowhere (λ place left. if leb size left then here place left else nowhere)
unfolding spot_in Good
wider run [] size at g some = refl
wider run (w ∷ ws) size at g some = go (dec_le w.start at) (dec_le (at + 1) (end_of w)) (dec_le (at + size) (end_of w)) (wider run ws size at g.2 some)
  where
    all : List Window → Type 0
    all l = spot_in l size at ≡ on_spot (spot_in l 1 at) nowhere (λ place left. if leb size left then here place left else nowhere)

    go : Dec (w.start ≤ at) → Dec (at + 1 ≤ end_of w) → Dec (at + size ≤ end_of w) → all ws → all (w ∷ ws)
    go (no from) one to rest = rw (before-it w size at (omega arith), before-it w 1 at (omega arith)) rest
    go (yes from) (no one) to rest = rw (past-it w size at (omega arith), past-it w 1 at (omega arith)) rest
    go (yes from) (yes one) (yes to) rest =
        rw (holding w size at from to, holding w 1 at from one, le-leb size (end_of w - at) (omega arith))
    go (yes from) (yes one) (no to) rest =
        rw (past-it w size at (omega arith), holding w 1 at from one, lt-leb size (end_of w - at) (omega arith))
        (spot-none ws size at (all_after w ws at g.1 (omega arith)))

-- an entry whose words are the same in two memories, and one whose last word is missing
module _ (m m' : Memory) where
  pub same-words : (n at : ℕ) → ((a : ℕ) → at ≤ a → a + 8 ≤ at + 8 * n → m a ≡ m' a) → entry n m at ≡ entry n m' at
  unfolding entry
  same-words zero at h = refl
  same-words (suc n) at h =
      rw (h at (omega arith) (omega arith), same-words n (at + 8) (λ a from to. h a (omega arith) (omega arith)))

pub lacks-last : (m : Memory) (n at : ℕ) → m (at + 8 * n) ≡ missing → entry (suc n) m at ≡ missing
unfolding entry
lacks-last m zero at h = let there : at + 8 * 0 ≡ at = omega arith in rw (rw there at h)
lacks-last m (suc n) at h =
    let there : at + 8 * suc n ≡ (at + 8) + 8 * n = omega arith in
    rw (lacks-last m n (at + 8) (rw there at h)) (join-missing (m at))

module _ (run : List ℕ) where
  -- the memory that a list of windows shows, and an entry that lies whole in one of them, by its words
  abbrev shown : List Window → Memory
  shown ws at = on_spot (spot_in ws 8 at) missing (λ place left. found (little_endian (take 8 (drop place run))))

  abbrev told : ℕ → Spot → Fetched
  told n spot = on_spot spot missing (λ place left. found (spell (words_in run n place)))

  -- all words in the first window
  in-first : (w : Window) (ws : List Window) (n at k : ℕ) → w.start ≤ at → at + 8 * n ≤ end_of w → k ≡ w.place + (at - w.start)
      → entry n (shown (w ∷ ws)) at ≡ found (spell (words_in run n k))
  unfolding entry spell words_in word_at
  in-first w ws zero at k from to is = refl
  in-first w ws (suc n) at k from to is =
      rw (spot-first w 8 at ws (holding w 8 at from (omega arith)), in-first w ws n (at + 8) (k + 8) (omega arith) (omega arith) (omega arith), is)

  skip : (w : Window) (ws : List Window) (a : ℕ) → holds_all w 8 a ≡ false → shown (w ∷ ws) a ≡ shown ws a
  skip w ws a h = rw (spot-next w 8 a ws h)

  none-there : (ws : List Window) (a : ℕ) → spot_in ws 8 a ≡ nowhere → shown ws a ≡ missing
  none-there ws a h = rw h

  single-words : (len : ℕ) (ws : List Window) (n at : ℕ) → Good ws len → at % 4096 + 8 * suc n ≤ 4096
      → entry (suc n) (shown ws) at ≡ told (suc n) (spot_in ws (8 * suc n) at)
  unfolding Good AllFrom
  single-words len [] n at g page =
      lacks-last (shown []) n at (none-there [] (at + 8 * n) (spot-none [] 8 (at + 8 * n) tt))
      ∙ ap (told (suc n)) (sym (spot-none [] (8 * suc n) at tt))
  single-words len (w ∷ ws) n at g page =
      split (single-words len ws n at g.2 page) (dec_le w.start at) (dec_le (at + 8 * suc n) (end_of w)) (dec_le (end_of w) at)
    where
      Holds : List Window → Type 0
      Holds l = entry (suc n) (shown l) at ≡ told (suc n) (spot_in l (8 * suc n) at)

      apart : Holds ws → ((a : ℕ) → at ≤ a → a + 8 ≤ at + 8 * suc n → holds_all w 8 a ≡ false) → holds_all w (8 * suc n) at ≡ false
          → Holds (w ∷ ws)
      apart rest each all =
          same-words (shown (w ∷ ws)) (shown ws) (suc n) at (λ a from to. skip w ws a (each a from to))
          ∙ rest
          ∙ ap (told (suc n)) (sym (spot-next w (8 * suc n) at ws all))

      split : Holds ws → Dec (w.start ≤ at) → Dec (at + 8 * suc n ≤ end_of w) → Dec (end_of w ≤ at) → Holds (w ∷ ws)
      split rest (no o) to past =
          apart rest (λ a from upto. before-it w 8 a (omega (arith, g.0.aligned))) (before-it w (8 * suc n) at (omega arith))
      split rest (yes from) (yes to) past =
          in-first w ws (suc n) at (w.place + (at - w.start)) from to refl
          ∙ ap (told (suc n)) (sym (spot-first w (8 * suc n) at ws (holding w (8 * suc n) at from to)))
      split rest (yes from) (no to) (yes past) =
          apart rest (λ a at_a upto. past-it w 8 a (omega arith)) (past-it w (8 * suc n) at (omega arith))
      split rest (yes from) (no to) (no past) =
          let last = at + 8 * n in
          lacks-last (shown (w ∷ ws)) n at
          (skip w ws last (past-it w 8 last (omega arith))
          ∙ none-there ws last (spot-none ws 8 last (next-page len w ws at (8 * suc n) last g.2 g.1 (omega arith) page (omega arith))))
          ∙ ap (told (suc n)) (sym (spot-next w (8 * suc n) at ws (past-it w (8 * suc n) at (omega arith))
          ∙ spot-none ws (8 * suc n) at (next-page len w ws at (8 * suc n) at g.2 g.1 (omega arith) page (omega arith))))

  -- the words of a page that was handed on
  within : (w : Window) (n table offset : ℕ) → w.place + w.size ≤ length run → w.start ≤ table → table < end_of w
      → offset + 8 * suc n ≤ 4096 → table + offset + 8 * suc n ≤ end_of w
      → entry (suc n) (of_image (take (min 4096 (end_of w - table)) (drop (w.place + (table - w.start)) run))) offset
      ≡ found (spell (words_in run (suc n) (w.place + (table + offset - w.start))))
  within w n table offset in-run from held-it page to =
      let k = w.place + (table - w.start) in
      let there : k + offset ≡ w.place + (table + offset - w.start) = omega arith in
      in-page (min 4096 (end_of w - table)) run k (suc n) offset (omega arith)
      ∙ inside run (suc n) (k + offset) (omega arith)
      ∙ ap (λ (x : ℕ). found (spell (words_in run (suc n) x))) there

  within-of : (w : Window) (n : ℕ) → 0 < n → (table offset : ℕ) → w.place + w.size ≤ length run → w.start ≤ table → table < end_of w
      → offset + 8 * n ≤ 4096 → table + offset + 8 * n ≤ end_of w
      → entry n (of_image (take (min 4096 (end_of w - table)) (drop (w.place + (table - w.start)) run))) offset
      ≡ found (spell (words_in run n (w.place + (table + offset - w.start))))
  within-of w zero some table offset in-run from held-it page to = absurd (omega (arith, some))
  within-of w (suc n) some table offset in-run from held-it page to = within w n table offset in-run from held-it page to

-- windows that aren't refused
module _ (numbers run : List ℕ) (fine : bad_windows numbers (length run) ≡ false) where
  by-words : (n at : ℕ) → told run n (spot_in (windows_of numbers) (8 * n) at) ≡ entry_in numbers run (8 * n) at
  unfolding entry_in
  by-words n at = go (spot_in (windows_of numbers) (8 * n) at) refl
    where
      go : (spot : Spot) → spot_in (windows_of numbers) (8 * n) at ≡ spot
          → told run n spot ≡ on_spot spot missing (λ place left. found (little_endian (take (8 * n) (drop place run))))
      go nowhere h = refl
      go (here place left) h =
          let lies = spot_in_lem (length run) (windows_of numbers) (8 * n) at (good numbers (length run) fine) h in
          ap found (spell-run run n place (omega (arith, lies.0, lies.1)))

  -- an entry that doesn't leave its page is fetched exactly if it lies whole in a single window
  pub single : (n at : ℕ) → at % 4096 + 8 * suc n ≤ 4096 → entry (suc n) (of_windows numbers run) at ≡ entry_in numbers run (8 * suc n) at
  unfolding of_windows entry_in
  single n at page = single-words run (length run) (windows_of numbers) n at (good numbers (length run) fine) page ∙ by-words (suc n) at

  pub single-of : (n : ℕ) → 0 < n → (at : ℕ) → at % 4096 + 8 * n ≤ 4096 → entry n (of_windows numbers run) at ≡ entry_in numbers run (8 * n) at
  single-of zero some at page = absurd (omega (arith, some))
  single-of (suc n) some at page = single n at page

-- where so many bytes stand that don't leave their page, by where the last of them stands
by_last : (run : ℕ) (ws : List Window) (at more : ℕ) → Good ws run → at % 4096 + more < 4096
    → spot_in ws (more + 1) at ≡ on_spot (spot_in ws 1 (at + more)) nowhere (λ place left. here (place - more) (left + more))
unfolding spot_in Good
by_last run [] at more g page = refl
by_last run (w ∷ ws) at more g page = go (dec_le w.start at) (dec_le (at + (more + 1)) (end_of w)) (by_last run ws at more g.2 page)
  where
    all : List Window → Type 0
    all l = spot_in l (more + 1) at ≡ on_spot (spot_in l 1 (at + more)) nowhere (λ place left. here (place - more) (left + more))

    go : Dec (w.start ≤ at) → Dec (at + (more + 1) ≤ end_of w) → all ws → all (w ∷ ws)
    go (no from) to rest = rw (before-it w (more + 1) at (omega arith), before-it w 1 (at + more) (omega (arith, g.0.aligned))) rest
    go (yes from) (no to) rest = rw (past-it w (more + 1) at (omega arith), past-it w 1 (at + more) (omega arith)) rest
    go (yes from) (yes to) rest =
        let starts : w.place + (at - w.start) ≡ (w.place + (at + more - w.start)) - more = omega arith in
        let has : end_of w - at ≡ (end_of w - (at + more)) + more = omega arith in
        rw (holding w (more + 1) at from to, holding w 1 (at + more) (omega arith) (omega arith))
        (ap (λ (k : ℕ). here k (end_of w - at)) starts ∙ ap (λ (k : ℕ). here ((w.place + (at + more - w.start)) - more) k) has)

-- a window that holds the last of them holds them all
module _ (numbers : List ℕ) (len : ℕ) (fine : bad_windows numbers len ≡ false) {w : Window} (at more : ℕ) (page : at % 4096 + more < 4096)
    (h : Holds w (windows_of numbers) len (at + more)) where
  from-its-start : w.start ≤ at
  from-its-start =
      let g = good-window w len h.good in
      let lies = held w 1 (at + more) h.byte in
      omega (arith, g.aligned, lies.0)

  pub holds-first : holds_all w 1 at ≡ true
  holds-first = let lies = held w 1 (at + more) h.byte in holding w 1 at from-its-start (omega (arith, lies.1))

  pub holds-room : w.place + (at - w.start) + (more + 1) ≤ len
  holds-room =
      let g = good-window w len h.good in
      let lies = held w 1 (at + more) h.byte in
      omega (arith, g.in_run, lies.1, from-its-start)

  pub holds-spot : spot_in (windows_of numbers) (more + 1) at ≡ here (w.place + (at - w.start)) (end_of w - at)
  holds-spot =
      let lies = held w 1 (at + more) h.byte in
      let from = from-its-start in
      let starts : (w.place + (at + more - w.start)) - more ≡ w.place + (at - w.start) = omega arith in
      let has : (end_of w - (at + more)) + more ≡ end_of w - at = omega (arith, lies.1) in
      by_last len (windows_of numbers) at more (good numbers len fine) page
      ∙ rw h.spot
      (ap (λ (k : ℕ). here k ((end_of w - (at + more)) + more)) starts ∙ ap (λ (k : ℕ). here (w.place + (at - w.start)) k) has)

pub lacks-spot : (numbers : List ℕ) (len : ℕ) → bad_windows numbers len ≡ false → (at more : ℕ) → at % 4096 + more < 4096
    → spot_in (windows_of numbers) 1 (at + more) ≡ nowhere → spot_in (windows_of numbers) (more + 1) at ≡ nowhere
lacks-spot numbers len fine at more page h = by_last len (windows_of numbers) at more (good numbers len fine) page ∙ rw h

-- an entry whose place in the run was looked for
pub record Placing (numbers run : List ℕ) (n at : ℕ) (p : Option ℕ) : Type 0 where
  pub some : 0 < n
  pub fine : bad_windows numbers (length run) ≡ false
  pub page : at % 4096 + 8 * n ≤ 4096
  pub by : PlacedBy p (windows_of numbers) (length run) (8 * n) at

module _ {numbers run : List ℕ} {n at : ℕ} {p : Option ℕ} (h : Placing numbers run n at p) where
  pub placed-missing : p ≡ None → missing ≡ entry n (of_windows numbers run) at
  unfolding entry_in
  placed-missing is = sym (single-of numbers run h.fine n h.some at h.page ∙ rw (rw is at h.by))

  module _ {from : ℕ} (is : p ≡ Some from) where
    stands : Stands from (windows_of numbers) (length run) (8 * n) at
    stands = subst (λ (p : Option ℕ). PlacedBy p (windows_of numbers) (length run) (8 * n) at) is h.by

    pub placed-room : from + 8 * n ≤ length run
    placed-room = stands.in_run

    pub placed-entry : {e : ℕ} → e ≡ little_endian (take (8 * n) (drop from run)) → found e ≡ entry n (of_windows numbers run) at
    unfolding entry_in
    placed-entry e = ap found e ∙ sym (single-of numbers run h.fine n h.some at h.page ∙ rw stands.spot)

-- an entry in its table's page, where the window with its last byte was looked for
pub record Paging (numbers run : List ℕ) (n table offset : ℕ) (r : Option Span) : Type 0 where
  pub some : 0 < n
  pub fine : bad_windows numbers (length run) ≡ false
  pub aligned : table % 4096 ≡ 0
  pub page : offset + 8 * n ≤ 4096
  pub by : HeldBy r (windows_of numbers) (length run) (table + offset + (8 * n - 1))

module _ {numbers run : List ℕ} {n table offset : ℕ} {r : Option Span} (h : Paging numbers run n table offset r) where
  all : (8 * n - 1) + 1 ≡ 8 * n
  all = omega (arith, h.some)

  pub page-missing : r ≡ None → missing ≡ entry n (of_windows numbers run) (table + offset)
  unfolding entry_in
  page-missing is =
      sym (single-of numbers run h.fine n h.some (table + offset) (omega arith)
      ∙ rw (rw all at (lacks-spot numbers (length run) h.fine (table + offset) (8 * n - 1) (omega arith) (rw is at h.by))))

  module _ {s : Span} (is : r ≡ Some s) where
    abbrev w : Window
    w = window_by s

    holds : Holds w (windows_of numbers) (length run) (table + offset + (8 * n - 1))
    holds = subst (λ (r : Option Span). HeldBy r (windows_of numbers) (length run) (table + offset + (8 * n - 1))) is h.by

    lies : (w.start ≤ table) × (table + offset + 8 * n ≤ end_of w) × (w.place + w.size ≤ length run)
    lies =
        let g = good-window w (length run) holds.good in
        let last = held w 1 (table + offset + (8 * n - 1)) holds.byte in
        (omega (arith, h.aligned, g.aligned, last.0), omega (arith, last.1), g.in_run)

    pub page-begins : (bad_window w (length run) ≡ false) × (holds_all w 1 table ≡ true)
    page-begins = (holds.good, holding w 1 table lies.0 (omega (arith, lies.1)))

    module _ {part : List ℕ} (is-page : part ≡ page_from w run table) where
      pub page-room : offset + 8 * n ≤ length part
      unfolding page_from
      page-room =
          rw (is-page, length-take (min 4096 (end_of w - table)) (drop (w.place + (table - w.start)) run), length-drop (w.place + (table - w.start)) run)
          (omega (arith, h.page, lies.0, lies.1, lies.2))

      pub page-entry : {e : ℕ} → e ≡ little_endian (take (8 * n) (drop offset part)) → found e ≡ entry n (of_windows numbers run) (table + offset)
      unfolding page_from entry_in
      page-entry e =
          ap found e
          ∙ whole-image part n offset page-room
          ∙ rw is-page (within-of run w n h.some table offset lies.2 lies.0 (omega (arith, lies.1)) h.page lies.1)
          ∙ ap found (spell-run run n (w.place + (table + offset - w.start)) (omega (arith, lies.0, lies.1, lies.2)))
          ∙ sym
          (single-of numbers run h.fine n h.some (table + offset) (omega arith)
          ∙ rw (rw all at (holds-spot numbers (length run) h.fine (table + offset) (8 * n - 1) (omega arith) holds)))

-- the same, by what an entry of the code keeps
module _ {A : Type 0} {n : ℕ} {words : A → List ℕ} {number : A → ℕ} (laws : EntryLaws n words number) {numbers run : List ℕ}
    (fine : bad_windows numbers (length run) ≡ false) where
  pub paged : {table offset : ℕ} {r : Option Span} → table % 4096 ≡ 0 → offset < 4096 → offset % (8 * n) ≡ 0
      → HeldBy r (windows_of numbers) (length run) (table + offset + (8 * n - 1)) → Paging numbers run n table offset r
  paged {table} {offset} aligned below whole by =
      record { some = laws.some; fine = fine; aligned = aligned; page = omega (arith, laws.in_page offset whole, below); by = by }

  pub placed : {at : ℕ} {p : Option ℕ} → at % (8 * n) ≡ 0 → PlacedBy p (windows_of numbers) (length run) (8 * n - 1 + 1) at
      → Placing numbers run n at p
  placed {at} {p} whole by =
      let all : 8 * n - 1 + 1 ≡ 8 * n = omega (arith, laws.some) in
      record {
        some = laws.some;
        fine = fine;
        page = laws.in_page at whole;
        by = subst (λ (size : ℕ). PlacedBy p (windows_of numbers) (length run) size at) all by;
      }

-- what an entry that was fetched tells of its place, and one that couldn't be
pub record WholeAt (numbers run : List ℕ) (size at e : ℕ) : Type 0 where
  pub place : ℕ
  pub left : ℕ
  pub spot : spot_in (windows_of numbers) size at ≡ here place left
  pub in_run : place + size ≤ length run
  pub number : e ≡ little_endian (take size (drop place run))

module _ (numbers run : List ℕ) (fine : bad_windows numbers (length run) ≡ false) (n at : ℕ) (page : at % 4096 + 8 * suc n ≤ 4096) where
  pub whole-at : {e : ℕ} → entry (suc n) (of_windows numbers run) at ≡ found e → WholeAt numbers run (8 * suc n) at e
  unfolding entry_in
  whole-at {e} h = go (spot_in (windows_of numbers) (8 * suc n) at) refl (sym (single numbers run fine n at page) ∙ h)
    where
      go : (spot : Spot) → spot_in (windows_of numbers) (8 * suc n) at ≡ spot
          → on_spot spot missing (λ place left. found (little_endian (take (8 * suc n) (drop place run)))) ≡ found e
          → WholeAt numbers run (8 * suc n) at e
      go nowhere is h = let z : ◌≡◌ {A = ℕ} 0 1 = cc in absurd (omega arith)
      go (here k l) is h =
          let lies = spot_in_lem (length run) (windows_of numbers) (8 * suc n) at (good numbers (length run) fine) is in
          record { place = k; left = l; spot = is; in_run = omega (arith, lies.0, lies.1); number = cc }
