-- A reader's tests, and what they say.
use Prim.Native.Nat.{ℕ, ◌+◌, ◌*◌, ◌/◌, ◌%◌, ◌≤◌, ◌<◌}
use mathlib.Core.Path.{◌≡◌, refl, sym, ◌∙◌}
use mathlib.Core.Bool.{Bool, true, false, not, ◌&&◌, ◌||◌}
use mathlib.Core.List.{List}
use native.Mathlib.Decide.{dec_le}
use native.Mathlib.Omega.{arith}
use borrow.Author.Tests.{eq-eqb, ne_eqb, le-leb, lt-leb, lt-ltb, le-ltb}
use lib.Dec.{eqb, leb, ltb}
use lib.ListN.{length, get_or, drop, length-take, length-drop}
use lib.Seq.{get_or-take, get_or-drop}
use Rattle.blocks.specs.Block.{framed, count, entries_well, well_laid}
use Rattle.blocks.proofs.Frames.{no-first}
use Rattle.std.specs.Prelude.{Option, Some, None, is_some}
use Rattle.traced.specs.Answers.{decoded_of}
use Rattle.traced.specs.Decoded.{entry_well, decoded}
use Rattle.traced.specs.Decoded as of
use Rattle.traced.specs.Entry.{traced_in}
use Rattle.traced.specs.declared.Traced.{Traced}
use Rattle.trace.specs.Reader.{block_at, shut, behind}
use Rattle.trace.specs.declared.Cursor.{Cursor}

-- the trace ends at or before a block
pub past : (len place : ℕ) → (ltb (len / 512) place || eqb (len / 512) place && eqb (len % 512) 0) ≡ leb len (512 * place)
past len place = go (dec_le (len / 512) place) (dec_le place (len / 512)) (dec_le (len % 512) 0)
  where
    go : Dec (len / 512 ≤ place) → Dec (place ≤ len / 512) → Dec (len % 512 ≤ 0)
        → (ltb (len / 512) place || eqb (len / 512) place && eqb (len % 512) 0) ≡ leb len (512 * place)
    go (no a) b d =
        let not-below : place ≤ len / 512 = omega arith in
        let other : len / 512 ≡ place → ⊥ = λ e. omega arith in
        let more : 512 * place < len = omega arith in
        rw (le-ltb (len / 512) place not-below, ne_eqb (len / 512) place other, lt-leb len (512 * place) more)
    go (yes a) (no b) d =
        let below : len / 512 < place = omega arith in
        let all : len ≤ 512 * place = omega arith in
        rw (lt-ltb (len / 512) place below, le-leb len (512 * place) all)
    go (yes a) (yes b) (yes d) =
        let same : len / 512 ≡ place = omega arith in
        let even : len % 512 ≡ 0 = omega arith in
        let all : len ≤ 512 * place = omega arith in
        rw (le-ltb (len / 512) place b, eq-eqb (len / 512) place same, eq-eqb (len % 512) 0 even, le-leb len (512 * place) all)
    go (yes a) (yes b) (no d) =
        let same : len / 512 ≡ place = omega arith in
        let odd : len % 512 ≡ 0 → ⊥ = λ e. omega arith in
        let more : 512 * place < len = omega arith in
        rw (le-ltb (len / 512) place b, eq-eqb (len / 512) place same, ne_eqb (len % 512) 0 odd, lt-leb len (512 * place) more)

-- an entry's test, by what was decoded
decoded-well : (bytes : List ℕ) (t : Bool) → entry_well bytes ≡ t → {e : Traced} → of.entry e ≡ decoded bytes → true ≡ entry_well bytes
unfolding decoded
decoded-well bytes true h told = sym h
decoded-well bytes false h {e} told =
    let none : of.entry e ≡ of.malformed = told ∙ rw h in
    let z : ◌≡◌ {A = ℕ} 0 1 = cc in
    absurd (omega arith)

well-entry : (bytes : List ℕ) {e : Traced} → of.entry e ≡ decoded bytes → true ≡ entry_well bytes
well-entry bytes told = decoded-well bytes (entry_well bytes) refl told

decoded-not : (bytes : List ℕ) (t : Bool) → entry_well bytes ≡ t → of.malformed ≡ decoded bytes → false ≡ entry_well bytes
unfolding decoded
decoded-not bytes false h told = sym h
decoded-not bytes true h told =
    let some : of.malformed ≡ of.entry (traced_in bytes) = told ∙ rw h in
    let z : ◌≡◌ {A = ℕ} 0 1 = cc in
    absurd (omega arith)

not_entry : (bytes : List ℕ) → of.malformed ≡ decoded bytes → false ≡ entry_well bytes
not_entry bytes told = decoded-not bytes (entry_well bytes) refl told

pub by-decoded : (bytes : List ℕ) (r : Option Traced) → decoded_of r ≡ decoded bytes → is_some r ≡ entry_well bytes
by-decoded bytes (Some e) told = well-entry bytes told
by-decoded bytes None told = not_entry bytes told

-- a block's count is the byte behind its first
pub count_at : (bytes : List ℕ) (place : ℕ) → count (block_at bytes place) ≡ get_or bytes (512 * place + 1) 0
count_at bytes place = get_or-take 512 (drop (512 * place) bytes) 1 0 (omega arith) ∙ get_or-drop (512 * place) bytes 1 0

-- a short block isn't laid out well
pub short-laid : (bytes : List ℕ) (place : ℕ) → length bytes / 512 ≤ place → well_laid entry_well (block_at bytes place) place ≡ false
unfolding well_laid framed
short-laid bytes place h =
    let lacks : length (block_at bytes place) ≡ 512 → ⊥ = λ e. let sized = simp (length-take, length-drop) at e in omega arith in
    no-first (framed (block_at bytes place) place) (entries_well entry_well (count (block_at bytes place)) (drop 8 (block_at bytes place)))
    (rw (ne_eqb (length (block_at bytes place)) 512 lacks))

-- whether a block is shut, case by case
module _ (bytes : List ℕ) (place index : ℕ) where
  pub shut-many : 15 ≤ index → true ≡ shut bytes place index
  shut-many h = rw (le-leb 15 index h)

  pub shut-short : index < 15 → length bytes / 512 ≤ place → true ≡ shut bytes place index
  shut-short few h =
      let lacks : length bytes < 512 * place + 512 = omega arith in
      rw (lt-leb 15 index few, lt-ltb (length bytes) (512 * place + 512) lacks)

  module _ (few : index < 15) (whole : place < length bytes / 512) where
    long : 512 * place + 512 ≤ length bytes
    long = omega arith

    pub open-later : (index ≡ 0 → ⊥) → false ≡ shut bytes place index
    open-later h = rw (lt-leb 15 index few, le-ltb (length bytes) (512 * place + 512) long, ne_eqb index 0 h)

    pub judged : index ≡ 0 → not (well_laid entry_well (block_at bytes place) place) ≡ shut bytes place index
    judged h = rw (lt-leb 15 index few, le-ltb (length bytes) (512 * place + 512) long, eq-eqb index 0 h)

-- behind an entry, by the count
module _ (bytes : List ℕ) (place index : ℕ) where
  pub same_block : index + 1 < get_or bytes (512 * place + 1) 0
      → ◌≡◌ {A = Cursor} (record { place = place; index = index + 1 }) (behind (count (block_at bytes place)) place index)
  same_block h = rw (count_at bytes place, lt-ltb (index + 1) (get_or bytes (512 * place + 1) 0) h)

  pub other_block : get_or bytes (512 * place + 1) 0 ≤ index + 1
      → ◌≡◌ {A = Cursor} (record { place = place + 1; index = 0 }) (behind (count (block_at bytes place)) place index)
  other_block h = rw (count_at bytes place, le-ltb (index + 1) (get_or bytes (512 * place + 1) 0) h)

-- a block's test, by its frame and its entries
module _ (block : List ℕ) (place : ℕ) where
  pub unframed : framed block place ≡ false → false ≡ well_laid entry_well block place
  unfolding well_laid
  unframed h = sym (no-first (framed block place) (entries_well entry_well (count block) (drop 8 block)) h)

  pub by_entries : framed block place ≡ true → entries_well entry_well (count block) (drop 8 block) ≡ well_laid entry_well block place
  unfolding well_laid
  by_entries h = rw h
