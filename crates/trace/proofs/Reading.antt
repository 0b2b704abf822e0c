-- The steps of a reader tell what there is to tell.
use Prim.Native.Nat.{ℕ, zero, suc, ◌+◌, ◌*◌, ◌-◌, ◌≤◌, ◌<◌}
use mathlib.Core.Path.{◌≡◌, refl, ap, sym, ◌∙◌}
use mathlib.Core.Bool.{Bool, true, false, ◌||◌}
use mathlib.Core.List.{List, [], ◌∷◌, ◌++◌}
use native.Mathlib.Nat.{zero-add}
use native.Mathlib.Numerals.{add-one}
use native.Mathlib.Omega.{arith}
use borrow.Author.Tests.{eqb-true, ne_eqb, le-leb, lt-leb, lt-ltb, le-ltb}
use lib.Dec.{eqb, ltb}
use lib.ListN.{length, take, drop, length-take, length-drop}
use lib.Seq.{drop-drop, take-take, get_or-drop}
use Rattle.image.proofs.Bytes.{AreBytes, bytes-taken}
use Rattle.image.proofs.Pages.{drop-take}
use Rattle.blocks.specs.Block.{count, framed, entries_well, well_laid}
use Rattle.blocks.proofs.Frames.{and_left, and_right, framed-length, framed-head, headed-few, headed-some}
use Rattle.blocks.proofs.OneByte.{well-framed}
use Rattle.traced.specs.Decoded.{entry_well, decoded}
use Rattle.traced.specs.Decoded as of
use Rattle.traced.specs.Entry.{entry_bytes, traced_in}
use Rattle.traced.specs.Well.{well_traced}
use Rattle.traced.proofs.Back.{bytes-again}
use Rattle.trace.specs.Told.{Told, traced_at, damaged_at, entries_from, told_of, told_from, blocks_in}
use Rattle.trace.specs.Reader.{ReaderStep, entry, block_at, behind, shut, step_at, on_reader_step, steps, ToldInSteps}
use Rattle.trace.proofs.Steps.{at-end, at-shut, at_entry}

-- one step, then the others
one-step : (n : ℕ) (bytes : List ℕ) (place index : ℕ) {s : ReaderStep} → s ≡ step_at bytes place index
    → steps (suc n) bytes place index ≡ on_reader_step place index s (λ next. steps n bytes next.place next.index)
unfolding steps
one-step n bytes place index is = rw (← is)

-- an entry that passes its test is decoded, and is its bytes
decoded-as : (bytes : List ℕ) → entry_well bytes ≡ true → of.entry (traced_in bytes) ≡ decoded bytes
unfolding decoded
decoded-as bytes h = rw h

entry-sized : (bytes : List ℕ) → entry_well bytes ≡ true → length bytes ≡ 32
unfolding entry_well
entry-sized bytes h = eqb-true (length bytes) 32 (and_left (eqb (length bytes) 32) (well_traced (traced_in bytes)) h)

-- the first of some entries, and the others
module _ (k : ℕ) (xs : List ℕ) (h : entries_well entry_well (suc k) xs ≡ true) where
  first-well : entry_well (take 32 xs) ≡ true
  unfolding entries_well
  first-well = and_left (entry_well (take 32 xs)) (entries_well entry_well k (drop 32 xs)) h

  rest-well : entries_well entry_well k (drop 32 xs) ≡ true
  unfolding entries_well
  rest-well = and_right (entry_well (take 32 xs)) (entries_well entry_well k (drop 32 xs)) h

module _ (bytes : List ℕ) (are : AreBytes bytes) (place : ℕ) where
  -- the bytes of a block from an entry on
  abbrev onward : ℕ → List ℕ
  onward index = drop (8 + 32 * index) (block_at bytes place)

  next-onward : (index : ℕ) → drop 32 (onward index) ≡ onward (suc index)
  next-onward index =
      let same : 8 + 32 * index + 32 ≡ 8 + 32 * suc index = omega arith in
      drop-drop 32 (8 + 32 * index) (block_at bytes place) ∙ ap (λ (n : ℕ). drop n (block_at bytes place)) same

  -- an entry of the block is that of the trace
  entry-there : (index : ℕ) → index < 15 → take 32 (onward index) ≡ take 32 (drop (512 * place + 8 + 32 * index) bytes)
  entry-there index few =
      let split : 512 ≡ 8 + 32 * index + (504 - 32 * index) = omega arith in
      let at : 512 * place + (8 + 32 * index) ≡ 512 * place + 8 + 32 * index = omega arith in
      let part : onward index ≡ take (504 - 32 * index) (drop (512 * place + 8 + 32 * index) bytes) =
      ap (λ (n : ℕ). drop (8 + 32 * index) (take n (drop (512 * place) bytes))) split
      ∙ drop-take (8 + 32 * index) (504 - 32 * index) (drop (512 * place) bytes)
      ∙ ap (λ (l : List ℕ). take (504 - 32 * index) l) (drop-drop (8 + 32 * index) (512 * place) bytes ∙ ap (λ (n : ℕ). drop n bytes) at) in
      ap (λ (l : List ℕ). take 32 l) part ∙ take-take 32 (504 - 32 * index) (drop (512 * place + 8 + 32 * index) bytes) (omega arith)

  same_bytes : (index : ℕ) → entry_well (take 32 (onward index)) ≡ true → entry_bytes (traced_in (take 32 (onward index))) ≡ take 32 (onward index)
  same_bytes index h =
      bytes-again (take 32 (onward index)) (entry-sized (take 32 (onward index)) h)
      (bytes-taken 32 (onward index) (λ i. rw get_or-drop (bytes-taken 512 (drop (512 * place) bytes) (λ j. rw get_or-drop (are (512 * place + j))) (8 + 32 * index + i))))

  module _ (laid : well_laid entry_well (block_at bytes place) place ≡ true) where
    is_framed : framed (block_at bytes place) place ≡ true
    is_framed = well-framed entry_well (block_at bytes place) place laid

    whole : 512 * place + 512 ≤ length bytes
    whole =
        let sized = simp (length-take, length-drop) at (framed-length (block_at bytes place) place is_framed) in
        omega arith

    few : count (block_at bytes place) ≤ 15
    few = headed-few (block_at bytes place) place (framed-head (block_at bytes place) place is_framed)

    some : 1 ≤ count (block_at bytes place)
    some = headed-some (block_at bytes place) place (framed-head (block_at bytes place) place is_framed)

    all-well : entries_well entry_well (count (block_at bytes place)) (drop 8 (block_at bytes place)) ≡ true
    unfolding well_laid
    all-well = and_right (framed (block_at bytes place) place) (entries_well entry_well (count (block_at bytes place)) (drop 8 (block_at bytes place))) laid

    unshut : (index : ℕ) → index < 15 → shut bytes place index ≡ false
    unshut zero h = rw (le-ltb (length bytes) (512 * place + 512) whole, laid)
    unshut (suc index) h =
        let later : suc index ≡ 0 → ⊥ = λ e. omega arith in
        rw (lt-leb 15 (suc index) h, le-ltb (length bytes) (512 * place + 512) whole, ne_eqb (suc index) 0 later)

    -- the step at an entry that passes its test
    entry-step : (index : ℕ) → index < 15 → entry_well (take 32 (onward index)) ≡ true
        → entry (traced_in (take 32 (onward index))) (behind (count (block_at bytes place)) place index) ≡ step_at bytes place index
    entry-step index h test =
        let more : 512 * place < length bytes = omega (arith, whole) in
        at_entry bytes place index (lt-leb (length bytes) (512 * place) more) (unshut index h)
        (decoded-as (take 32 (onward index)) test ∙ ap decoded (entry-there index h))

    -- k entries from an index to the last, then what follows
    through : (k index n : ℕ) (after : List Told) → index + suc k ≡ count (block_at bytes place)
        → entries_well entry_well (suc k) (onward index) ≡ true
        → ((j : ℕ) → n ≤ j → steps j bytes (place + 1) 0 ≡ after)
        → (j : ℕ) → n + suc k ≤ j → steps j bytes place index ≡ entries_from place index (suc k) (onward index) ++ after
    unfolding entries_from
    through zero index n after ends test rest zero h = absurd (omega arith)
    through (suc k) index n after ends test rest zero h = absurd (omega arith)
    through zero index n after ends test rest (suc j) h =
        let here = first-well 0 (onward index) test in
        let small : index < 15 = omega (arith, few) in
        let last : count (block_at bytes place) ≤ index + 1 = omega arith in
        one-step j bytes place index (entry-step index small here)
        ∙ rw (same_bytes index here, le-ltb (index + 1) (count (block_at bytes place)) last)
        (ap (λ (l : List Told). traced_at place index (take 32 (onward index)) ∷ l) (rest j (omega arith)))
    through (suc k) index n after ends test rest (suc j) h =
        let here = first-well (suc k) (onward index) test in
        let small : index < 15 = omega (arith, few) in
        let more : index + 1 < count (block_at bytes place) = omega arith in
        let others : entries_well entry_well (suc k) (onward (suc index)) ≡ true = rw (← next-onward index) (rest-well (suc k) (onward index) test) in
        one-step j bytes place index (entry-step index small here)
        ∙ rw (same_bytes index here, lt-ltb (index + 1) (count (block_at bytes place)) more, add-one index)
        (ap (λ (l : List Told). traced_at place index (take 32 (onward index)) ∷ l)
        (through k (suc index) n after (omega arith) others rest j (omega arith)
        ∙ ap (λ (l : List ℕ). entries_from place (suc index) (suc k) l ++ after) (sym (next-onward index))))

-- what is told from a block on
module _ (bytes : List ℕ) (are : AreBytes bytes) where
  past_all : (place j : ℕ) → 0 < j → length bytes ≤ 512 * place → steps j bytes place 0 ≡ []
  past_all place zero some h = absurd (omega arith)
  past_all place (suc j) some h = one-step j bytes place 0 (at-end bytes place 0 (le-leb (length bytes) (512 * place) h))

  shut-damaged : (place : ℕ) → well_laid entry_well (block_at bytes place) place ≡ false → shut bytes place 0 ≡ true
  shut-damaged place h = rw h (either (ltb (length bytes) (512 * place + 512)))
    where
      either : (b : Bool) → (b || true) ≡ true
      either true = refl
      either false = refl

  told-well : (place : ℕ) → well_laid entry_well (block_at bytes place) place ≡ true
      → told_of (block_at bytes place) place ≡ entries_from place 0 (count (block_at bytes place)) (drop 8 (block_at bytes place))
  unfolding told_of
  told-well place h = rw h

  told-damaged : (place : ℕ) → well_laid entry_well (block_at bytes place) place ≡ false → told_of (block_at bytes place) place ≡ damaged_at place ∷ []
  unfolding told_of
  told-damaged place h = rw h

  -- one block, where what follows it is known
  block-steps : (place n : ℕ) (after : List Told) → 512 * place < length bytes → ((j : ℕ) → n ≤ j → steps j bytes (place + 1) 0 ≡ after)
      → (j : ℕ) → n + 16 ≤ j → (b : Bool) → well_laid entry_well (block_at bytes place) place ≡ b
      → steps j bytes place 0 ≡ told_of (block_at bytes place) place ++ after
  block-steps place n after more rest zero h b laid = absurd (omega arith)
  block-steps place n after more rest (suc j) h false laid =
      one-step j bytes place 0 (at-shut bytes place 0 (lt-leb (length bytes) (512 * place) more) (shut-damaged place laid))
      ∙ rw (told-damaged place laid) (ap (λ (l : List Told). damaged_at place ∷ l) (rest j (omega arith)))
  block-steps place n after more rest (suc j) h true laid =
      let c = count (block_at bytes place) in
      let one = some bytes are place laid in
      let most = few bytes are place laid in
      let split : suc (c - 1) ≡ c = omega arith in
      let test : entries_well entry_well (suc (c - 1)) (onward bytes are place 0) ≡ true =
      ap (λ (n : ℕ). entries_well entry_well n (drop 8 (block_at bytes place))) split ∙ all-well bytes are place laid in
      through bytes are place laid (c - 1) 0 n after (omega arith) test rest (suc j) (omega arith)
      ∙ ap (λ (n : ℕ). entries_from place 0 n (drop 8 (block_at bytes place)) ++ after) split
      ∙ ap (λ (l : List Told). l ++ after) (sym (told-well place laid))

  tell : (m place : ℕ) → blocks_in bytes ≡ place + m → (j : ℕ) → 16 * m < j
      → steps j bytes place 0 ≡ told_from m place (drop (512 * place) bytes)
  unfolding told_from
  tell zero place all j h = past_all place j (omega arith) (omega arith)
  tell (suc m) place all j h =
      let next : drop 512 (drop (512 * place) bytes) ≡ drop (512 * (place + 1)) bytes =
      drop-drop 512 (512 * place) bytes ∙ ap (λ (n : ℕ). drop n bytes) (let same : 512 * place + 512 ≡ 512 * (place + 1) = omega arith in same) in
      block-steps place (16 * m + 1) (told_from m (place + 1) (drop (512 * (place + 1)) bytes)) (omega arith)
      (λ i k. tell m (place + 1) (omega arith) i (omega arith))
      j (omega arith) (well_laid entry_well (block_at bytes place) place) refl
      ∙ rw (next, add-one place)

pub told-in-steps : ToldInSteps
told-in-steps bytes are n enough = tell bytes are (blocks_in bytes) 0 (sym (zero-add (blocks_in bytes))) n enough
