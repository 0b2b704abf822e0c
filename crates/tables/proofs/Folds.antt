-- The definitions that count down, by their first turn and at their end: for the code's loops.
use Rattle.std.proofs.Common.{◌≡◌, ◌≢◌, ℕ, zero, suc, ◌+◌, ◌-◌, ◌*◌, ◌<◌, ◌≤◌, Bool, true, false, cond, if◌then◌else◌, not, eqb, Option, List, [], ◌∷◌, length, filter, refl, arith, add-one}
use Rattle.std.specs.List.{list_all, range_with_len, AllWithin, HoldsAt}
use Rattle.std.specs.Option.{MatchOption, unwrap_or}
use Rattle.std.proofs.lemmas.Iterator.{index_from_first}
use borrow.Author.Tests.{eq-eqb, ne_eqb}
use Rattle.image.specs.Memory.{with_word}
use Rattle.dma.specs.Walk.{place_in}
use Rattle.tables.specs.Pages.{lowest, free_pages}
use Rattle.tables.specs.Tables.{held_entry, present, table_of, absent, words_zeroed}
use Rattle.tables.specs.Way.{ends, stop_in, way_to}

-- of n turns, those that are left after i of them
pub again : (n i : ℕ) → i < n → n - i ≡ suc (n - (i + 1))
again n i h = omega arith

pub none_left : (n : ℕ) → n ≤ 0 → n ≡ 0
none_left n h = omega arith

module _ (bytes : List ℕ) (table : ℕ) where
  pub zeroed_on : (n i : ℕ) → i < n
      → words_zeroed (n - (i + 1)) (with_word bytes (table + 8 * i) 0) (table + 8 * (i + 1)) ≡ words_zeroed (n - i) bytes (table + 8 * i)
  unfolding words_zeroed
  zeroed_on n i h =
      let next : table + 8 * (i + 1) ≡ table + 8 * i + 8 = omega arith in
      rw (again n i h, next)

  pub zeroed_done : (n at : ℕ) → n ≤ 0 → words_zeroed n bytes at ≡ bytes
  unfolding words_zeroed
  zeroed_done n at h = rw (none_left n h)

  -- the entries one after the other, as an iterator gives them
  pub all_absent : (n i at : ℕ) → at ≡ table + 8 * i
      → list_all (λ (k : ℕ). not (present (held_entry bytes (table + 8 * k)))) (range_with_len i n) ≡ absent n bytes at
  unfolding absent
  all_absent zero i at h = refl
  all_absent (suc n) i at h =
      rw (← h, all_absent n (i + 1) (at + 8) (omega arith))

pub counts_free : (marks : List ℕ) → length (filter (λ (mark : ℕ). eqb mark 0) marks) ≡ free_pages marks
unfolding free_pages
counts_free [] = refl
counts_free (mark ∷ marks) =
    let found = filter (λ (x : ℕ). eqb x 0) marks in
    elim (eqb mark 0) as (λ (b : Bool). length (cond b (mark ∷ found) found) ≡ (if b then 1 else 0) + free_pages marks)
    [ true ↦ omega (arith, counts_free marks) | false ↦ omega (arith, counts_free marks) ]

lowest_here : (mark : ℕ) (marks : List ℕ) → mark ≡ 0 → lowest (mark ∷ marks) ≡ 0
unfolding lowest
lowest_here mark marks h = rw (eq-eqb mark 0 h)

lowest_on : (mark : ℕ) (marks : List ℕ) → mark ≢ 0 → lowest (mark ∷ marks) ≡ lowest marks + 1
unfolding lowest
lowest_on mark marks h = rw (ne_eqb mark 0 h, add-one)

-- the first mark that is 0, as an iterator finds it
pub first_free : (marks : List ℕ) (found : Option ℕ)
    → MatchOption found (AllWithin (λ (mark : ℕ). mark ≢ 0) marks 0 (length marks)) (λ i. (i < length marks) × HoldsAt (λ (mark : ℕ). mark ≡ 0) marks i × AllWithin (λ (mark : ℕ). mark ≢ 0) marks 0 i)
    → lowest marks ≡ unwrap_or found (length marks)
unfolding lowest
first_free = index_from_first lowest (λ (mark : ℕ). mark ≡ 0) (λ (mark : ℕ). mark ≢ 0) refl lowest_here lowest_on

module _ (bytes : List ℕ) (start place last table : ℕ) where
  pub way_ends : (n : ℕ) → 0 < n → ends last n (held_entry bytes (place_in place table n)) ≡ true
      → stop_in bytes place n table ≡ way_to bytes start place last n table
  unfolding way_to
  way_ends zero h e = absurd (omega arith)
  way_ends (suc n) h e = rw e

  pub way_on : (n : ℕ) → 0 < n → ends last n (held_entry bytes (place_in place table n)) ≡ false
      → way_to bytes start place last (n - 1) (table_of start (held_entry bytes (place_in place table n)))
      ≡ way_to bytes start place last n table
  unfolding way_to
  way_on zero h e = absurd (omega arith)
  way_on (suc n) h e = let less : suc n - 1 ≡ n = omega arith in rw (less, e)

  pub way_done : (n : ℕ) → n ≤ 0 → stop_in bytes place 0 table ≡ way_to bytes start place last n table
  unfolding way_to
  way_done n h = rw (none_left n h)
