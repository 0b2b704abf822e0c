-- The definitions that count down, by their first turn and at their end: for the code's loops. And what a spot tells.
use Rattle.std.proofs.Common.{◌≡◌, ℕ, zero, suc, ◌+◌, ◌-◌, ◌*◌, ◌<◌, ◌≤◌, Bool, List, Some, None, is_some, Result, Ok, Err, refl, arith}
use Rattle.std.specs.Result.{result_unwrap_or}
use Rattle.std.specs.List.{list_all, list_any, range_with_len}
use Rattle.image.specs.Answers.{fetched8}
use Rattle.image.specs.Memory.{Memory, on_fetch, with_word}
use Rattle.image.specs.Windows.{Spot, nowhere, here, on_spot, spot_in, windows_of}
use Rattle.image.specs.declared.Missing.{Missing}
use Rattle.tables.specs.Tables.{held_entry}
use Rattle.tables.proofs.Folds.{again, none_left}
use Rattle.region.specs.Copy.{is_whole, place_shown, word_shown, stored_at, copied_in, copied_out}
use Rattle.region.specs.Region.{pages_shown}
use Rattle.region.specs.Shared.{meets_named_at, any_named}

-- what a place that was found tells of a spot
pub whole_by : (spot : Spot) → is_some (place_shown spot) ≡ is_whole spot
whole_by nowhere = refl
whole_by (here place left) = refl

pub stored_there : (spot : Spot) (word : ℕ) (run : List ℕ) {place : ℕ} → Some place ≡ place_shown spot
    → with_word run place word ≡ on_spot spot run (λ place left. with_word run place word)
stored_there nowhere word run h = absurd (cc)
stored_there (here there left) word run {place} h = let e : place ≡ there = cc in rw e

pub not_stored : (spot : Spot) (word : ℕ) (run : List ℕ) → None ≡ place_shown spot
    → run ≡ on_spot spot run (λ place left. with_word run place word)
not_stored nowhere word run h = refl
not_stored (here place left) word run h = absurd (cc)

pub word_or_zero : (r : Result ℕ Missing) → result_unwrap_or r 0 ≡ on_fetch (fetched8 r) 0 (λ e. e)
word_or_zero (Ok e) = refl
word_or_zero (Err m) = refl

module _ (m : Memory) (start : ℕ) (copy : List ℕ) where
  pub in_on : (n i : ℕ) → i < n → {word : ℕ} {after : List ℕ} → word ≡ word_shown m (start + 8 * i) → after ≡ with_word copy (8 * i) word
      → copied_in m start (n - (i + 1)) (8 * (i + 1)) after ≡ copied_in m start (n - i) (8 * i) copy
  unfolding copied_in
  in_on n i more p e =
      let next : 8 * (i + 1) ≡ 8 * i + 8 = omega arith in
      rw (again n i more, next, e, p)

  pub in_done : (n at : ℕ) → n ≤ 0 → copy ≡ copied_in m start n at copy
  unfolding copied_in
  in_done n at none = rw (none_left n none)

module _ (windows copy : List ℕ) (start : ℕ) (run : List ℕ) where
  pub out_on : (n i : ℕ) → i < n → {word : ℕ} {after : List ℕ} → word ≡ held_entry copy (8 * i) → after ≡ stored_at windows (start + 8 * i) word run
      → copied_out windows copy start (n - (i + 1)) (8 * (i + 1)) after ≡ copied_out windows copy start (n - i) (8 * i) run
  unfolding copied_out
  out_on n i more p e =
      let next : 8 * (i + 1) ≡ 8 * i + 8 = omega arith in
      rw (again n i more, next, e, p)

  pub out_done : (n at : ℕ) → n ≤ 0 → run ≡ copied_out windows copy start n at run
  unfolding copied_out
  out_done n at none = rw (none_left n none)

-- the pages one after the other, as an iterator gives them
pub all_shown : (windows : List ℕ) (start n i at : ℕ) → at ≡ start + 4096 * i
    → list_all (λ (page : ℕ). is_whole (spot_in (windows_of windows) 4096 (start + 4096 * page))) (range_with_len i n) ≡ pages_shown windows n at
unfolding pages_shown
all_shown windows start zero i at h = refl
all_shown windows start (suc n) i at h = rw (← h, all_shown windows start n (i + 1) (at + 4096) (omega arith))

-- the entries of a table, likewise
module _ (posted : Bool) (start size : ℕ) (m : Memory) (table : ℕ) where
  pub one_named : (n i at : ℕ) → at ≡ table + 16 * i
      → list_any (λ (entry : ℕ). meets_named_at posted start size m (table + 16 * entry)) (range_with_len i n) ≡ any_named posted start size m n at
  unfolding any_named
  one_named zero i at h = refl
  one_named (suc n) i at h = rw (← h, one_named n (i + 1) (at + 16) (omega arith))
