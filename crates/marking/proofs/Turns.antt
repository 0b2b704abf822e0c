-- The marking's definitions by their first turn and at their end: for the code's loops.
use Rattle.std.proofs.Common.{◌≡◌, ℕ, zero, suc, ◌+◌, ◌≤◌, Bool, true, false, not, ◌||◌, List, length, refl, ◌∙◌}
use Rattle.tables.specs.Tables.{held_entry, present, maps_page}
use Rattle.tables.specs.declared.Tree.{Tree}
use Rattle.tables.proofs.Folds.{none_left}
use Rattle.marking.specs.Marking.{Marked, then_mark, mark_entry, mark_entries, mark_table, mark_level, mark_levels}

-- a turn that is good, and one that isn't
module _ (next : List ℕ → Marked) {m : Marked} {b : Bool} {after : List ℕ} (told : (b, after) ≡ m) where
  pub good : b ≡ true → next after ≡ then_mark m next
  good h = rw (← told, h)

  pub bad : b ≡ false → (false, after) ≡ then_mark m next
  bad h = rw (← told, h)

-- a turn: n entries, pages or levels are left, one of which and k more
module _ (bytes : List ℕ) (start below at : ℕ) (marks : List ℕ) (n : ℕ) where
  pub entries_first : (k next : ℕ) → n ≡ suc k → next ≡ at + 8
      → then_mark (mark_entry start below (held_entry bytes at) marks) (mark_entries bytes start below k next)
      ≡ mark_entries bytes start below n at marks
  unfolding mark_entries
  entries_first k next h e = rw (h, e)

  pub entries_done : n ≤ 0 → (true, marks) ≡ mark_entries bytes start below n at marks
  unfolding mark_entries
  entries_done h = rw (none_left n h)

-- no entry of a table of the last level leads to another
either : (b : Bool) → (b || true) ≡ true
either true = refl
either false = refl

pub no_tables : (bytes : List ℕ) (start n at : ℕ) (marks : List ℕ) → (true, marks) ≡ mark_entries bytes start 0 n at marks
unfolding mark_entries mark_entry
no_tables bytes start zero at marks = refl
no_tables bytes start (suc n) at marks =
    let e = held_entry bytes at in
    let maps : (not (present e) || maps_page 0 e) ≡ true = either (not (present e)) in
    rw maps (no_tables bytes start n (at + 8) marks)

module _ (bytes : List ℕ) (tree : Tree) (below page : ℕ) (marks : List ℕ) where
  level_first : (n k : ℕ) → n ≡ suc k
      → then_mark (mark_table bytes tree below page marks) (mark_level bytes tree below k (page + 1)) ≡ mark_level bytes tree below n page marks
  unfolding mark_level
  level_first n k h = rw h

  pub level_bad : (n k : ℕ) → n ≡ suc k → {b : Bool} {after : List ℕ} → (b, after) ≡ mark_table bytes tree below page marks → b ≡ false
      → (false, after) ≡ mark_level bytes tree below n page marks
  level_bad n k h told b = bad (mark_level bytes tree below k (page + 1)) told b ∙ level_first n k h

  pub level_on : (n k : ℕ) → n ≡ suc k → {b : Bool} {after : List ℕ} → (b, after) ≡ mark_table bytes tree below page marks → b ≡ true
      → mark_level bytes tree below k (page + 1) after ≡ mark_level bytes tree below n page marks
  level_on n k h told b = good (mark_level bytes tree below k (page + 1)) told b ∙ level_first n k h

  pub level_done : (n : ℕ) → n ≤ 0 → (true, marks) ≡ mark_level bytes tree below n page marks
  unfolding mark_level
  level_done n h = rw (none_left n h)

module _ (bytes : List ℕ) (tree : Tree) (marks : List ℕ) (n k : ℕ) (one : n ≡ suc k) where
  levels_first : then_mark (mark_level bytes tree k (length marks) 0 marks) (mark_levels bytes tree k) ≡ mark_levels bytes tree n marks
  unfolding mark_levels
  levels_first = rw one

  pub levels_bad : {b : Bool} {after : List ℕ} → (b, after) ≡ mark_level bytes tree k (length marks) 0 marks → b ≡ false
      → (false, after) ≡ mark_levels bytes tree n marks
  levels_bad told b = bad (mark_levels bytes tree k) told b ∙ levels_first

  pub levels_on : {b : Bool} {after : List ℕ} → (b, after) ≡ mark_level bytes tree k (length marks) 0 marks → b ≡ true
      → mark_levels bytes tree k after ≡ mark_levels bytes tree n marks
  levels_on told b = good (mark_levels bytes tree k) told b ∙ levels_first

pub levels_done : (bytes : List ℕ) (tree : Tree) (marks : List ℕ) (n : ℕ) → n ≤ 0 → (true, marks) ≡ mark_levels bytes tree n marks
unfolding mark_levels
levels_done bytes tree marks n h = rw (none_left n h)
