-- A table that a walk can go on from: there are five levels, and a table begins a page.
use Rattle.std.specs.Prelude.{ℕ, ◌%◌, ◌<◌, ◌≤◌, ◌≡◌}

abbrev pub Walkable : (level table : ℕ) → Type 0
Walkable level table = (0 < level) × (level ≤ 5) × (table % 4096 ≡ 0)
