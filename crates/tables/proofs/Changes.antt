-- What a map and an unmap do to the tables, turn by turn: for the code's loops.
use Rattle.std.proofs.Common.{◌≡◌, ℕ, suc, ◌+◌, ◌-◌, ◌*◌, ◌<◌, ◌≤◌, true, false, List, ap, sym, ◌∙◌, add-one}
use Rattle.image.specs.Memory.{with_word}
use Rattle.dma.specs.Walk.{place_in}
use Rattle.tables.specs.Mapped.{new_table, with_leaf}
use Rattle.tables.specs.Pages.{lowest}
use Rattle.tables.specs.Tables.{Tables, tables, empty_table}
use Rattle.tables.specs.Unmapped.{without_table, freed_tables, leaf_here, unmapped}
use Rattle.tables.specs.Way.{way}
use Rattle.tables.specs.declared.Tree.{Tree}
use Rattle.tables.specs.declared.way.Stop.{Stop}
use Rattle.tables.proofs.Folds.{again, none_left}

module _ (start place last leaf : ℕ) where
  -- a turn that makes the table over a level
  pub leaf_on : (below n level over at : ℕ) (t : Tables) → below - last ≡ suc n → level ≡ last + n → over ≡ last + suc n → {table to : ℕ} {after : Tables}
      → table ≡ 4096 * lowest t.marks → to ≡ place_in place table level → after ≡ new_table start at over t
      → with_leaf start place last leaf n to after ≡ with_leaf start place last leaf (below - last) at t
  unfolding with_leaf
  leaf_on below n level over at t more h k p q r = rw (more, q, p, r, h, k)

  pub leaf_done : (n at : ℕ) (bytes marks : List ℕ) → n ≤ 0 → {stored : List ℕ} → stored ≡ with_word bytes at leaf
      → tables stored marks ≡ with_leaf start place last leaf n at (tables bytes marks)
  unfolding with_leaf
  leaf_done n at bytes marks none s = rw (none_left n none, s)

module _ (tree : Tree) (place below : ℕ) (t : Tables) where
  pub released_on : below < tree.below → {stop above : Stop} {after : Tables} → stop ≡ way t.bytes tree place below
      → empty_table t.bytes stop.table ≡ true → above ≡ way t.bytes tree place (below + 1)
      → after ≡ without_table stop.table above.at t
      → freed_tables tree place (tree.below - (below + 1)) (below + 1) after ≡ freed_tables tree place (tree.below - below) below t
  unfolding freed_tables
  released_on more p e r q =
      let empty = ap (λ (x : Stop). empty_table t.bytes x.table) (sym p) ∙ e in
      rw (again tree.below below more, empty, q, r, p, add-one)

  pub released_stop : below < tree.below → {stop : Stop} → stop ≡ way t.bytes tree place below → empty_table t.bytes stop.table ≡ false
      → t ≡ freed_tables tree place (tree.below - below) below t
  unfolding freed_tables
  released_stop more p e =
      let full = ap (λ (x : Stop). empty_table t.bytes x.table) (sym p) ∙ e in
      rw (again tree.below below more, full)

  pub released_done : (n : ℕ) → n ≤ 0 → t ≡ freed_tables tree place n below t
  unfolding freed_tables
  released_done n none = rw (none_left n none)

-- an unmap's answers
module _ (tree : Tree) (place last : ℕ) (t : Tables) {stop : Stop} (ends_at : stop ≡ way t.bytes tree place last) where
  pub no_leaf : leaf_here last stop ≡ false → ◌≡◌ {A = ℕ × Tables} (8, t) (unmapped tree place last t)
  unfolding unmapped
  no_leaf h =
      let here : leaf_here last (way t.bytes tree place last) ≡ false = ap (leaf_here last) (sym ends_at) ∙ h in
      rw here

  pub taken_out : leaf_here last stop ≡ true → {stored : List ℕ} {after : Tables}
      → stored ≡ with_word t.bytes stop.at 0 → after ≡ freed_tables tree place (tree.below - last) last (tables stored t.marks)
      → ◌≡◌ {A = ℕ × Tables} (0, after) (unmapped tree place last t)
  unfolding unmapped
  taken_out h s r =
      let here : leaf_here last (way t.bytes tree place last) ≡ true = ap (leaf_here last) (sym ends_at) ∙ h in
      rw (here, r, s, ends_at)
