-- A page that was mapped: the tables are as built here, and at the addresses of the page, and there alone, another page is mapped.
use Prim.Native.Nat.{ℕ, zero, suc, ◌+◌, ◌-◌, ◌*◌, ◌/◌, ◌^◌, ◌<◌, ◌≤◌}
use mathlib.Core.Bool.{Bool, true, false}
use mathlib.Core.Path.{◌≡◌, refl, ap, sym, ◌∙◌, subst}
use native.Mathlib.Omega.{arith}
use borrow.Author.Tests.{ltb-false}
use lib.Dec.{ltb}
use lib.ListN.{get_or, set}
use Rattle.std.specs.Prelude.{if◌then◌else◌}
use Rattle.image.specs.Memory.{with_word}
use Rattle.tables.specs.Mapped.{new_table, with_leaf, mapped}
use Rattle.tables.specs.Pages.{lowest, free_pages}
use Rattle.tables.specs.Tables.{Tables, held_entry, present, maps_page}
use Rattle.tables.specs.Way.{way}
use Rattle.tables.specs.declared.Tree.{Tree}
use Rattle.tables.specs.declared.way.Stop.{Stop}
use Rattle.leaves.specs.Leaves.{Leaf, leaf, leaf_over}
use Rattle.leaves.specs.WellBuilt.{leads_on, WellBuilt, NoneEmpty}
use Rattle.leaves.proofs.Addresses.{above, number, index-small, placed}
use Rattle.leaves.proofs.Filled.{FilledBut, all_but, and-it, stored-in, stored-but, made-but}
use Rattle.leaves.proofs.Pages.{lowest-free, one_less}
use Rattle.leaves.proofs.Passes.{Passes, entry_on, end_over, passed-mark, Arrived, arrives}
use Rattle.leaves.proofs.Steps.{absent-ends, in-region, stored-built, stored_here, stored-elsewhere, made-built, made-end, made-passes, made-absent}

-- the tables after a change at the page of a place, so many levels above the last: at its addresses another page is over, at all others
-- the one that was, by the same entry; and none is empty, if they were full before
pub record Changed (tree : Tree) (place last : ℕ) (now : Leaf) (before after : Tables) (Full : Type 0) : Type 0 where
  pub built : WellBuilt after.bytes after.marks tree
  pub here : (q : ℕ) → above q last ≡ above place last → leaf_over after.bytes tree q ≡ now
  pub elsewhere : (q : ℕ) → q < 2 ^ (12 + 9 * (tree.below + 1)) → (above q last ≡ above place last → ⊥)
      → end_over after.bytes tree q ≡ end_over before.bytes tree q
  pub filled : Full → NoneEmpty after.bytes after.marks tree

fuller : (tree : Tree) (place last : ℕ) (now : Leaf) (before : Tables) (P Q : Type 0) → (Q → P) → {after : Tables}
    → Changed tree place last now before after P → Changed tree place last now before after Q
fuller tree place last now before P Q of c =
    record { built = c.built; here = c.here; elsewhere = c.elsewhere; filled = λ q. c.filled (of q) }

pub page-is : (q page n : ℕ) → number q page n / 512 ≡ page
page-is q page n = omega (arith, index-small q n)

module _ (tree : Tree) (place last word : ℕ) (reached : place < 2 ^ (12 + 9 * (tree.below + 1))) (fits : word < 2 ^ 64)
    (on : present word ≡ true) (maps : maps_page last word ≡ true) where
  no-further : leads_on last word ≡ false
  no-further = rw (on, maps)

  put : (k page : ℕ) (t : Tables) → WellBuilt t.bytes t.marks tree → Passes t.bytes tree place (last + k) page
      → present (entry_on t.bytes place page (last + k)) ≡ false → k ≤ free_pages t.marks
      → Changed tree place last (leaf last word) t (with_leaf tree.start place last word k (8 * number place page (last + k)) t)
      (FilledBut t.bytes t.marks tree page)
  unfolding with_leaf
  put zero page t w passes absent enough =
      let same : last + 0 ≡ last = omega arith in
      let p : Passes t.bytes tree place last page = rw same at passes in
      let a : present (entry_on t.bytes place page last) ≡ false = rw same at absent in
      let x = number place page last in
      let mark : get_or t.marks (x / 512) 0 ≡ suc last = rw (page-is place page last) (passed-mark t.bytes t.marks tree w place p) in
      let was = absent-ends last (held_entry t.bytes (8 * x)) a in
      rw same
      (record {
        built = stored-built t.bytes t.marks tree w x last mark word fits was no-further;
        here = λ q h. stored_here t.bytes t.marks tree w x last mark word fits was no-further place page p refl q h ∙ rw on;
        elsewhere = λ q hq h. stored-elsewhere t.bytes t.marks tree w x last mark word fits was no-further place page p refl reached q hq h;
        filled = λ full. and-it (with_word t.bytes (8 * x) word) t.marks tree page
            (λ top. stored-in t.bytes t.marks tree x word page (in-region t.bytes t.marks tree w x last mark) fits (page-is place page last) on)
            (stored-but t.bytes t.marks tree x word page (in-region t.bytes t.marks tree w x last mark) fits (page-is place page last) full);
      })
  put (suc k) page t w passes absent enough =
      let x = number place page (last + suc k) in
      let f = lowest t.marks in
      let free = lowest-free t.marks (omega arith) in
      let deep : 0 < last + suc k = omega arith in
      let next : last + suc k ≡ suc (last + k) = omega arith in
      let mark : get_or t.marks (x / 512) 0 ≡ suc (last + suc k) =
      rw (page-is place page (last + suc k)) (passed-mark t.bytes t.marks tree w place passes) in
      let w' = made-built t.bytes t.marks tree w x (last + suc k) f mark deep free.0 free.1 absent in
      let passes' = made-passes t.bytes t.marks tree w x (last + suc k) f mark deep free.0 free.1 absent place page (last + k) next passes refl in
      let absent' = made-absent t.bytes t.marks tree w x (last + suc k) f mark deep free.0 free.1 absent place (last + k) in
      let fewer = one_less t.marks (last + k) (omega arith) in
      let enough' : k ≤ free_pages (set t.marks f (last + suc k)) = rw next (omega arith) in
      let after = put k f (new_table tree.start (8 * x) (last + suc k) t) w' passes' absent' enough' in
      rw (placed place f (last + k))
      (record {
        built = after.built;
        here = after.here;
        elsewhere = λ q hq h. after.elsewhere q hq h ∙ made-end t.bytes t.marks tree w x (last + suc k) f mark deep free.0 free.1 absent q;
        filled = λ full. after.filled (made-but t.bytes t.marks tree w x (last + suc k) f mark deep free.0 free.1 absent (rw (page-is place page (last + suc k)) full));
      })

  pub mapped-changed : (t : Tables) → WellBuilt t.bytes t.marks tree → last ≤ tree.below → (mapped tree place last word t).0 ≡ 0
      → Changed tree place last (leaf last word) t (mapped tree place last word t).1 (NoneEmpty t.bytes t.marks tree)
  unfolding mapped
  mapped-changed t w less taken =
      go (arrives t.bytes t.marks tree w place last less) (present (way t.bytes tree place last).entry) refl
      (ltb (free_pages t.marks) ((way t.bytes tree place last).below - last)) refl taken
    where
      stop : Stop
      stop = way t.bytes tree place last

      go : Arrived t.bytes t.marks tree w place last stop → (p : Bool) → present stop.entry ≡ p
          → (few : Bool) → ltb (free_pages t.marks) (stop.below - last) ≡ few
          → (if◌then◌else◌ {A = ℕ × Tables} p (6, t) (if few then (7, t) else (0, with_leaf tree.start place last word (stop.below - last) stop.at t))).0 ≡ 0
          → Changed tree place last (leaf last word) t
          (if◌then◌else◌ {A = ℕ × Tables} p (6, t) (if few then (7, t) else (0, with_leaf tree.start place last word (stop.below - last) stop.at t))).1
          (NoneEmpty t.bytes t.marks tree)
      go a true e few l taken = absurd (omega arith)
      go a false e true l taken = absurd (omega arith)
      go a false e false l taken =
          let back : last + (stop.below - last) ≡ stop.below = omega (arith, a.reached) in
          let at : 8 * number place a.page (last + (stop.below - last)) ≡ stop.at =
          ap (λ (n : ℕ). 8 * number place a.page n) back ∙ sym (placed place a.page stop.below) ∙ sym (ap (λ (s : Stop). s.at) a.is) in
          let entry : entry_on t.bytes place a.page (last + (stop.below - last)) ≡ stop.entry =
          ap (held_entry t.bytes) (ap (λ (n : ℕ). 8 * number place a.page n) back ∙ sym (placed place a.page stop.below))
          ∙ sym (ap (λ (s : Stop). s.entry) a.is) in
          fuller tree place last (leaf last word) t (FilledBut t.bytes t.marks tree a.page) (NoneEmpty t.bytes t.marks tree)
          (all_but t.bytes t.marks tree a.page)
          (subst (λ (at : ℕ). Changed tree place last (leaf last word) t (with_leaf tree.start place last word (stop.below - last) at t) (FilledBut t.bytes t.marks tree a.page)) at
          (put (stop.below - last) a.page t w (rw back a.passes) (rw entry e) (ltb-false (free_pages t.marks) (stop.below - last) l)))
