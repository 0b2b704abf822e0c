-- Items taken, one and the next: for the code.
use Rattle.std.proofs.Common.{◌≡◌, ◌≢◌, ℕ, ◌+◌, ◌-◌, ◌<◌, List, ap, sym, ◌∙◌, arith}
use borrow.Author.Tests.{eq-eqb, ne_eqb}
use Rattle.registers.specs.declared.Registers.{Registers}
use Rattle.tables.specs.Tables.{Tables}
use Rattle.tables.specs.declared.Tree.{Tree}
use Rattle.tables.proofs.Folds.{again}
use Rattle.builder.specs.Answers.{item_error_number}
use Rattle.builder.specs.declared.reasons.ItemError.{ItemError}
use Rattle.builder.specs.declared.reasons.ItemError.TheVariants.{Size, Alignment, Place, Rights, Frame, Overlap, TooFewPages, NoSuchPage}
use Rattle.builder.specs.Items.{Taken, item_at, take_item, then_take, take_items}
use Rattle.builder.specs.declared.items.Item.{Item}

module _ (registers : Registers) (tree : Tree) (numbers : List ℕ) (n i : ℕ) (t : Tables) (more : i < n) where
  first : {reason : ℕ} {after : Tables} → (reason, after) ≡ take_item registers tree (item_at numbers i) t
      → take_items registers tree numbers (n - i) i t
      ≡ then_take registers tree i (reason, after) (take_items registers tree numbers (n - (i + 1)) (i + 1))
  unfolding take_items
  first e = rw (again n i more, ← e)

  pub items_stop : {item : Item} {reason : ℕ} {after : Tables} → item ≡ item_at numbers i → (reason, after) ≡ take_item registers tree item t
      → reason ≢ 0 → ◌≡◌ {A = Taken × Tables} (record { index = i; reason = reason }, after) (take_items registers tree numbers (n - i) i t)
  items_stop {reason = reason} p e h =
      sym (first (e ∙ ap (λ (x : Item). take_item registers tree x t) p) ∙ rw (ne_eqb reason 0 h))

  pub items_on : {item : Item} {reason : ℕ} {after : Tables} → item ≡ item_at numbers i → (reason, after) ≡ take_item registers tree item t
      → reason ≡ 0 → take_items registers tree numbers (n - (i + 1)) (i + 1) after ≡ take_items registers tree numbers (n - i) i t
  items_on {reason = reason} p e h =
      sym (first (e ∙ ap (λ (x : Item). take_item registers tree x t) p) ∙ rw (eq-eqb reason 0 h))

pub items_done : (registers : Registers) (tree : Tree) (numbers : List ℕ) (n i : ℕ) (t : Tables) → i ≡ n
    → ◌≡◌ {A = Taken × Tables} (record { index = n; reason = 0 }, t) (take_items registers tree numbers (n - i) i t)
unfolding take_items
items_done registers tree numbers n i t h = let none : n - i ≡ 0 = omega arith in rw (none, h)

-- no reason has the number 0
pub some_number : (error : ItemError) → item_error_number error ≢ 0
some_number Size h = omega arith
some_number Alignment h = omega arith
some_number Place h = omega arith
some_number Rights h = omega arith
some_number Frame h = omega arith
some_number Overlap h = omega arith
some_number TooFewPages h = omega arith
some_number NoSuchPage h = omega arith
