-- What a list leaves at an address: of the last item whose page holds it, or as it was.
use Prim.Native.Nat.{ℕ, zero, suc, ◌+◌, ◌≤◌, ◌<◌}
use mathlib.Core.Bool.{true, false}
use mathlib.Core.Path.{◌≡◌, refl, ap, ◌∙◌}
use mathlib.Core.List.{List}
use native.Mathlib.Decide.{dec_le}
use native.Mathlib.Omega.{arith}
use Rattle.std.specs.Prelude.{if◌then◌else◌}
use Rattle.builder.specs.Items.{item_at}
use Rattle.builder.specs.Reasons.{unmaps, levels_below, leaf_of}
use Rattle.builder.specs.declared.items.Item.{Item}
use Rattle.leaves.specs.Leaves.{Leaf, none, leaf, holds, left_by, left}

-- an item's page, mapped or unmapped
abbrev pub listed_as : Item → Leaf
listed_as item = if unmaps item then none else leaf (levels_below item) (leaf_of item)

module _ (numbers : List ℕ) (address : ℕ) where
  pub left-none : (n i : ℕ) (before : Leaf) → ((j : ℕ) → i ≤ j → j < i + n → holds (item_at numbers j) address ≡ false)
      → left numbers n i address before ≡ before
  unfolding left
  left-none zero i before off = refl
  left-none (suc n) i before off =
      rw (off i (omega arith) (omega arith)) (left-none n (i + 1) before (λ j low high. off j (omega arith) (omega arith)))

  pub left-last : (n i : ℕ) (before : Leaf) (k : ℕ) → i ≤ k → k < i + n → holds (item_at numbers k) address ≡ true
      → ((j : ℕ) → k < j → j < i + n → holds (item_at numbers j) address ≡ false) → left numbers n i address before ≡ listed_as (item_at numbers k)
  unfolding left
  left-last zero i before k low high here later = absurd (omega arith)
  left-last (suc n) i before k low high here later =
      by (dec_le k i)
      (λ more.
      left-last n (i + 1) (left_by (item_at numbers i) address before) k more (omega arith) here (λ j from to. later j from (omega arith)))
    where
      by : Dec (k ≤ i) → (i + 1 ≤ k → left numbers n (i + 1) address (left_by (item_at numbers i) address before) ≡ listed_as (item_at numbers k))
          → left numbers n (i + 1) address (left_by (item_at numbers i) address before) ≡ listed_as (item_at numbers k)
      by (yes is) rest =
          let same : i ≡ k = omega arith in
          left-none n (i + 1) (left_by (item_at numbers i) address before) (λ j from to. later j (omega arith) (omega arith))
          ∙ ap (λ (x : ℕ). left_by (item_at numbers x) address before) same ∙ rw here
      by (no more) rest = rest (omega arith)
