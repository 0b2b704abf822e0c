-- Laws of what comes before any item.
use Prim.Native.Nat.{ℕ, ◌+◌, ◌-◌, ◌/◌, ◌%◌, ◌^◌, ◌≤◌}
use mathlib.Core.Bool.{true, false, not, ◌||◌}
use mathlib.Core.Path.{◌≡◌}
use mathlib.Core.List.{List}
use native.Mathlib.Omega.{arith}
use borrow.Author.Tests.{eqb-true, ltb-false, leb-false, not-false}
use lib.Dec.{eqb, leb, ltb}
use lib.ListN.{length}
use lib.Pow.{pow_mono}
use Rattle.image.specs.Rules.{run}
use Rattle.image.specs.Windows.{of_windows, bad_windows}
use Rattle.image.proofs.Choices.{both, neither}
use Rattle.registers.specs.Registers.{registers_bad}
use Rattle.registers.specs.declared.Registers.{Registers}
use Rattle.dma.specs.Context.{Usable as UsableContext}
use Rattle.dma.specs.Lookup.{on_lookup, lookup_rules}
use Rattle.dma.specs.declared.context.Context.{Context}
use Rattle.region.specs.Region.{not_pages, pages_shown, bad_region}
use Rattle.region.specs.Shared.{shares_tables}
use Rattle.builder.specs.Ready.{refusal, not_yet, sized, top_outside, tree_of, in_context, readiness, TablesReady}

-- a region that isn't refused
pub region-fine : (registers : Registers) (windows bytes : List ℕ) (start size : ℕ) → registers.haw ≤ 52
    → bad_region registers windows bytes start size ≡ false → (start % 4096 ≡ 0) × (size % 4096 ≡ 0) × (start + size ≤ 2 ^ 52)
unfolding bad_region
region-fine registers windows bytes start size haw h =
    let h3 = neither (not_pages start size || ltb (2 ^ registers.haw) (start + size) || not (pages_shown windows (size / 4096) start)) (shares_tables registers start size (of_windows windows bytes)) h in
    let h2 = neither (not_pages start size || ltb (2 ^ registers.haw) (start + size)) (not (pages_shown windows (size / 4096) start)) h3.0 in
    let h1 = neither (not_pages start size) (ltb (2 ^ registers.haw) (start + size)) h2.0 in
    let h0 = neither (not (eqb (start % 4096) 0)) (not (eqb (size % 4096) 0)) h1.0 in
    let ends = ltb-false (2 ^ registers.haw) (start + size) h1.1 in (
      eqb-true (start % 4096) 0 (not-false _ h0.0),
      eqb-true (size % 4096) 0 (not-false _ h0.1),
      omega (arith, ends, pow_mono {i = registers.haw} {j = 52} haw),
    )

module _ (registers : Registers) (windows bytes : List ℕ) (start size copy marks : ℕ) where
  module _ (c : Context) where
    pub usable : registers.haw ≤ 52 → UsableContext c → bad_region registers windows bytes start size ≡ false → sized size copy marks ≡ true
        → top_outside start size c.top ≡ false → TablesReady registers copy marks (tree_of start c)
    usable haw u region size_is top =
        let r = region-fine registers windows bytes start size haw region in
        let s = both (eqb copy size) (eqb marks (size / 4096)) size_is in
        let Copy-is = eqb-true copy size s.0 in
        let marks-is = eqb-true marks (size / 4096) s.1 in
        let t = neither (ltb c.top start) (leb size (c.top - start)) top in
        let inside = leb-false size (c.top - start) t.1 in (
          omega (arith, haw),
          r.0,
          omega (arith, r.2, Copy-is),
          omega (arith, r.1, Copy-is, marks-is),
          omega (arith, r.2, inside),
          omega (arith, u.0, u.1),
        )

  module _ (source : ℕ) where
    pub looked : (bad_windows windows (length bytes) || registers_bad registers) ≡ false → not registers.te ≡ false
        → on_lookup (run (lookup_rules registers source) (of_windows windows bytes)) (λ reason fpd. not_yet 2) (in_context registers windows bytes start size copy marks)
        ≡ readiness registers windows bytes start size copy marks source
    unfolding readiness
    looked good h = rw (good, h)

    pub refused_1 : bad_windows windows (length bytes) ≡ true → refusal 1 ≡ readiness registers windows bytes start size copy marks source
    unfolding readiness
    refused_1 h = rw h
