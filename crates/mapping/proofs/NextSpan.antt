-- How the code looks for the next span: from block to block where nothing is listed.
use Prim.Native.Nat.{ℕ, suc, ◌+◌, ◌-◌, ◌*◌, ◌/◌, ◌%◌, ◌^◌, ◌≤◌, ◌<◌}
use mathlib.Core.Bool.{true, false}
use mathlib.Core.List.{[]}
use mathlib.Core.Path.{◌≡◌, refl, ap, sym, ◌∙◌, subst}
use native.Mathlib.Decide.{dec_le}
use native.Mathlib.Nat.{mod-lt, mul_assoc, mul_comm}
use native.Mathlib.Omega.{arith}
use lib.Pow.{split, high, pow_pos, pow-add}
use Rattle.dma.specs.InterruptRange.{span_at}
use Rattle.translation.specs.declared.Rights.{Rights}
use Rattle.regions.specs.Region.{Region, nothing, is_listed}
use Rattle.mapping.specs.Search.{Fresh, Tells, FirstSpan}
use Rattle.mapping.specs.Spans.{spans_from, spans_after}
use Rattle.mapping.proofs.SpanLaws.{QuietFrom, quiet_none, skipped, fresh-quiet, fresh-after, next-page, listed_next}

-- the block of 2^k that an address is in
module _ (k at : ℕ) {behind : ℕ} (is : behind ≡ at - at % 2 ^ k + 2 ^ k) where
  less : at % 2 ^ k < 2 ^ k
  less = mod-lt at (pow_pos k)

  begun : at - at % 2 ^ k ≡ at / 2 ^ k * 2 ^ k
  begun = omega (arith, split at k)

  pub block_more : at < behind
  block_more = omega (arith, less, split at k)

  pub block_same : (x : ℕ) → at ≤ x → x < behind → at / 2 ^ k ≡ x / 2 ^ k
  block_same x low top =
      let here : x ≡ at / 2 ^ k * 2 ^ k + (x - (at - at % 2 ^ k)) = omega (arith, begun, split at k) in
      sym (ap (λ (n : ℕ). n / 2 ^ k) here ∙ high (at / 2 ^ k) k (omega (arith, split at k)))

  pub block-page : 12 ≤ k → at % 4096 ≡ 0 → behind % 4096 ≡ 0
  block-page wide page =
      let width : 12 + (k - 12) ≡ k = omega arith in
      let whole : 2 ^ k ≡ 4096 * 2 ^ (k - 12) = sym (ap (λ (n : ℕ). 2 ^ n) width) ∙ pow-add 2 12 (k - 12) in
      let rest : at / 2 ^ k * 2 ^ k ≡ 4096 * (2 ^ (k - 12) * (at / 2 ^ k)) =
      ap (λ (n : ℕ). at / 2 ^ k * n) whole ∙ mul_comm (at / 2 ^ k) (4096 * 2 ^ (k - 12)) ∙ mul_assoc 4096 (2 ^ (k - 12)) (at / 2 ^ k) in
      omega (arith, begun, whole, rest)

module _ (region : (address : ℕ) → Region) (end : ℕ)
    (same : (x y : ℕ) → x / span_at (region x).level ≡ y / span_at (region x).level → region y ≡ region x) where
  -- nothing from an address up to the end
  pub none_left : (from at : ℕ) → from % 4096 ≡ 0 → at % 4096 ≡ 0 → from ≤ at → QuietFrom region end from at → end ≤ at → spans_after region end from ≡ []
  unfolding spans_from
  none_left from at page page' order quiet past =
      let over : (end - at) / 4096 ≡ 0 = omega arith in
      skipped region end from at page page' order (quiet_none region end from at quiet) ∙ ap (λ (n : ℕ). spans_from region end n at) over

  -- a block more
  pub quiet-on : (from at behind : ℕ) (r : Region) → Tells region at r → is_listed r.what ≡ false
      → behind ≡ at - at % span_at r.level + span_at r.level
      → QuietFrom region end from at → QuietFrom region end from behind
  quiet-on from at behind r tells off is quiet x low top = by (dec_le at x)
    where
      by : Dec (at ≤ x) → is_listed (region x).what ≡ false
      by (yes in-it) = tells.nothing off x (block_same (12 + 9 * (r.level - 1)) at is x in-it top)
      by (no before) = quiet x low (omega arith)

  pub fresh_on : (from at behind : ℕ) → from ≤ at → at < behind → QuietFrom region end from behind → Fresh region behind
  fresh_on from at behind order more quiet =
      let is : suc (behind - 1) ≡ behind = omega arith in
      subst (λ (n : ℕ). Fresh region n) is (fresh-quiet region end same (behind - 1) (quiet (behind - 1) (omega arith) (omega arith)))

  -- something is listed here
  pub found : (from at : ℕ) (r : Region) → from % 4096 ≡ 0 → at % 4096 ≡ 0 → end % 4096 ≡ 0 → from ≤ at → at < end
      → QuietFrom region end from at → Fresh region at → Tells region at r → is_listed r.what ≡ true
      → FirstSpan region end from at r
  found from at r page page' whole order below quiet fresh tells on =
      let is = tells.something on in
      let on' : is_listed (region at).what ≡ true = subst (λ (s : Region). is_listed s.what ≡ true) is on in
      let begins = fresh on' in
      subst (FirstSpan region end from at) (sym is)
      record {
        listing =
            skipped region end from at page page' order (quiet_none region end from at quiet)
            ∙ listed_next region end same at page' begins below whole on';
        fresh = fresh-after region end same at page' begins;
        page = next-page region end same at page' begins;
        below = below;
        high = subst (λ (s : Region). (0 < s.level) × (s.level ≤ 6)) is tells.high;
      }

  -- the region itself
  pub tells-region : (address levels : ℕ) (r : Region) → levels ≤ 5 → (0 < (region address).level) × ((region address).level ≤ suc levels)
      → r ≡ region address → Tells region address r
  tells-region address levels r few lies is =
      subst (Tells region address) (sym is)
      record {
        high = (lies.0, omega (arith, lies.1));
        something = λ on. refl;
        nothing = λ off x near. ap (λ (s : Region). is_listed s.what) (same address x near) ∙ off;
      }

  -- all of a table's span
  pub tells-known : (address level : ℕ) (rights : Rights) → 0 < level → level ≤ 5
      → ((x : ℕ) → address / 2 ^ (12 + 9 * level) ≡ x / 2 ^ (12 + 9 * level) → is_listed (region x).what ≡ false)
      → Tells region address (record { level = level + 1; what = nothing; rights = rights })
  tells-known address level rights some few quiet =
      let one : level + 1 - 1 ≡ level = omega arith in
      record {
        high = (omega arith, omega arith);
        something = λ on. let z : ◌≡◌ {A = ℕ} 0 1 = cc in absurd (omega arith);
        nothing = λ off x near. quiet x (subst (λ (n : ℕ). address / 2 ^ (12 + 9 * n) ≡ x / 2 ^ (12 + 9 * n)) one near);
      }
