-- Laws of a listing, over any account of an address space in which every address of a region has it.
use Prim.Native.Nat.{ℕ, zero, suc, ◌+◌, ◌-◌, ◌*◌, ◌/◌, ◌%◌, ◌^◌, ◌≤◌, ◌<◌}
use mathlib.Core.Bool.{Bool, true, false, ◌&&◌}
use mathlib.Core.List.{List, [], ◌∷◌, ◌++◌, append_assoc}
use mathlib.Core.Path.{◌≡◌, refl, ap, sym, ◌∙◌, subst}
use native.Mathlib.Decide.{dec_le}
use native.Mathlib.Nat.{mod-lt, zero-mod, add-mod_right, zero-add, add-zero}
use native.Mathlib.Omega.{arith}
use borrow.Author.Tests.{eq-eqb, ne_eqb}
use lib.Pow.{split, high, low, pow_pos, pow-add}
use Rattle.std.specs.Prelude.{if◌then◌else◌}
use Rattle.dma.specs.InterruptRange.{span_at}
use Rattle.regions.specs.Region.{Region, is_listed}
use Rattle.mapping.specs.Search.{Fresh}
use Rattle.mapping.specs.Spans.{Span, span_of, span_here, spans_from, spans_after}

-- from a multiple of 2^k on, up to the next
module _ (k at x : ℕ) (aligned : at % 2 ^ k ≡ 0) (from : at ≤ x) (to : x < at + 2 ^ k) where
  written : x ≡ at / 2 ^ k * 2 ^ k + (x - at)
  written = omega (arith, split at k)

  pub same_block : at / 2 ^ k ≡ x / 2 ^ k
  same_block = sym (ap (λ (n : ℕ). n / 2 ^ k) written ∙ high (at / 2 ^ k) k (omega arith))

  pub offset-in : x % 2 ^ k ≡ x - at
  offset-in = ap (λ (n : ℕ). n % 2 ^ k) written ∙ low (at / 2 ^ k) k (omega arith)

-- an address that begins no block lies in that of the address before it
pub block-before : (k x : ℕ) → (suc x % 2 ^ k ≡ 0 → ⊥) → suc x / 2 ^ k ≡ x / 2 ^ k
block-before k x off =
    let q = suc x / 2 ^ k in
    let r = suc x % 2 ^ k in
    let is = split (suc x) k in
    let some : 0 < r = omega arith in
    let less : r < 2 ^ k = mod-lt (suc x) (pow_pos k) in
    let here : x ≡ q * 2 ^ k + (r - 1) = omega arith in
    sym (ap (λ (n : ℕ). n / 2 ^ k) here ∙ high q k (omega arith))

module _ (region : (address : ℕ) → Region) (end : ℕ) where
  abbrev pub here : (address : ℕ) → List Span
  here = span_here region end

  abbrev pub spans_of : (places from : ℕ) → List Span
  spans_of = spans_from region end

  pub in_two : (j k from : ℕ) → spans_of (j + k) from ≡ spans_of j from ++ spans_of k (from + 4096 * j)
  unfolding spans_from
  in_two zero k from = ap (λ (n : ℕ). spans_of n from) (zero-add k) ∙ ap (λ (n : ℕ). spans_of k n) (sym (add-zero from))
  in_two (suc j) k from =
      let next : from + 4096 + 4096 * j ≡ from + 4096 * suc j = omega arith in
      let one : suc j + k ≡ suc (j + k) = omega arith in
      ap (λ (n : ℕ). spans_of n from) one
      ∙ ap (λ l. here from ++ l) (in_two j k (from + 4096) ∙ ap (λ (n : ℕ). spans_of j (from + 4096) ++ spans_of k n) next)
      ∙ sym (append_assoc (here from) (spans_of j (from + 4096)) (spans_of k (from + 4096 * suc j)))

  -- no span begins from an address up to another
  abbrev pub NoneFrom : (from to : ℕ) → Type 0
  NoneFrom from to = (x : ℕ) → from ≤ x → x < to → here x ≡ []

  pub none : (k from : ℕ) → NoneFrom from (from + 4096 * k) → spans_of k from ≡ []
  unfolding spans_from
  none zero from h = refl
  none (suc k) from h =
      rw (h from (omega arith) (omega arith), none k (from + 4096) (λ x low high. h x (omega arith) (omega arith)))

  -- so the listing from one is that from the other
  pub skipped : (from to : ℕ) → from % 4096 ≡ 0 → to % 4096 ≡ 0 → from ≤ to → NoneFrom from to
      → spans_after region end from ≡ spans_after region end to
  unfolding spans_from
  skipped from to page page' order h = by (dec_le ((to - from) / 4096) ((end - from) / 4096))
    where
      d : ℕ
      d = (to - from) / 4096

      by : Dec (d ≤ (end - from) / 4096) → spans_after region end from ≡ spans_after region end to
      by (yes few) =
          let parts : (end - from) / 4096 ≡ d + (end - to) / 4096 = omega arith in
          let there : from + 4096 * d ≡ to = omega arith in
          ap (λ (n : ℕ). spans_of n from) parts ∙ in_two d ((end - to) / 4096) from
          ∙ rw (none d from (λ x low high. h x low (omega arith)), there)
      by (no more) =
          let past : (end - to) / 4096 ≡ 0 = omega arith in
          none ((end - from) / 4096) from (λ x low high. h x low (omega arith)) ∙ sym (ap (λ (n : ℕ). spans_of n to) past)

  -- something is listed at an address, or not
  abbrev pub Quiet : (address : ℕ) → Type 0
  Quiet address = is_listed (region address).what ≡ false

  abbrev pub QuietFrom : (from to : ℕ) → Type 0
  QuietFrom from to = (x : ℕ) → from ≤ x → x < to → Quiet x

  pub quiet_none : (from to : ℕ) → QuietFrom from to → NoneFrom from to
  quiet_none from to h x low high = rw (h x low high)

  abbrev Begins : (address : ℕ) → Type 0
  Begins = Fresh region

  module _
      (same : (x y : ℕ) → x / span_at (region x).level ≡ y / span_at (region x).level → region y ≡ region x) where
    pub fresh-zero : Begins 0
    fresh-zero on = zero-mod (span_at (region 0).level)

    -- past an address where nothing is listed
    pub fresh-quiet : (x : ℕ) → Quiet x → Begins (suc x)
    fresh-quiet x quiet on = by (dec_le 1 (suc x % span_at (region (suc x)).level))
      where
        by : Dec (1 ≤ suc x % span_at (region (suc x)).level) → suc x % span_at (region (suc x)).level ≡ 0
        by (no is) = omega arith
        by (yes off) =
            let alike = same (suc x) x (block-before (12 + 9 * ((region (suc x)).level - 1)) x (λ e. omega (arith, e))) in
            let z : ◌≡◌ {A = Bool} true false = sym on ∙ ap (λ (r : Region). is_listed r.what) (sym alike) ∙ quiet in
            let z2 : ◌≡◌ {A = ℕ} 0 1 = cc in
            absurd (omega arith)

    module _ (at : ℕ) (page : at % 4096 ≡ 0) (aligned : at % span_at (region at).level ≡ 0) where
      abbrev width : ℕ
      width = 12 + 9 * ((region at).level - 1)

      abbrev next : ℕ
      next = at + 2 ^ width

      in-region : (x : ℕ) → at ≤ x → x < next → region x ≡ region at
      in-region x low high = same at x (same_block width at x aligned low high)

      -- past the end of a region
      pub fresh-after : Begins next
      fresh-after on = by (dec_le 1 (next % span_at (region next).level))
        where
          some : 0 < 2 ^ width
          some = pow_pos width

          before : ℕ
          before = next - 1

          is-next : suc before ≡ next
          is-next = omega (arith, some)

          by : Dec (1 ≤ next % span_at (region next).level) → next % span_at (region next).level ≡ 0
          by (no is) = omega arith
          by (yes off) =
              let k = 12 + 9 * ((region next).level - 1) in
              let near : next / 2 ^ k ≡ before / 2 ^ k =
              subst (λ (n : ℕ). n / 2 ^ k ≡ before / 2 ^ k) is-next
              (block-before k before (λ e. omega (arith, off, subst (λ (n : ℕ). n % 2 ^ k ≡ 0) is-next e))) in
              let alike : region next ≡ region at = sym (same next before near) ∙ in-region before (omega (arith, some)) (omega (arith, some)) in
              ap (λ (r : Region). next % span_at r.level) alike ∙ add-mod_right at (2 ^ width) ∙ aligned

      pub next-page : next % 4096 ≡ 0
      next-page =
          let whole : 2 ^ width ≡ 4096 * 2 ^ (9 * ((region at).level - 1)) = pow-add 2 12 (9 * ((region at).level - 1)) in
          omega arith

      -- the span that begins here, then those from its end on
      pub listed_next : at < end → end % 4096 ≡ 0 → is_listed (region at).what ≡ true
          → spans_after region end at ≡ span_of end at (region at) ∷ spans_after region end next
      unfolding spans_from
      listed_next below whole on =
          let places : (end - at) / 4096 ≡ suc ((end - (at + 4096)) / 4096) = omega arith in
          let first : here at ≡ span_of end at (region at) ∷ [] = rw (on, eq-eqb (at % 2 ^ width) 0 aligned) in
          ap (λ (n : ℕ). spans_of n at) places
          ∙ ap (λ l. l ++ spans_after region end (at + 4096)) first
          ∙ ap (λ l. span_of end at (region at) ∷ l) (skipped (at + 4096) next (omega arith) next-page wide inside)
        where
          wide : at + 4096 ≤ next
          wide =
              let whole : 2 ^ width ≡ 4096 * 2 ^ (9 * ((region at).level - 1)) = pow-add 2 12 (9 * ((region at).level - 1)) in
              let some : 0 < 2 ^ (9 * ((region at).level - 1)) = pow_pos (9 * ((region at).level - 1)) in
              omega arith

          inside : NoneFrom (at + 4096) next
          inside x low high =
              let alike = in-region x (omega arith) high in
              let off : x % 2 ^ width ≡ x - at = offset-in width at x aligned (omega arith) high in
              let isnt : x % span_at (region x).level ≡ 0 → ⊥ =
              λ e. omega (arith, low, off, subst (λ (r : Region). x % span_at r.level ≡ 0) alike e) in
              rw (ne_eqb (x % span_at (region x).level) 0 isnt) (no-list (is_listed (region x).what))
            where
              no-list : (b : Bool) → (if b && false then span_of end x (region x) ∷ [] else []) ≡ []
              no-list true = refl
              no-list false = refl
