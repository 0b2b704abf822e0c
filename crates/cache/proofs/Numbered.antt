-- Keys are alike just where page, source, kind and level are; and the arithmetic that makes them.
use Prim.Native.Nat.{ℕ, zero, suc, ◌+◌, ◌-◌, ◌*◌, ◌/◌, ◌%◌, ◌^◌, ◌<◌, ◌≤◌}
use mathlib.Core.Bool.{Bool, true, false, ◌&&◌, beq}
use mathlib.Core.Path.{◌≡◌, refl, sym, ◌∙◌}
use native.Mathlib.Omega.{arith}
use native.Mathlib.Decide.{ℕ_discrete}
use borrow.Author.Tests.{eq-eqb, ne_eqb}
use lib.Dec.{eqb}
use Rattle.cache.specs.Held.{page_of}
use Rattle.cache.specs.Keys.{write_number, key_number}

-- a test that is three tests
module _ (x y s t p q : ℕ) (w v : Bool) where
  three : (s ≡ t → w ≡ v → p ≡ q → x ≡ y) → (x ≡ y → (s ≡ t) × (w ≡ v) × (p ≡ q))
      → eqb x y ≡ (eqb s t && beq w v && eqb p q)
  three to back = on (ℕ_discrete s t) (ℕ_discrete p q) w v refl refl
    where
      on : Dec (s ≡ t) → Dec (p ≡ q) → (w' v' : Bool) → w ≡ w' → v ≡ v' → eqb x y ≡ (eqb s t && beq w' v' && eqb p q)
      on (no h) d w' v' e f = rw (ne_eqb s t h, ne_eqb x y (λ same. h (back same).0))
      on (yes h) d true false e f = rw (eq-eqb s t h, ne_eqb x y (λ same. let wv = (back same).1 in let z : ◌≡◌ {A = ℕ} 0 1 = cc in omega arith))
      on (yes h) d false true e f = rw (eq-eqb s t h, ne_eqb x y (λ same. let wv = (back same).1 in let z : ◌≡◌ {A = ℕ} 0 1 = cc in omega arith))
      on (yes h) (yes k) true true e f = rw (eq-eqb s t h, eq-eqb p q k, eq-eqb x y (to h (e ∙ sym f) k))
      on (yes h) (yes k) false false e f = rw (eq-eqb s t h, eq-eqb p q k, eq-eqb x y (to h (e ∙ sym f) k))
      on (yes h) (no k) true true e f = rw (eq-eqb s t h, ne_eqb p q k, ne_eqb x y (λ same. k (back same).2))
      on (yes h) (no k) false false e f = rw (eq-eqb s t h, ne_eqb p q k, ne_eqb x y (λ same. k (back same).2))

pub kind-le : (w : Bool) → write_number w ≤ 1
kind-le true = omega arith
kind-le false = omega arith

same_kind : (w v : Bool) → write_number w ≡ write_number v → w ≡ v
same_kind true true h = refl
same_kind true false h = absurd (omega arith)
same_kind false true h = absurd (omega arith)
same_kind false false h = refl

module _ (a s k : ℕ) (address : a < 2 ^ 57) (source : s < 2 ^ 16) (kind : k ≤ 1) where
  level1 : ((a / 2 ^ 12 * 2 ^ 0 + 2 ^ 45 * s + 2 ^ 61 * k + 2 ^ 62 * 1) / 2 ^ 62 ≡ 1) × (a / 2 ^ 12 * 2 ^ 0 + 2 ^ 45 * s + 2 ^ 61 * k + 2 ^ 62 * 1 < 2 ^ 64)
  level1 = (omega arith, omega arith)

  level2 : ((a / 2 ^ 21 * 2 ^ 9 + 2 ^ 45 * s + 2 ^ 61 * k + 2 ^ 62 * 2) / 2 ^ 62 ≡ 2) × (a / 2 ^ 21 * 2 ^ 9 + 2 ^ 45 * s + 2 ^ 61 * k + 2 ^ 62 * 2 < 2 ^ 64)
  level2 = (omega arith, omega arith)

  level3 : ((a / 2 ^ 30 * 2 ^ 18 + 2 ^ 45 * s + 2 ^ 61 * k + 2 ^ 62 * 3) / 2 ^ 62 ≡ 3) × (a / 2 ^ 30 * 2 ^ 18 + 2 ^ 45 * s + 2 ^ 61 * k + 2 ^ 62 * 3 < 2 ^ 64)
  level3 = (omega arith, omega arith)

-- a key has its level in 63:62, and fits a word
pub key-level : (level a s : ℕ) (w : Bool) → a < 2 ^ 57 → s < 2 ^ 16 → 1 ≤ level → level ≤ 3
    → (key_number level a s w / 2 ^ 62 ≡ level) × (key_number level a s w < 2 ^ 64)
unfolding key_number page_of
key-level zero a s w ha hs least most = absurd (omega arith)
key-level (suc zero) a s w ha hs least most = level1 a s (write_number w) ha hs (kind-le w)
key-level (suc (suc zero)) a s w ha hs least most = level2 a s (write_number w) ha hs (kind-le w)
key-level (suc (suc (suc zero))) a s w ha hs least most = level3 a s (write_number w) ha hs (kind-le w)
key-level (suc (suc (suc (suc n)))) a s w ha hs least most = absurd (omega arith)

-- a key of level 1 leaves room for two levels more
pub level1-room : (a s : ℕ) (w : Bool) → a < 2 ^ 57 → s < 2 ^ 16 → key_number 1 a s w < 2 ^ 63
level1-room a s w ha hs = omega (arith, (key-level 1 a s w ha hs (omega arith) (omega arith)).0)

-- three digits, of 45 bits and less, of 16 and of one, are told from their sum
module _ (p q s t k j : ℕ) (sources : (s < 2 ^ 16) × (t < 2 ^ 16)) (kinds : (k ≤ 1) × (j ≤ 1)) where
  digits1 : p < 2 ^ 45 → q < 2 ^ 45 → p + 2 ^ 45 * s + 2 ^ 61 * k ≡ q + 2 ^ 45 * t + 2 ^ 61 * j → (s ≡ t) × (k ≡ j) × (p ≡ q)
  digits1 hp hq e = (omega arith, omega arith, omega arith)

  digits2 : p < 2 ^ 36 → q < 2 ^ 36 → p + 2 ^ 36 * s + 2 ^ 52 * k ≡ q + 2 ^ 36 * t + 2 ^ 52 * j → (s ≡ t) × (k ≡ j) × (p ≡ q)
  digits2 hp hq e = (omega arith, omega arith, omega arith)

  digits3 : p < 2 ^ 27 → q < 2 ^ 27 → p + 2 ^ 27 * s + 2 ^ 43 * k ≡ q + 2 ^ 27 * t + 2 ^ 43 * j → (s ≡ t) × (k ≡ j) × (p ≡ q)
  digits3 hp hq e = (omega arith, omega arith, omega arith)

module _ (a b s t : ℕ) (w v : Bool) (addresses : (a < 2 ^ 57) × (b < 2 ^ 57)) (sources : (s < 2 ^ 16) × (t < 2 ^ 16)) where
  kinds : (write_number w ≤ 1) × (write_number v ≤ 1)
  kinds = (kind-le w, kind-le v)

  pub key-same : (level : ℕ) → 1 ≤ level → level ≤ 3
      → eqb (key_number level a s w) (key_number level b t v) ≡ (eqb s t && beq w v && eqb (page_of level a) (page_of level b))
  unfolding key_number page_of
  key-same zero least most = absurd (omega arith)
  key-same (suc zero) least most =
      three (a / 2 ^ 12 * 2 ^ 0 + 2 ^ 45 * s + 2 ^ 61 * write_number w + 2 ^ 62 * 1) (b / 2 ^ 12 * 2 ^ 0 + 2 ^ 45 * t + 2 ^ 61 * write_number v + 2 ^ 62 * 1) s t (a / 2 ^ 12) (b / 2 ^ 12) w v (λ e f g. rw (e, f, g))
      (λ same.
      let le = kind-le w in
      let ge = kind-le v in
      let d = digits1 (a / 2 ^ 12) (b / 2 ^ 12) s t (write_number w) (write_number v) sources kinds (omega arith) (omega arith) (omega arith) in (d.0, same_kind w v d.1, d.2))
  key-same (suc (suc zero)) least most =
      three (a / 2 ^ 21 * 2 ^ 9 + 2 ^ 45 * s + 2 ^ 61 * write_number w + 2 ^ 62 * 2) (b / 2 ^ 21 * 2 ^ 9 + 2 ^ 45 * t + 2 ^ 61 * write_number v + 2 ^ 62 * 2) s t (a / 2 ^ 21) (b / 2 ^ 21) w v (λ e f g. rw (e, f, g))
      (λ same.
      let le = kind-le w in
      let ge = kind-le v in
      let d = digits2 (a / 2 ^ 21) (b / 2 ^ 21) s t (write_number w) (write_number v) sources kinds (omega arith) (omega arith) (omega arith) in (d.0, same_kind w v d.1, d.2))
  key-same (suc (suc (suc zero))) least most =
      three (a / 2 ^ 30 * 2 ^ 18 + 2 ^ 45 * s + 2 ^ 61 * write_number w + 2 ^ 62 * 3) (b / 2 ^ 30 * 2 ^ 18 + 2 ^ 45 * t + 2 ^ 61 * write_number v + 2 ^ 62 * 3) s t (a / 2 ^ 30) (b / 2 ^ 30) w v (λ e f g. rw (e, f, g))
      (λ same.
      let le = kind-le w in
      let ge = kind-le v in
      let d = digits3 (a / 2 ^ 30) (b / 2 ^ 30) s t (write_number w) (write_number v) sources kinds (omega arith) (omega arith) (omega arith) in (d.0, same_kind w v d.1, d.2))
  key-same (suc (suc (suc (suc n)))) least most = absurd (omega arith)

-- as the code makes them
module _ (a s : ℕ) (w : Bool) (address : a < 2 ^ 57) (source : s < 2 ^ 16) where
  pub small-as : a / 4096 + 2 ^ 45 * s + 2 ^ 61 * write_number w + 2 ^ 62 ≡ key_number 1 a s w
  unfolding key_number page_of
  small-as = omega arith

  pub medium-as : key_number 1 a s w - key_number 1 a s w % 512 + 2 ^ 62 ≡ key_number 2 a s w
  unfolding key_number page_of
  medium-as = omega arith

  pub large-as : key_number 1 a s w - key_number 1 a s w % 2 ^ 18 + 2 ^ 63 ≡ key_number 3 a s w
  unfolding key_number page_of
  large-as = omega arith
