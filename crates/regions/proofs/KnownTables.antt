-- Laws of the tables that are known to list nothing.
use Prim.Native.Nat.{ℕ, zero, suc, ◌+◌, ◌-◌, ◌*◌, ◌/◌, ◌%◌, ◌^◌, ◌≤◌, ◌<◌}
use mathlib.Core.Bool.{Bool, true, false}
use mathlib.Core.List.{List, [], ◌∷◌}
use mathlib.Core.Logic.{inl, inr}
use mathlib.Core.Path.{◌≡◌, refl, ap, sym, ◌∙◌, subst}
use native.Mathlib.Decide.{dec_le}
use native.Mathlib.Nat.{mod-lt, mul_comm, mul-one, mul-sub}
use native.Mathlib.Omega.{arith}
use lib.ListN.{length, get_or, set, length-set, get_or-replicate, length-replicate, replicate}
use lib.Pow.{split, high, low, pow_pos, pow-lt}
use lib.Seq.{get_or-set_same, get_or-set_other}
use Rattle.std.specs.Prelude.{if◌then◌else◌}
use Rattle.image.specs.Memory.{Memory}
use Rattle.registers.specs.declared.Registers.{Registers}
use Rattle.dma.specs.Walk.{down}
use Rattle.translation.specs.Rights.{both}
use Rattle.translation.specs.declared.Rights.{Rights}
use Rattle.translation.proofs.Pages.{same_above}
use Rattle.regions.specs.Known.{rights_number, key_of, PutIn, Remembers, Quiet, Sound, QuietTo}
use Rattle.regions.specs.Region.{Region, is_listed, region_step, region_in}
use Rattle.regions.specs.declared.tables.Tables.{Tables}
use Rattle.regions.specs.declared.tables.Reached.{Reached}
use Rattle.regions.proofs.Regions.{low_bits, led-at}

pub pow-le : (i j : ℕ) → i ≤ j → 2 ^ i ≤ 2 ^ j
pow-le i j h = by (dec_le j i)
  where
    by : Dec (j ≤ i) → 2 ^ i ≤ 2 ^ j
    by (yes e) = let is : i ≡ j = omega arith in rw is (omega arith)
    by (no e) = omega (arith, pow-lt {i = i} {j = j} (omega arith))

-- past its end a list has nothing
past : (l : List ℕ) (i : ℕ) → length l ≤ i → get_or l i 0 ≡ 0
past [] i h = refl
past (x ∷ xs) zero h = absurd (omega arith)
past (x ∷ xs) (suc i) h = past xs i (omega arith)

-- a key tells table, level and rights
rights-lt : (r : Rights) → rights_number r < 4
rights-lt r = by r.read r.write
  where
    by : (a b : Bool) → (if a then 1 else 0) + (if b then 2 else 0) < 4
    by true true = omega arith
    by true false = omega arith
    by false true = omega arith
    by false false = omega arith

same-rights : (r s : Rights) → rights_number r ≡ rights_number s → r ≡ s
same-rights r s = by r.read r.write s.read s.write
  where
    pair : Bool → Bool → Rights
    pair a b = record { read = a; write = b }

    by : (a b c d : Bool) → (if a then 1 else 0) + (if b then 2 else 0) ≡ (if c then 1 else 0) + (if d then 2 else 0) → pair a b ≡ pair c d
    by true true true true h = refl
    by true true true false h = absurd (omega arith)
    by true true false true h = absurd (omega arith)
    by true true false false h = absurd (omega arith)
    by true false true true h = absurd (omega arith)
    by true false true false h = refl
    by true false false true h = absurd (omega arith)
    by true false false false h = absurd (omega arith)
    by false true true true h = absurd (omega arith)
    by false true true false h = absurd (omega arith)
    by false true false true h = refl
    by false true false false h = absurd (omega arith)
    by false false true true h = absurd (omega arith)
    by false false true false h = absurd (omega arith)
    by false false false true h = absurd (omega arith)
    by false false false false h = refl

module _ (t l : ℕ) (r : Rights) (t' l' : ℕ) (r' : Rights) (page : t % 4096 ≡ 0) (page' : t' % 4096 ≡ 0) (few : l ≤ 5) (few' : l' ≤ 5)
    (same : key_of t l r ≡ key_of t' l' r') where
  key-table : t ≡ t'
  key-table = omega (arith, rights-lt r, rights-lt r')

  key-level : l ≡ l'
  key-level = omega (arith, key-table, rights-lt r, rights-lt r')

  key-rights : r ≡ r'
  key-rights = same-rights r r' (omega (arith, key-table, rights-lt r, rights-lt r'))

module _ (registers : Registers) (m : Memory) (outside : (table : ℕ) → Bool) where
  abbrev Empty : (level table : ℕ) → Rights → Type 0
  Empty level table rights = (x : ℕ) → Quiet registers m outside level table rights x

  -- nothing is known where all is zero: a key isn't
  pub sound-zero : (n : ℕ) → Sound registers m outside (replicate n 0)
  sound-zero n i table level rights page some few is = absurd (by (dec_le (suc i) n))
    where
      by : Dec (suc i ≤ n) → ⊥
      by (yes h) = omega (arith, sym is ∙ get_or-replicate n i 0 0 h)
      by (no h) = omega (arith, sym is ∙ past (replicate n 0) i (omega (arith, length-replicate {A = ℕ} n 0)))

  -- one more table
  pub sound-put : (known after : List ℕ) (table level : ℕ) (rights : Rights) → table % 4096 ≡ 0 → level ≤ 5
      → PutIn known after (key_of table level rights) → Empty level table rights → Sound registers m outside known → Sound registers m outside after
  sound-put known after table level rights page few put empty sound i t l r page' some few' is =
      by (dec_le i put.at) (dec_le put.at i) (dec_le (suc i) (length known))
    where
      is' : get_or (set known put.at (key_of table level rights)) i 0 ≡ key_of t l r
      is' = sym (ap (λ (k : List ℕ). get_or k i 0) put.put) ∙ is

      other : (i ≡ put.at → ⊥) → Empty l t r
      other apart = sound i t l r page' some few' (sym (get_or-set_other known put.at i (key_of table level rights) 0 apart) ∙ is')

      by : Dec (i ≤ put.at) → Dec (put.at ≤ i) → Dec (suc i ≤ length known) → Empty l t r
      by (no h) d e = other (λ z. omega arith)
      by (yes h) (no k) e = other (λ z. omega arith)
      by (yes h) (yes k) (yes e) =
          let at : i ≡ put.at = omega arith in
          let same : key_of table level rights ≡ key_of t l r =
          sym (get_or-set_same known i (key_of table level rights) 0 e) ∙ subst (λ (n : ℕ). get_or (set known n (key_of table level rights)) i 0 ≡ key_of t l r) (sym at) is' in
          subst (λ (n : ℕ). Empty n t r) (key-level table level rights t l r page page' few few' same)
          (subst (λ (n : ℕ). Empty level n r) (key-table table level rights t l r page page' few few' same)
          (subst (λ (s : Rights). Empty level table s) (key-rights table level rights t l r page page' few few' same) empty))
      by (yes h) (yes k) (no e) = absurd (omega (arith, sym is' ∙ past (set known put.at (key_of table level rights)) i (simp length-set (omega arith))))

  -- a table on the walk of an address: all that share its span go through it
  abbrev pub OnWalk : (levels top address level table : ℕ) → Rights → Type 0
  OnWalk levels top address level table rights =
      (x : ℕ) → address / 2 ^ (12 + 9 * level) ≡ x / 2 ^ (12 + 9 * level)
      → region_in registers m outside x level table rights ≡ region_in registers m outside x levels top both

  -- its span lies where nothing is listed
  pub quiet-table : (levels top from last level table : ℕ) (rights : Rights) → OnWalk levels top last level table rights
      → QuietTo registers m outside levels top from (last + 1)
      → (last + 1) % 2 ^ (12 + 9 * level) ≡ 0 → from + 2 ^ (12 + 9 * level) ≤ last + 1
      → Empty level table rights
  quiet-table levels top from last level table rights on quiet aligned room x =
      ap (λ (r : Region). is_listed r.what) (low_bits registers m outside x y level table rights (sym low-y) ∙ on y (high-last ∙ sym high-y))
      ∙ quiet y (omega (arith, room)) (omega (arith, room, less))
    where
      k : ℕ
      k = 12 + 9 * level

      less : x % 2 ^ k < 2 ^ k
      less = mod-lt x (pow_pos k)

      q : ℕ
      q = (last + 1) / 2 ^ k

      whole : last + 1 ≡ q * 2 ^ k
      whole = omega (arith, split (last + 1) k, aligned)

      y : ℕ
      y = last + 1 - 2 ^ k + x % 2 ^ k

      before : last + 1 - 2 ^ k ≡ (q - 1) * 2 ^ k
      before =
          let less_one : (q - 1) * 2 ^ k ≡ 2 ^ k * q - 2 ^ k * 1 = mul_comm (q - 1) (2 ^ k) ∙ mul-sub (2 ^ k) q 1 in
          omega (arith, whole, less_one, mul_comm q (2 ^ k), mul-one (2 ^ k))

      low-y : y % 2 ^ k ≡ x % 2 ^ k
      low-y = ap (λ (n : ℕ). (n + x % 2 ^ k) % 2 ^ k) before ∙ low (q - 1) k less

      high-y : y / 2 ^ k ≡ q - 1
      high-y = ap (λ (n : ℕ). (n + x % 2 ^ k) / 2 ^ k) before ∙ high (q - 1) k less

      high-last : last / 2 ^ k ≡ q - 1
      high-last =
          let is : last ≡ (q - 1) * 2 ^ k + (2 ^ k - 1) = omega (arith, before, pow_pos k, room) in
          ap (λ (n : ℕ). n / 2 ^ k) is ∙ high (q - 1) k (omega (arith, pow_pos k))

  pub sound-after : (levels top from last level table : ℕ) (rights : Rights) (known after : List ℕ) → OnWalk levels top last level table rights
      → QuietTo registers m outside levels top from (last + 1) → table % 4096 ≡ 0 → level ≤ 5
      → Remembers known after (key_of table level rights) from last level
      → Sound registers m outside known → (length after ≡ length known) × Sound registers m outside after
  sound-after levels top from last level table rights known after on quiet page few (inl same) sound =
      rw same (refl, sound)
  sound-after levels top from last level table rights known after on quiet page few (inr put) sound = (
    ap length put.2.put ∙ length-set known put.2.at (key_of table level rights),
    sound-put known after table level rights page few put.2 (quiet-table levels top from last level table rights on quiet put.0 put.1) sound,
  )

  pub on-down : (levels top address level table : ℕ) (above : Rights) {next : ℕ} {t : Rights} → 0 < level
      → OnWalk levels top address level table above → down next t ≡ region_step registers m outside address (level - 1) table above
      → OnWalk levels top address (level - 1) next t
  on-down levels top address level table above more on told x near =
      led-at registers m outside address level table above more told x near
      ∙ on x (same_above address x (12 + 9 * (level - 1)) (12 + 9 * level) (omega arith) near)

  -- the walk from table to table
  abbrev pub Standing : Tables → (address : ℕ) → Reached → Type 0
  Standing tables address at = OnWalk tables.levels tables.top address at.level at.table at.rights

  pub standing-below : (tables : Tables) (address level table : ℕ) (above : Rights) (next : Reached) → 0 < level
      → OnWalk tables.levels tables.top address level table above
      → down next.table next.rights ≡ region_step registers m outside address (level - 1) table above → next.level ≡ level - 1
      → Standing tables address next
  standing-below tables address level table above next high on told lower =
      subst (λ (l : ℕ). OnWalk tables.levels tables.top address l next.table next.rights) (sym lower)
      (on-down tables.levels tables.top address level table above high on told)

  pub standing-down : (tables : Tables) (address : ℕ) (at next : Reached) → Standing tables address at
      → down next.table next.rights ≡ region_step registers m outside address (at.level - 1) at.table at.rights → next.level ≡ at.level - 1
      → Standing tables address next
  standing-down tables address at next = standing-below tables address at.level at.table at.rights next at.walkable.0
