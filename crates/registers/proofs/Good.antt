-- What registers that are not refused hold, item by item.
use Prim.Native.Nat.{ℕ, ◌%◌, ◌^◌, ◌<◌, ◌≤◌}
use mathlib.Core.Bool.{Bool, true, false, not, ◌||◌}
use mathlib.Core.Path.{◌≡◌, refl}
use native.Mathlib.Omega.{arith}
use native.Mathlib.Nat.{lt_of_lt_of_le}
use borrow.Author.Tests.{ltb-false, leb-false, eqb-true, not-false}
use lib.Dec.{leb, ltb, eqb}
use lib.Pow.{pow_mono}
use Rattle.registers.specs.declared.Registers.{Registers}
use Rattle.std.specs.Prelude.{if◌then◌else◌}
use Rattle.image.proofs.Choices.{neither}
use Rattle.registers.specs.Admission.{refusal, pass, taken_up, admission}
use Rattle.registers.specs.Registers.{outside, bad_table, registers_bad}

-- from low to high, ends included
pub record Within (low high x : ℕ) : Type 0 where
  pub least : low ≤ x
  pub most : x ≤ high

-- a table address that the unit takes
pub record Table (haw at : ℕ) : Type 0 where
  pub aligned : at % 4096 ≡ 0
  pub below : at < 2 ^ haw

pub record Good (r : Registers) : Type 0 where
  pub haw : Within 36 52 r.haw
  pub mgaw : Within 39 57 r.mgaw
  pub levels : (r.levels3 || r.levels4 || r.levels5) ≡ true
  pub root : Table r.haw r.root_table
  pub interrupt : Table r.haw r.interrupt_table
  pub s : r.s ≤ 15

within : (low high x : ℕ) → outside x low high ≡ false → Within low high x
within low high x e =
    let h = neither (ltb x low) (ltb high x) e in
    record { least = ltb-false x low h.0; most = ltb-false high x h.1 }

table : (haw at : ℕ) → bad_table haw at ≡ false → Table haw at
table haw at e =
    let h = neither (not (eqb (at % 4096) 0)) (leb (2 ^ haw) at) e in
    record { aligned = eqb-true _ _ (not-false _ h.0); below = leb-false _ _ h.1 }

pub good : (r : Registers) → registers_bad r ≡ false → Good r
unfolding registers_bad
good r e =
    let h5 = neither _ _ e in
    let h4 = neither _ _ h5.0 in
    let h3 = neither _ _ h4.0 in
    let h2 = neither _ _ h3.0 in
    let h1 = neither _ _ h2.0 in
    record {
      haw = within 36 52 r.haw h1.0;
      mgaw = within 39 57 r.mgaw h1.1;
      levels = not-false _ h2.1;
      root = table r.haw r.root_table h3.1;
      interrupt = table r.haw r.interrupt_table h4.1;
      s = (within 0 15 r.s h5.1).most;
    }

-- what is below 2^HAW is below 2^52
pub below-most : {r : Registers} {a : ℕ} → Good r → a < 2 ^ r.haw → a < 2 ^ 52
below-most g h = lt_of_lt_of_le h (pow_mono g.haw.most)

-- registers under which a request is taken up are good
pub taken-good : (r : Registers) (wrong on : Bool) → taken_up ≡ admission r wrong on → Good r
unfolding admission
taken-good r wrong on h = go (registers_bad r) refl h
  where
    go : (t : Bool) → registers_bad r ≡ t
        → taken_up ≡ (if t then refusal 1 else if wrong then refusal 2 else if on then taken_up else pass) → Good r
    go true e h = let z : ◌≡◌ {A = ℕ} 0 1 = cc in absurd (omega arith)
    go false e h = good r e
