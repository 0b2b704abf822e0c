-- Entries that are the same in every field are one entry.
use Prim.Native.Nat.{ℕ}
use mathlib.Core.Bool.{Bool, true, ◌&&◌}
use mathlib.Core.Path.{◌≡◌, refl}
use borrow.Author.Tests.{eq-eqb, eqb-true}
use lib.Dec.{eqb}
use Rattle.blocks.proofs.Frames.{and_left, and_right}
use Rattle.traced.specs.declared.Traced.{Traced}
use Rattle.replay.specs.Again.{same}

pub same_self : (a : Traced) → same a a ≡ true
unfolding same
same_self a =
    let eq : (n : ℕ) → eqb n n ≡ true = λ n. eq-eqb n n refl in
    rw (eq a.kind, eq a.answer, eq a.number, eq a.flags, eq a.source, eq a.vector, eq a.posted, eq a.address, eq a.«data», eq a.destination, eq a.value)

-- one test more
module _ (a : Bool) (x y : ℕ) where
  last : (a && eqb x y) ≡ true → (a ≡ true) × (x ≡ y)
  last h = (and_left a (eqb x y) h, eqb-true x y (and_right a (eqb x y) h))

module _ (a b : Traced) where
  abbrev t1 : Bool
  t1 = eqb a.kind b.kind

  abbrev t2 : Bool
  t2 = t1 && eqb a.answer b.answer

  abbrev t3 : Bool
  t3 = t2 && eqb a.number b.number

  abbrev t4 : Bool
  t4 = t3 && eqb a.flags b.flags

  abbrev t5 : Bool
  t5 = t4 && eqb a.source b.source

  abbrev t6 : Bool
  t6 = t5 && eqb a.vector b.vector

  abbrev t7 : Bool
  t7 = t6 && eqb a.posted b.posted

  abbrev t8 : Bool
  t8 = t7 && eqb a.address b.address

  abbrev t9 : Bool
  t9 = t8 && eqb a.«data» b.«data»

  abbrev t10 : Bool
  t10 = t9 && eqb a.destination b.destination

  pub same-one : same a b ≡ true → a ≡ b
  unfolding same
  same-one h =
      let h10 = last t10 a.value b.value h in
      let h9 = last t9 a.destination b.destination h10.0 in
      let h8 = last t8 a.«data» b.«data» h9.0 in
      let h7 = last t7 a.address b.address h8.0 in
      let h6 = last t6 a.posted b.posted h7.0 in
      let h5 = last t5 a.vector b.vector h6.0 in
      let h4 = last t4 a.source b.source h5.0 in
      let h3 = last t3 a.flags b.flags h4.0 in
      let h2 = last t2 a.number b.number h3.0 in
      let h1 = last t1 a.answer b.answer h2.0 in
      fields (eqb-true a.kind b.kind h1.0) h1.1 h2.1 h3.1 h4.1 h5.1 h6.1 h7.1 h8.1 h9.1 h10.1
    where
      fields : a.kind ≡ b.kind → a.answer ≡ b.answer → a.number ≡ b.number → a.flags ≡ b.flags → a.source ≡ b.source
          → a.vector ≡ b.vector → a.posted ≡ b.posted → a.address ≡ b.address → a.«data» ≡ b.«data»
          → a.destination ≡ b.destination → a.value ≡ b.value
          → ◌≡◌ {A = Traced}
          (record { kind = a.kind; answer = a.answer; number = a.number; flags = a.flags; source = a.source; vector = a.vector; posted = a.posted; address = a.address; «data» = a.«data»; destination = a.destination; value = a.value })
          (record { kind = b.kind; answer = b.answer; number = b.number; flags = b.flags; source = b.source; vector = b.vector; posted = b.posted; address = b.address; «data» = b.«data»; destination = b.destination; value = b.value })
      fields e1 e2 e3 e4 e5 e6 e7 e8 e9 e10 e11 = rw (e1, e2, e3, e4, e5, e6, e7, e8, e9, e10, e11)
