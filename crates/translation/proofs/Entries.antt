-- What a translation request makes of a page entry, beside what an untranslated one does.
use Prim.Native.Nat.{ℕ, ◌≤◌}
use mathlib.Core.Bool.{Bool, true, false, not, ◌&&◌, ◌||◌}
use mathlib.Core.Logic.{◌⊎◌, inl, inr, ⊎_elim}
use mathlib.Core.Path.{◌≡◌, refl}
use native.Mathlib.Omega.{arith}
use borrow.Author.Tests.{not-true, not-false}
use Rattle.image.specs.Bits.{any_set, bit, in_place}
use Rattle.image.specs.Check.{stop, go}
use Rattle.std.specs.Prelude.{if◌then◌else◌}
use Rattle.image.proofs.Choices.{chosen}
use Rattle.registers.specs.declared.Registers.{Registers}
use Rattle.dma.specs.Page.{denied, own_right, leaf_at, page_reserved, page_check}
use Rattle.dma.specs.Walk.{Step, done, down}
use Rattle.dma.proofs.Steps.{leaf-low}
use Rattle.translation.specs.Completion.{Completion, page, empty, fault, entry_step}
use Rattle.translation.specs.Rights.{joined, some_left, right_of}
use Rattle.translation.specs.declared.Rights.{Rights}

-- the five ways of a step
module _ (registers : Registers) (fpd : Bool) (level place : ℕ) (above : Rights) (e : ℕ) where
  pub step-cases : (P : Step Rights Completion → Type 0)
      → (any_set e 1 0 ≡ false → P (done empty))
      → (any_set e 1 0 ≡ true → page_reserved registers level e ≡ true → P (done (fault 0x0C fpd)))
      → (any_set e 1 0 ≡ true → page_reserved registers level e ≡ false → some_left (joined above e) ≡ false → P (done empty))
      → (any_set e 1 0 ≡ true → page_reserved registers level e ≡ false → some_left (joined above e) ≡ true → leaf_at level e ≡ true
      → P (done (page (in_place e 51 12) level (joined above e))))
      → (any_set e 1 0 ≡ true → page_reserved registers level e ≡ false → some_left (joined above e) ≡ true → leaf_at level e ≡ false
      → P (down (in_place e 51 12) (joined above e)))
      → P (entry_step registers fpd level place above e)
  step-cases P clear reserved lost ends leads =
      chosen P (not (any_set e 1 0)) (λ none. clear (not-true (any_set e 1 0) none))
      (λ some.
      let any = not-false (any_set e 1 0) some in
      chosen P (page_reserved registers level e) (reserved any)
      (λ free.
      chosen P (not (some_left (joined above e))) (λ none. lost any free (not-true (some_left (joined above e)) none))
      (λ kept.
      let left = not-false (some_left (joined above e)) kept in
      chosen P (leaf_at level e) (ends any free left) (leads any free left))))

-- a joined right is that of the entries above with the entry's own
pub joined-right : (write : Bool) (above : Rights) (e : ℕ) → right_of write (joined above e) ≡ (right_of write above && own_right write e)
joined-right true above e = refl
joined-right false above e = refl

-- where no right is left, this one isn't
pub none_left : (write : Bool) (rights : Rights) → some_left rights ≡ false → right_of write rights ≡ false
none_left write rights = by write rights.read rights.write
  where
    by : (write r w : Bool) → (r || w) ≡ false → (if write then w else r) ≡ false
    by true true w h = let z : ◌≡◌ {A = ℕ} 0 1 = cc in absurd (omega arith)
    by true false w h = h
    by false true w h = let z : ◌≡◌ {A = ℕ} 0 1 = cc in absurd (omega arith)
    by false false w h = refl

-- where one is left, the entry has it
pub own-left : (above : Rights) (e : ℕ) → some_left (joined above e) ≡ true → (own_right true e ≡ true) ⊎ (own_right false e ≡ true)
own-left above e = by above.read above.write (bit e 0) (bit e 1)
  where
    by : (r w b c : Bool) → ((r && b) || (w && c)) ≡ true → (c ≡ true) ⊎ (b ≡ true)
    by true w true c h = inr refl
    by true true false c h = inl h
    by true false false c h = let z : ◌≡◌ {A = ℕ} 0 1 = cc in absurd (omega arith)
    by false true b c h = inl h
    by false false b c h = let z : ◌≡◌ {A = ℕ} 0 1 = cc in absurd (omega arith)

-- the untranslated check of the same entry
module _ (registers : Registers) (write : Bool) (level e : ℕ) where
  pub check-clear : any_set e 1 0 ≡ false → page_check registers write level e ≡ stop (denied write)
  unfolding page_check
  check-clear none = rw none

  module _ (any : any_set e 1 0 ≡ true) (free : page_reserved registers level e ≡ false) where
    pub check-lost : own_right write e ≡ false → page_check registers write level e ≡ stop (denied write)
    unfolding page_check
    check-lost off = rw (any, free, off)

    pub check-own : own_right write e ≡ true → page_check registers write level e ≡ go (in_place e 51 12)
    unfolding page_check
    check-own on = rw (any, free, on)

-- a page has an entry of level 1, 2 or 3
pub page-low : (registers : Registers) (level : ℕ) (above : Rights) (e : ℕ) → any_set e 1 0 ≡ true → page_reserved registers level e ≡ false
    → some_left (joined above e) ≡ true → leaf_at level e ≡ true → level ≤ 3
page-low registers level above e any free left leaf =
    ⊎_elim (λ on. leaf-low registers true level e _ (check-own registers true level e any free on) leaf)
    (λ on. leaf-low registers false level e _ (check-own registers false level e any free on) leaf)
    (own-left above e left)
