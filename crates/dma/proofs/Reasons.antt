-- No check of an entry stops with 07h, 08h or 09h.
use Prim.Native.Nat.{ℕ}
use mathlib.Core.Bool.{Bool, true, false, not}
use mathlib.Core.Path.{◌≡◌, refl, sym, ◌∙◌, subst}
use native.Mathlib.Omega.{arith}
use Rattle.image.specs.Bits.{bit, any_set}
use Rattle.image.specs.Check.{Check, stop, go}
use Rattle.std.specs.Prelude.{if◌then◌else◌}
use Rattle.registers.specs.declared.Registers.{Registers}
use Rattle.dma.specs.Context.{context_reserved, context_invalid, context_check}
use Rattle.dma.specs.Isolation.{access_reason}
use Rattle.dma.specs.Page.{denied, own_right, page_reserved, page_check}
use Rattle.dma.specs.Root.{root_reserved, root_check}

-- a check that stops stops with another reason
abbrev pub Otherwise : {A : Type 0} → Check A → Type 0
Otherwise (stop reason) = access_reason reason ≡ false
Otherwise (go a) = Unit {0}

pub no_access : {A : Type 0} (k : Check A) (reason : ℕ) → Otherwise k → k ≡ stop reason → access_reason reason ≡ true → ⊥
no_access k reason other told is =
    let z : ◌≡◌ {A = Bool} true false = sym is ∙ subst Otherwise told other in
    let y : ◌≡◌ {A = ℕ} 0 1 = cc in
    omega arith

tested : {A : Type 0} (t : Bool) (reason : ℕ) (rest : Check A) → access_reason reason ≡ false → Otherwise rest → Otherwise (if t then stop reason else rest)
tested true reason rest h r = h
tested false reason rest h r = r

pub root-otherwise : (haw e : ℕ) → Otherwise (root_check haw e)
unfolding root_check
root-otherwise haw e = tested (not (bit e 0)) 0x01 _ refl (tested (root_reserved haw e) 0x0A _ refl tt)

pub context-otherwise : (registers : Registers) (e : ℕ) → Otherwise (context_check registers e)
unfolding context_check
context-otherwise registers e =
    tested (not (bit e 0)) 0x02 _ refl
    (tested (context_reserved registers.haw e) 0x0B _ refl (tested (context_invalid registers e) 0x03 _ refl tt))

denied-otherwise : (write : Bool) → access_reason (denied write) ≡ false
denied-otherwise true = refl
denied-otherwise false = refl

pub page-otherwise : (registers : Registers) (write : Bool) (level e : ℕ) → Otherwise (page_check registers write level e)
unfolding page_check
page-otherwise registers write level e =
    tested (not (any_set e 1 0)) (denied write) _ (denied-otherwise write)
    (tested (page_reserved registers level e) 0x0C _ refl
    (tested (not (own_right write e)) (denied write) _ (denied-otherwise write) tt))
