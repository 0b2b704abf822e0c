-- What holds of every way through a part of the rules, whatever property of rules it is.
use Prim.Native.Nat.{ℕ, ◌+◌, ◌*◌, ◌^◌, min}
use mathlib.Core.Bool.{Bool, true, false}
use lib.Dec.{eqb, leb}
use Rattle.std.specs.Prelude.{if◌then◌else◌}
use Rattle.image.specs.Rules.{Rules, answer}
use Rattle.registers.specs.declared.Registers.{Registers}
use Rattle.dma.specs.Translation.{Translation, through, fault, page_rules, width_rules}
use Rattle.dma.specs.declared.context.Context.{Context}

either : {A : Type 0} (P : Rules A → Type 0) (t : Bool) (a b : Rules A) → P a → P b → P (if t then a else b)
either P true a b x y = x
either P false a b x y = y

-- the width and pass-through answer, or the walk follows
pub width-cases : (P : Rules Translation → Type 0) (registers : Registers) (address : ℕ) (write : Bool) (c : Context)
    → P (answer (fault 0x04 c.fpd))
    → P (answer through)
    → P (page_rules registers address write c.fpd c.levels c.top)
    → P (width_rules registers address write c)
unfolding width_rules
width-cases P registers address write c over-width passes walks =
    let walk = page_rules registers address write c.fpd c.levels c.top in
    let over = fault 0x04 c.fpd in
    either P (leb (2 ^ min registers.mgaw (12 + 9 * c.levels)) address) (answer over)
    (if eqb c.translation_type 2 then answer through else walk) over-width
    (either P (eqb c.translation_type 2) (answer through) walk passes walks)
