use Prim.Native.Nat.{ℕ}
use mathlib.Core.List.{List}
use mathlib.Core.Path.{sym, ◌∙◌, ap}
use native.Mathlib.Omega.{arith}
use borrow.Author.Tests.{eq-eqb}
use Rattle.builder.specs.Build.{lent}
use Rattle.galitzaf_builder.specs.Calls.{build_call}
use Rattle.galitzaf_builder.proofs.galitzaf_build.Goals as goal

pub unpack-requires : goal.unpack-requires
unpack-requires c =
    sym c.malformed.ensures ∙ c.if-malformed.false

pub tell-requires : goal.tell-requires
tell-requires c =
    omega (arith, c.if-item-ne1.false)

pub returns : goal.returns
unfolding build_call
returns c =
    rw (← c.malformed.ensures, c.if-malformed.false, eq-eqb _ _ c.if-windows-ne0.false, eq-eqb _ _ c.if-items-ne0.false, eq-eqb _ _ c.if-item-ne1.false, ← c.unpack.ensures, ← c.from.ensures, ← c.build-built.ensures)
    (ap (λ (p : ℕ × List ℕ). (p.0, lent c.build-built.new.memory c.build-built.new.copy c.build-built.new.marks, p.1)) c.tell.ensures)
