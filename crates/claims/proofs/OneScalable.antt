-- No two answers of the code in scalable mode, and no two of its reasons, say the same.
use Prim.Native.Nat.{ℕ, ◌^◌, ◌<◌}
use mathlib.Core.Path.{◌≡◌, refl, ap, ap₂, sym, ◌∙◌}
use native.Mathlib.Omega.{arith}
use lib.Dec.{eqb}
use Rattle.std.specs.Prelude.{if◌then◌else◌}
use Rattle.image.proofs.Places.{place_of-injective}
use Rattle.faults.proofs.Contents.{one-fault}
use Rattle.pasid.specs.Answers.{fault_of}
use Rattle.pasid.specs.Reason.{number_of}
use Rattle.pasid.specs.declared.fault.ScalableFault.{ScalableFault}
use Rattle.pasid.specs.declared.reason.ScalableReason.{ScalableReason}
use Rattle.pasid.specs.declared.reason.ScalableReason.TheVariants as reason
use Rattle.scalable.specs.declared.ScalableAnswer.TheVariants.{Granted, Blocked, Refused}
use Rattle.claims.specs.OneAnswer.{OneScalableAnswer}

-- the reason of a number
abbrev reason_of : ℕ → ScalableReason
reason_of n =
    if eqb n 0x38 then reason.RootAccess
    else if eqb n 0x39 then reason.RootNotPresent
    else if eqb n 0x3A then reason.RootReserved
    else if eqb n 0x40 then reason.ContextAccess
    else if eqb n 0x41 then reason.ContextNotPresent
    else if eqb n 0x42 then reason.ContextReserved
    else if eqb n 0x43 then reason.ContextInvalid
    else if eqb n 0x45 then reason.PasidDisabled
    else if eqb n 0x46 then reason.PasidOutOfRange
    else if eqb n 0x50 then reason.DirectoryAccess
    else if eqb n 0x51 then reason.DirectoryNotPresent
    else if eqb n 0x52 then reason.DirectoryReserved
    else if eqb n 0x58 then reason.TableAccess
    else if eqb n 0x59 then reason.TableNotPresent
    else if eqb n 0x5A then reason.TableReserved
    else if eqb n 0x5B then reason.TableInvalid
    else if eqb n 0x5D then reason.SupervisorDenied
    else if eqb n 0x70 then reason.FirstLevelAccess
    else if eqb n 0x71 then reason.FirstLevelNotPresent
    else if eqb n 0x72 then reason.FirstLevelReserved
    else if eqb n 0x73 then reason.FirstLevelTopAccess
    else if eqb n 0x74 then reason.IntermediateOverflow
    else if eqb n 0x78 then reason.SecondLevelAccess
    else if eqb n 0x79 then reason.SecondLevelNotPresent
    else if eqb n 0x7A then reason.SecondLevelReserved
    else if eqb n 0x7B then reason.SecondLevelTopAccess
    else if eqb n 0x7C then reason.FlagsNotSnooped
    else if eqb n 0x80 then reason.NotCanonical
    else if eqb n 0x81 then reason.UserDenied
    else if eqb n 0x84 then reason.AddressOverflow
    else if eqb n 0x85 then reason.WriteDenied
    else reason.ReadDenied

back : (r : ScalableReason) → reason_of (number_of r) ≡ r
back reason.RootAccess = refl
back reason.RootNotPresent = refl
back reason.RootReserved = refl
back reason.ContextAccess = refl
back reason.ContextNotPresent = refl
back reason.ContextReserved = refl
back reason.ContextInvalid = refl
back reason.PasidDisabled = refl
back reason.PasidOutOfRange = refl
back reason.DirectoryAccess = refl
back reason.DirectoryNotPresent = refl
back reason.DirectoryReserved = refl
back reason.TableAccess = refl
back reason.TableNotPresent = refl
back reason.TableReserved = refl
back reason.TableInvalid = refl
back reason.SupervisorDenied = refl
back reason.FirstLevelAccess = refl
back reason.FirstLevelNotPresent = refl
back reason.FirstLevelReserved = refl
back reason.FirstLevelTopAccess = refl
back reason.IntermediateOverflow = refl
back reason.SecondLevelAccess = refl
back reason.SecondLevelNotPresent = refl
back reason.SecondLevelReserved = refl
back reason.SecondLevelTopAccess = refl
back reason.FlagsNotSnooped = refl
back reason.NotCanonical = refl
back reason.UserDenied = refl
back reason.AddressOverflow = refl
back reason.WriteDenied = refl
back reason.ReadDenied = refl

number_of-injective : (r s : ScalableReason) → number_of r ≡ number_of s → r ≡ s
number_of-injective r s same = sym (back r) ∙ ap reason_of same ∙ back s

fault_of-injective : (f g : ScalableFault) → f.low < 2 ^ 64 → g.low < 2 ^ 64 → fault_of f ≡ fault_of g → f ≡ g
fault_of-injective f g =
    one-fault number_of number_of-injective (λ reason may low high. record { reason = reason; recordable = may; low = low; high = high })

pub one-scalable-answer : OneScalableAnswer
one-scalable-answer (Granted x) (Granted y) sr ss e p = cc
one-scalable-answer (Granted x) (Blocked g at') sr ss e p = let z : ◌≡◌ {A = ℕ} 0 1 = cc in absurd (omega arith)
one-scalable-answer (Granted x) (Refused m) sr ss e p = let z : ◌≡◌ {A = ℕ} 0 1 = cc in absurd (omega arith)
one-scalable-answer (Blocked f at) (Granted y) sr ss e p = let z : ◌≡◌ {A = ℕ} 0 1 = cc in absurd (omega arith)
one-scalable-answer (Blocked f at) (Blocked g at') sr ss e p =
    let same : fault_of f ≡ fault_of g = cc in
    ap₂ Blocked (fault_of-injective f g sr ss same) (place_of-injective at at' p)
one-scalable-answer (Blocked f at) (Refused m) sr ss e p = let z : ◌≡◌ {A = ℕ} 0 1 = cc in absurd (omega arith)
one-scalable-answer (Refused n) (Granted y) sr ss e p = let z : ◌≡◌ {A = ℕ} 0 1 = cc in absurd (omega arith)
one-scalable-answer (Refused n) (Blocked g at') sr ss e p = let z : ◌≡◌ {A = ℕ} 0 1 = cc in absurd (omega arith)
one-scalable-answer (Refused n) (Refused m) sr ss e p = cc
