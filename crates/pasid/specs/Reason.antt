-- VT-d's number of each fault reason of scalable mode (document 003, Table 25).
use Rattle.std.specs.Prelude.{ℕ}
use Rattle.pasid.specs.declared.reason.ScalableReason.{ScalableReason}
use Rattle.pasid.specs.declared.reason.ScalableReason.TheVariants as reason

abbrev pub number_of : ScalableReason → ℕ
number_of reason.RootAccess = 0x38
number_of reason.RootNotPresent = 0x39
number_of reason.RootReserved = 0x3A
number_of reason.ContextAccess = 0x40
number_of reason.ContextNotPresent = 0x41
number_of reason.ContextReserved = 0x42
number_of reason.ContextInvalid = 0x43
number_of reason.PasidDisabled = 0x45
number_of reason.PasidOutOfRange = 0x46
number_of reason.DirectoryAccess = 0x50
number_of reason.DirectoryNotPresent = 0x51
number_of reason.DirectoryReserved = 0x52
number_of reason.TableAccess = 0x58
number_of reason.TableNotPresent = 0x59
number_of reason.TableReserved = 0x5A
number_of reason.TableInvalid = 0x5B
number_of reason.SupervisorDenied = 0x5D
number_of reason.FirstLevelAccess = 0x70
number_of reason.FirstLevelNotPresent = 0x71
number_of reason.FirstLevelReserved = 0x72
number_of reason.FirstLevelTopAccess = 0x73
number_of reason.IntermediateOverflow = 0x74
number_of reason.SecondLevelAccess = 0x78
number_of reason.SecondLevelNotPresent = 0x79
number_of reason.SecondLevelReserved = 0x7A
number_of reason.SecondLevelTopAccess = 0x7B
number_of reason.FlagsNotSnooped = 0x7C
number_of reason.NotCanonical = 0x80
number_of reason.UserDenied = 0x81
number_of reason.AddressOverflow = 0x84
number_of reason.WriteDenied = 0x85
number_of reason.ReadDenied = 0x86
