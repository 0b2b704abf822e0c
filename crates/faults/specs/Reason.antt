-- VT-d's number of each fault reason. No two have the same: proofs/Numbers.antt.
use Rattle.std.specs.Prelude.{ℕ}
use Rattle.faults.specs.declared.reason.Reason.{Reason}
use Rattle.faults.specs.declared.reason.Reason.TheVariants as reason

abbrev pub number_of : Reason → ℕ
number_of reason.RootNotPresent = 0x01
number_of reason.ContextNotPresent = 0x02
number_of reason.ContextInvalid = 0x03
number_of reason.AddressOverflow = 0x04
number_of reason.WriteDenied = 0x05
number_of reason.ReadDenied = 0x06
number_of reason.PageEntryAccess = 0x07
number_of reason.RootAccess = 0x08
number_of reason.ContextAccess = 0x09
number_of reason.RootReserved = 0x0A
number_of reason.ContextReserved = 0x0B
number_of reason.PageEntryReserved = 0x0C
number_of reason.TranslationBlocked = 0x0D
number_of reason.RequestReserved = 0x20
number_of reason.IndexOutOfRange = 0x21
number_of reason.IrteNotPresent = 0x22
number_of reason.IrteAccess = 0x23
number_of reason.IrteReserved = 0x24
number_of reason.CompatibilityBlocked = 0x25
number_of reason.SourceRejected = 0x26
number_of reason.DescriptorAccess = 0x27
number_of reason.DescriptorReserved = 0x28
