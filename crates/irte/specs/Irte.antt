-- Document 01, "Reserved" and "Remapped answer": the interrupt remapping table entry (IRTE), 16 bytes, a remapped one or with
-- bit 15 a posted one.
use Rattle.std.specs.Prelude.{ℕ, ◌+◌, ◌*◌, ◌^◌, Bool, not, ◌&&◌, ◌||◌, eqb}
use Rattle.image.specs.Bits.{bits, bit, any_set}
use Rattle.image.specs.Check.{Check, stop, go, on_check}
use Rattle.std.specs.Prelude.{if◌then◌else◌}
use Rattle.registers.specs.declared.Registers.{Registers}
use Rattle.irte.specs.Source.{source_allowed}

-- read always, also where bit 0 is clear
abbrev pub fault_processing_disabled : (e : ℕ) → Bool
fault_processing_disabled e = bit e 1

-- URG, of a posted entry
abbrev pub urgent_of : (e : ℕ) → Bool
urgent_of e = bit e 14

-- 63:38 as its bits 31:6 and 127:96 as its bits 63:32
abbrev pub descriptor_address : (e : ℕ) → ℕ
descriptor_address e = bits e 63 38 * 2 ^ 6 + bits e 127 96 * 2 ^ 32

abbrev pub reserved_in_all : (posting : Bool) (e : ℕ) → Bool
reserved_in_all posting e = eqb (bits e 83 82) 3 || bit e 15 && not posting

abbrev pub reserved_in_remapped : (eime : Bool) (e : ℕ) → Bool
reserved_in_remapped eime e =
    any_set e 14 12 || any_set e 31 24 || any_set e 127 84 || eqb (bits e 7 5) 3 || eqb (bits e 7 5) 6
    || not eime && (any_set e 39 32 || any_set e 63 48)

-- bit 14 is reserved in a remapped entry alone: in a posted one it is URG. Bits 11:8 are not looked at in either kind
abbrev pub reserved_in_posted : (haw e : ℕ) → Bool
reserved_in_posted haw e =
    any_set e 7 2 || any_set e 13 12 || any_set e 37 24 || any_set e 95 84 || any_set (descriptor_address e) 63 haw

unfoldable pub reserved_irte : Registers → (e : ℕ) → Bool
reserved_irte registers e =
    reserved_in_all registers.posting e
    || (if bit e 15 then reserved_in_posted registers.haw e else reserved_in_remapped registers.eime e)

-- the remapped answer
pub record Remapped : Type 0 where
  pub destination_mode : Bool
  pub redirection_hint : Bool
  pub trigger : Bool
  pub delivery : ℕ
  pub vector : ℕ
  pub destination : ℕ

-- x2APIC destinations have all 32 bits
abbrev pub destination_of : (eime : Bool) (e : ℕ) → ℕ
destination_of eime e = if eime then bits e 63 32 else bits e 47 40

abbrev pub remapped_by : (eime : Bool) (e : ℕ) → Remapped
remapped_by eime e =
    record {
      destination_mode = bit e 2;
      redirection_hint = bit e 3;
      trigger = bit e 4;
      delivery = bits e 7 5;
      vector = bits e 23 16;
      destination = destination_of eime e;
    }

-- what an entry asks for: the remapped answer, or a post of a vector to the descriptor at an address, urgent or not, with FPD for the
-- faults there
pub data Irte : Type 0 where
  remaps : Remapped → Irte
  posts : (descriptor vector : ℕ) (urgent fpd : Bool) → Irte

abbrev pub irte_of : (eime : Bool) (e : ℕ) → Irte
irte_of eime e =
    if bit e 15 then posts (descriptor_address e) (bits e 23 16) (urgent_of e) (fault_processing_disabled e)
    else remaps (remapped_by eime e)

-- present, reserved, source: the first that fails stops it
unfoldable pub irte_check : Registers → (source e : ℕ) → Check Irte
irte_check registers source e =
    if not (bit e 0) then stop 0x22
    else if reserved_irte registers e then stop 0x24
    else if not (source_allowed source e) then stop 0x26
    else go (irte_of registers.eime e)

-- what the check says, told with FPD: for the code's contracts
pub data Asked : Type 0 where
  asks : Irte → Asked
  stops : (reason : ℕ) (fpd : Bool) → Asked

abbrev pub asked : Registers → (source e : ℕ) → Asked
asked registers source e =
    on_check (irte_check registers source e) (λ reason. stops reason (fault_processing_disabled e)) asks
