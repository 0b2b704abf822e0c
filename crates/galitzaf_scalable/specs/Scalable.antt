-- A request in scalable mode, for C: the capabilities are bits of one number, and so is what the request is.
use Rattle.std.specs.Prelude.{ℕ, ◌^◌, Bool, not, List, eqb, leb, ltb, length}
use Rattle.image.specs.Bits.{bit}
use Rattle.std.specs.Prelude.{if◌then◌else◌}
use Rattle.pasid.specs.declared.ScalableRegisters.{ScalableRegisters}
use Rattle.scalable.specs.Requests.{scalable_answer, scalable_answer_place, scalable_written}
use Rattle.scalable.specs.declared.ScalableRequest.{ScalableRequest}
use Rattle.packing.specs.Answer.{memory_bytes}
use Rattle.packing.specs.Arguments.{malformed_windows}
use Rattle.packing.specs.Registers.{malformed_registers, unpacked}
use Rattle.packing.specs.Status.{ok, bad_registers, bad_window_count, bad_answer, bad_kind}

-- bits 9:0 are capabilities, all others have to be zero
abbrev pub unknown_capability : (capabilities : ℕ) → Bool
unknown_capability capabilities = leb (2 ^ 10) capabilities

unfoldable pub unpacked_scalable : (registers : List ℕ) (capabilities : ℕ) → ScalableRegisters
unpacked_scalable registers capabilities =
    record {
      base = unpacked registers;
      flts = bit capabilities 0;
      slts = bit capabilities 1;
      nest = bit capabilities 2;
      pt = bit capabilities 3;
      fl5lp = bit capabilities 4;
      fl1gp = bit capabilities 5;
      slads = bit capabilities 6;
      eafs = bit capabilities 7;
      srs = bit capabilities 8;
      smpwc = bit capabilities 9;
    }

-- kind: bit 0 for a write, bit 1 where the request has a PASID
unfoldable pub scalable_request_of : (source address kind pasid : ℕ) → ScalableRequest
scalable_request_of source address kind pasid =
    record {
      source = record { id = source };
      address = address;
      write = bit kind 0;
      pasid = record { present = bit kind 1; value = pasid };
    }

-- the status, the image, and the buffer for the answer
unfoldable pub scalable_call : (registers : List ℕ) (capabilities : ℕ) (windows image : List ℕ) (source address kind pasid : ℕ)
    (answer : List ℕ)
    → ℕ × List ℕ × List ℕ
scalable_call registers capabilities windows image source address kind pasid answer =
    if malformed_registers registers then (bad_registers, image, answer)
    else if unknown_capability capabilities then (bad_registers, image, answer)
    else if malformed_windows windows then (bad_window_count, image, answer)
    else if not (eqb (length answer) 32) then (bad_answer, image, answer)
    else if ltb 3 kind then (bad_kind, image, answer)
    else (
      ok,
      scalable_written (unpacked_scalable registers capabilities) (scalable_request_of source address kind pasid) windows image,
      memory_bytes
          (scalable_answer (unpacked_scalable registers capabilities) (scalable_request_of source address kind pasid) windows image)
          (scalable_answer_place (unpacked_scalable registers capabilities) (scalable_request_of source address kind pasid) windows image),
    )
