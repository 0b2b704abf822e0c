-- Document 02, Ask 1: the 32 bytes of a translation request's answer, and its call.
use Rattle.std.specs.Prelude.{ℕ, List, [], ◌∷◌, eqb, length}
use Rattle.std.specs.Prelude.{if◌then◌else◌}
use Rattle.image.specs.Choice.{one-if}
use Rattle.image.specs.Bytes.{spell}
use Rattle.image.specs.Place.{Place}
use Rattle.translation.specs.Requests.{TranslationOutcome, passed, translated, blocked, refused, translation_answer, translation_answer_place}
use Rattle.translation.specs.declared.TranslationRequest.{TranslationRequest}
use Rattle.packing.specs.Answer.{laid, blocked_bytes, refused_bytes}
use Rattle.packing.specs.Arguments.{on_arguments}
use Rattle.packing.specs.Registers.{unpacked}
use Rattle.packing.specs.Status.{ok}

-- of a page bytes 1 and 2 are the rights to read and to write, bytes 15:8 the frame and bytes 23:16 the size. No page has size 0: the
-- empty answer has a kind of its own
abbrev pub translation_bytes : TranslationOutcome → Place → List ℕ
translation_bytes (passed address) place = laid 3 0 0 0 0 address 0
translation_bytes (translated frame size rights) place =
    if eqb size 0 then laid 8 0 0 0 0 0 0
    else laid 7 (one-if rights.read) (one-if rights.write) 0 0 (spell (frame ∷ size ∷ [])) 0
translation_bytes (blocked f) place = blocked_bytes f place
translation_bytes (refused number) place = refused_bytes number

abbrev pub translation_request : (source address : ℕ) → TranslationRequest
translation_request source address = record { source = record { id = source }; address = address }

-- the status, and the buffer for the answer
unfoldable pub translation_call : (registers windows image : List ℕ) (source address : ℕ) (answer : List ℕ) → ℕ × List ℕ
translation_call registers windows image source address answer =
    on_arguments registers windows (length answer) (λ (s : ℕ). (s, answer)) (
      ok,
      translation_bytes (translation_answer (unpacked registers) (translation_request source address) windows image)
          (translation_answer_place (unpacked registers) (translation_request source address) windows image),
    )
