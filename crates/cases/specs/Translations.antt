-- Document 02, Ask 1: translation requests over the words of the bench image, some of them changed, as rows of one table.
use Rattle.std.specs.Prelude.{ℕ, ◌+◌, Bool, true, false, List, [], ◌∷◌, ◌++◌, ◌≡◌, eqb, leb}
use Rattle.std.specs.Prelude.{if◌then◌else◌}
use Rattle.image.specs.Bytes.{spell}
use Rattle.image.specs.Memory.{Memory, missing, found}
use Rattle.image.specs.Place.{Place, no_entry, entry_at}
use Rattle.translation.specs.Requests.{TranslationOutcome, passed, translated, blocked, refused, answer_over, translation_place}
use Rattle.translation.specs.declared.TranslationRequest.{TranslationRequest}
use Rattle.cases.specs.Bench.{bench_words, bench_with}

-- what is answered, with the entry concerned
pub record Answered : Type 0 where
  pub outcome : TranslationOutcome
  pub place : Place

-- a page's frame and size with its rights; the empty answer
abbrev pub page : (frame size : ℕ) (read write : Bool) → Answered
page frame size read write = record { outcome = translated frame size (record { read = read; write = write }); place = no_entry }

abbrev pub empty : Answered
empty = page 0 0 false false

-- a fault, whether it may be recorded, its record's two words, and the entry concerned
abbrev pub fault : (reason : ℕ) (recordable : Bool) (low high entry : ℕ) → Answered
fault reason recordable low high entry =
    record {
      outcome = blocked (record { reason = reason; recordable = recordable; contents = spell (low ∷ high ∷ []) });
      place = entry_at entry;
    }

abbrev pub refusal : (number : ℕ) → Answered
refusal number = record { outcome = refused number; place = no_entry }

abbrev pub pass : (address : ℕ) → Answered
pass address = record { outcome = passed address; place = no_entry }

-- a memory of 32,768 bytes by its words, given as (address, value): the first that has the address, or 0
unfoldable pub by_words : List (ℕ × ℕ) → Memory
by_words [] at = if leb (at + 8) 32768 then found 0 else missing
by_words (w ∷ ws) at = if eqb at w.0 then found w.1 else by_words ws at

-- under the bench registers with TE so, over the bench's words with these in their place, source 0310h asks for an address
pub record TranslationRow : Type 0 where
  pub te : Bool
  pub words : List (ℕ × ℕ)
  pub address : ℕ
  pub answer : Answered

abbrev pub asks_over : (words : List (ℕ × ℕ)) (address : ℕ) → Answered → TranslationRow
asks_over words address answer = record { te = true; words = words; address = address; answer = answer }

-- the context entry: type 1 translates for a device
abbrev pub type1 : ℕ × ℕ
type1 = (0x2100, 0x3005)

-- the entries of 40BFF000h: of level 3 at 3008h, of level 2 at 4028h, of level 1 at 7FF8h
abbrev pub translation_rows : List TranslationRow
translation_rows =
    -- the bench's addresses in a context of type 1: the empty answer is neither 05h, 06h nor, for a wide address, 04h
    asks_over (type1 ∷ []) 0x40201ABC (page 0x12345000 0x1000 true false)
    ∷ asks_over (type1 ∷ []) 0x40202000 empty
    ∷ asks_over (type1 ∷ []) 0x40412345 (page 0x40600000 0x200000 true true)
    ∷ asks_over (type1 ∷ []) 0x40600000 (fault 0x07 true 0x40600000 0xD000000700000310 0x9000)
    ∷ asks_over (type1 ∷ []) 0x40800000 (fault 0x0C true 0x40800000 0xD000000C00000310 0x4020)
    ∷ asks_over (type1 ∷ []) 0x40BFF000 (page 0x23456000 0x1000 true true)
    ∷ asks_over (type1 ∷ []) 0x7FFFFFFFFF empty
    ∷ asks_over (type1 ∷ []) 0x8000000000 empty
    -- a page of 1 GiB
    ∷ asks_over (type1 ∷ (0x3010, 0x80000083) ∷ []) 0xBFFFFFFF (page 0x80000000 0x40000000 true true)
    -- types 0 and 2, also with a wide address, and silenced by FPD; type 3, and an AW that isn't supported
    ∷ asks_over [] 0x40201ABC (fault 0x0D true 0x40201000 0xD000000D00000310 0x2100)
    ∷ asks_over ((0x2100, 0x3009) ∷ []) 0x40201ABC (fault 0x0D true 0x40201000 0xD000000D00000310 0x2100)
    ∷ asks_over [] 0x8000000000 (fault 0x0D true 0x8000000000 0xD000000D00000310 0x2100)
    ∷ asks_over ((0x2100, 0x3003) ∷ []) 0x40201ABC (fault 0x0D false 0x40201000 0xD000000D00000310 0x2100)
    ∷ asks_over ((0x2100, 0x300D) ∷ []) 0x40201ABC (fault 0x03 true 0x40201000 0xD000000300000310 0x2100)
    ∷ asks_over ((0x2108, 0x503) ∷ []) 0x40201ABC (fault 0x03 true 0x40201000 0xD000000300000310 0x2100)
    -- 07h silenced by FPD
    ∷ asks_over ((0x2100, 0x3007) ∷ []) 0x40600000 (fault 0x07 false 0x40600000 0xD000000700000310 0x9000)
    -- the right to write, then the right to read, lost at level 3, 2 and 1
    ∷ asks_over (type1 ∷ (0x3008, 0x4001) ∷ []) 0x40BFF000 (page 0x23456000 0x1000 true false)
    ∷ asks_over (type1 ∷ (0x4028, 0x7001) ∷ []) 0x40BFF000 (page 0x23456000 0x1000 true false)
    ∷ asks_over (type1 ∷ (0x7FF8, 0x23456001) ∷ []) 0x40BFF000 (page 0x23456000 0x1000 true false)
    ∷ asks_over (type1 ∷ (0x3008, 0x4002) ∷ []) 0x40BFF000 (page 0x23456000 0x1000 false true)
    ∷ asks_over (type1 ∷ (0x4028, 0x7002) ∷ []) 0x40BFF000 (page 0x23456000 0x1000 false true)
    ∷ asks_over (type1 ∷ (0x7FF8, 0x23456002) ∷ []) 0x40BFF000 (page 0x23456000 0x1000 false true)
    -- one at one level, the other at another
    ∷ asks_over (type1 ∷ (0x3008, 0x4001) ∷ (0x7FF8, 0x23456002) ∷ []) 0x40BFF000 empty
    -- no right is left above a table that lies outside: not 07h. One is left: 07h
    ∷ asks_over (type1 ∷ (0x3008, 0x4001) ∷ (0x4018, 0x9002) ∷ []) 0x40600000 empty
    ∷ asks_over (type1 ∷ (0x3008, 0x4001) ∷ []) 0x40600000 (fault 0x07 true 0x40600000 0xD000000700000310 0x9000)
    -- reserved bits are checked where a right is lost, and before the last one is; not where bits 1:0 are clear
    ∷ asks_over (type1 ∷ (0x3008, 0x4001) ∷ []) 0x40800000 (fault 0x0C true 0x40800000 0xD000000C00000310 0x4020)
    ∷ asks_over (type1 ∷ (0x3008, 0x4001) ∷ (0x4020, 0x8000000002) ∷ []) 0x40800000 (fault 0x0C true 0x40800000 0xD000000C00000310 0x4020)
    ∷ asks_over (type1 ∷ (0x4020, 0x8000000000) ∷ []) 0x40800000 empty
    -- a frame at FEE00000h, with a right and without one; an address there; TE off
    ∷ asks_over (type1 ∷ (0x5008, 0xFEE00001) ∷ []) 0x40201ABC (refusal 4)
    ∷ asks_over (type1 ∷ (0x3008, 0x4002) ∷ (0x5008, 0xFEE00001) ∷ []) 0x40201ABC empty
    ∷ asks_over (type1 ∷ []) 0xFEE00000 (refusal 2)
    ∷ record { te = false; words = []; address = 0x40201ABC; answer = pass 0x40201ABC }
    ∷ []

abbrev pub translation_of : (address : ℕ) → TranslationRequest
translation_of address = record { source = record { id = 0x0310 }; address = address }

-- what the rules answer to each row, and what each row says
unfoldable pub answers_to : List TranslationRow → List Answered
answers_to [] = []
answers_to (r ∷ rs) =
    record {
      outcome = answer_over (bench_with r.te) (translation_of r.address) (by_words (r.words ++ bench_words));
      place = translation_place (bench_with r.te) (translation_of r.address) (by_words (r.words ++ bench_words));
    }
    ∷ answers_to rs

unfoldable pub said : List TranslationRow → List Answered
said [] = []
said (r ∷ rs) = r.answer ∷ said rs

-- Proved in proofs/Translations.antt.
abbrev pub TranslationCases : Type 0
TranslationCases = answers_to translation_rows ≡ said translation_rows
