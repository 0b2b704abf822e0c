-- The rows of Ask 1 hold, proved together by computing the table.
use mathlib.Core.Path.{refl}
use Rattle.image.specs.Bits.{bits}
use Rattle.image.specs.Bytes.{spell}
use Rattle.image.specs.Memory.{entry}
use Rattle.image.specs.Place.{last_tried}
use Rattle.image.specs.Rules.{run, map_rules}
use Rattle.registers.specs.Admission.{admission}
use Rattle.registers.specs.Registers.{registers_bad}
use Rattle.faults.specs.Record.{silenced, memory_record, translation_record, from_bit64, translation_fault}
use Rattle.dma.specs.Context.{context_reserved, context_invalid, context_check}
use Rattle.dma.specs.Page.{page_reserved}
use Rattle.dma.specs.Root.{root_reserved, root_check}
use Rattle.dma.specs.Lookup.{context_rules, root_rules}
use Rattle.dma.specs.Walk.{walk_rules}
use Rattle.translation.specs.Completion.{type_rules}
use Rattle.translation.specs.Requests.{request_rules}
use Rattle.cases.specs.Bench.{onward, in_words}
use Rattle.cases.specs.Translations.{by_words, answers_to, said, TranslationCases}

pub translation-cases : TranslationCases
unfolding onward in_words by_words answers_to said bits spell entry run last_tried map_rules admission registers_bad silenced memory_record translation_record from_bit64 translation_fault context_reserved context_invalid context_check page_reserved root_reserved root_check context_rules root_rules walk_rules type_rules request_rules
translation-cases = refl
