-- The rows for scalable mode, computed.
use mathlib.Core.Path.{refl}
use Rattle.image.specs.Bits.{bits}
use Rattle.image.specs.Bytes.{spell}
use Rattle.image.specs.Memory.{entry}
use Rattle.image.specs.Place.{last_tried}
use Rattle.image.specs.Rules.{run, map_rules}
use Rattle.registers.specs.Admission.{admission}
use Rattle.registers.specs.Registers.{registers_bad}
use Rattle.faults.specs.Record.{from_bit64, memory_record}
use Rattle.dma.specs.Page.{page_reserved}
use Rattle.dma.specs.Walk.{walk_rules}
use Rattle.pasid.specs.Context.{context_reserved, context_invalid, context_check}
use Rattle.pasid.specs.Directory.{directory_reserved, directory_check}
use Rattle.pasid.specs.Record.{silenced, pasid_word, scalable_record, scalable_fault}
use Rattle.pasid.specs.Root.{root_reserved, root_check}
use Rattle.pasid.specs.Table.{feature_reserved, pointers_reserved, table_reserved, table_invalid, table_check}
use Rattle.first.specs.First.{not_canonical, first_reserved, first_step}
use Rattle.nested.specs.Pages.{intermediate_rules, locate, host_page_rules}
use Rattle.nested.specs.Then.{then_rules}
use Rattle.nested.specs.Way.{way_rules}
use Rattle.scalable.specs.Lookup.{table_rules, directory_rules, context_rules, lookup_rules}
use Rattle.scalable.specs.Requests.{second_pages, paged_rules, type_rules, scalable_rules}
use Rattle.scalable_cases.specs.Rows.{by_words, answers, said, ScalableRows}

pub scalable-rows : ScalableRows
unfolding answers said by_words scalable_rules type_rules paged_rules second_pages then_rules lookup_rules context_rules directory_rules table_rules run last_tried map_rules walk_rules way_rules intermediate_rules locate host_page_rules entry spell bits admission registers_bad root_check root_reserved context_check context_reserved context_invalid directory_check directory_reserved table_check table_reserved pointers_reserved feature_reserved table_invalid page_reserved not_canonical first_reserved first_step scalable_fault scalable_record memory_record from_bit64 pasid_word silenced
scalable-rows = refl
