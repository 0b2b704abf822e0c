-- A post and a take through windows, by computing them.
use mathlib.Core.Path.{refl}
use Rattle.image.specs.Bits.{bits}
use Rattle.image.specs.Bytes.{little_endian, bytes_of}
use Rattle.image.specs.Memory.{entry}
use Rattle.image.specs.Place.{last_tried}
use Rattle.image.specs.Rules.{run, map_rules}
use Rattle.image.specs.Windows.{windows_of, spot_in, entry_in, of_windows, bad_with_any, bad_list, bad_windows}
use Rattle.registers.specs.Admission.{admission}
use Rattle.registers.specs.Registers.{registers_bad}
use Rattle.irte.specs.Irte.{reserved_irte, irte_check}
use Rattle.irte.specs.Source.{source_allowed}
use Rattle.interrupts.specs.Descriptor.{descriptor_check}
use Rattle.interrupts.specs.Interrupts.{descriptor_rules, index_rules, request_rules, interrupt_rules}
use Rattle.interrupts.specs.Post.{set_bit}
use Rattle.interrupts.specs.Request.{request_check}
use Rattle.takes.specs.Runs.{after, left}
use Rattle.takes.specs.Take.{highest, take_rules, clear_bit}
use Rattle.cases.specs.PostsThroughWindows as small
use Rattle.cases.specs.PostsThroughWindows.{PostsThroughWindows}

pub posts-through-windows : PostsThroughWindows
unfolding small.post_run bytes_of little_endian bits windows_of spot_in entry_in of_windows bad_with_any bad_list bad_windows entry run last_tried map_rules admission registers_bad descriptor_rules index_rules request_rules interrupt_rules reserved_irte irte_check request_check source_allowed descriptor_check set_bit clear_bit highest take_rules after left
posts-through-windows =
    record {
      fine = refl;
      answered = refl;
      written = refl;
      handed = refl;
      taken = refl;
      cut-blocked = refl;
      cut-taken = refl;
      cut_left = refl;
      sharing-refused = refl;
      unsorted-refused = refl;
    }
