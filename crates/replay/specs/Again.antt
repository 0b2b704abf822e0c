-- A traced request asked again, under given registers and over given memory.
use Rattle.std.specs.Prelude.{ℕ, Bool, ◌&&◌, List, eqb}
use Rattle.std.specs.Prelude.{if◌then◌else◌}
use Rattle.registers.specs.declared.Registers.{Registers}
use Rattle.interrupts.specs.Interrupts.{interrupt_answer}
use Rattle.interrupts.specs.Post.{interrupt_written}
use Rattle.traced.specs.declared.Traced.{Traced}
use Rattle.answered.specs.Claims.{memory_entry, translation_entry, interrupt_entry}
use Rattle.answered.specs.Told.{memory_in, translation_in, interrupt_in}

module _ (registers : Registers) (windows image : List ℕ) (e : Traced) where
  -- the entry of the answer now: kind 3 is an interrupt, 4 a translation request, 1 and 2 a read and a write
  unfoldable pub again : Traced
  again =
      if eqb e.kind 3 then interrupt_entry registers windows image (interrupt_in e)
      else if eqb e.kind 4 then translation_entry registers windows image (translation_in e)
      else memory_entry registers windows image (memory_in e)

  -- the image that it leaves: a post is made
  unfoldable pub left_by : List ℕ
  left_by = if eqb e.kind 3 then interrupt_written windows (interrupt_answer registers (interrupt_in e) windows image) image else image

-- two entries are the same in every field
unfoldable pub same : Traced → Traced → Bool
same a b =
    eqb a.kind b.kind && eqb a.answer b.answer && eqb a.number b.number && eqb a.flags b.flags
    && eqb a.source b.source && eqb a.vector b.vector && eqb a.posted b.posted && eqb a.address b.address
    && eqb a.«data» b.«data» && eqb a.destination b.destination && eqb a.value b.value
