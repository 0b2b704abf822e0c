use mathlib.Core.Path.{refl}
use Rattle.dma.proofs.page_answer.Goals as goal

pub returns-then-meets_interrupt_range : goal.returns-then-meets_interrupt_range
returns-then-meets_interrupt_range c =
    record {
      result_value = rw (← c.meets_interrupt_range.ensures, c.if-meets_interrupt_range.true);
      result_value_2 = λ place. refl;
    }

pub returns : goal.returns
returns c =
    record {
      result_value = rw (← c.meets_interrupt_range.ensures, c.if-meets_interrupt_range.false, c.host_address.ensures);
      result_value_2 = λ place. refl;
    }
