use Rattle.image.proofs.Fields.{fits}
use Rattle.packing.proofs.Registers.{told-unpacked, registers-length}
use Rattle.packing.proofs.unpacking.unpack.Goals as goal

pub overflow_cast-result : goal.overflow_cast-result
overflow_cast-result c = record { fits = rw c.field.ensures (fits c.word_or_zero-head.result 7 0) }

pub overflow_cast-result-2 : goal.overflow_cast-result-2
overflow_cast-result-2 c = record { fits = rw c.field-2.ensures (fits c.word_or_zero-head.result 15 8) }

pub overflow_cast-result-3 : goal.overflow_cast-result-3
overflow_cast-result-3 c = record { fits = rw c.field-3.ensures (fits c.word_or_zero-head.result 39 32) }

pub returns : goal.returns
returns c =
    rw (
      c.field.ensures,
      c.field-2.ensures,
      c.bit.ensures,
      c.bit-2.ensures,
      c.bit-3.ensures,
      c.bit-4.ensures,
      c.bit-5.ensures,
      c.bit-6.ensures,
      c.word_or_zero.ensures,
      c.word_or_zero-2.ensures,
      c.field-3.ensures,
      c.bit-7.ensures,
      c.bit-8.ensures,
      c.bit-9.ensures,
      c.bit-10.ensures,
      c.word_or_zero-head.ensures,
    )
    (told-unpacked c.args.registers.now (λ i. (c.type_inv.registers i).fits) (registers-length c.args.registers.now c.requires))
