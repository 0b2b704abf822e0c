use Rattle.image.proofs.Fields.{fits}
use Rattle.traced.proofs.Stored.{read-fields}
use Rattle.traced.proofs.fields.Goals as goal

pub returns : goal.returns
returns c =
    let a = c.args in
    rw (
      c.field.ensures,
      c.field-2.ensures,
      c.field-3.ensures,
      c.field-4.ensures,
      c.field-5.ensures,
      c.field-6.ensures,
      c.field-7.ensures,
      c.field-8.ensures,
      c.field-9.ensures,
      c.word_or_zero-value.ensures,
      c.word_or_zero-message.ensures,
      c.word_or_zero-address.ensures,
      c.word_or_zero-head.ensures,
    )
    (read-fields a.bytes.now a.at c.requires)

pub overflow_cast-result : goal.overflow_cast-result
overflow_cast-result c = record { fits = rw c.field.ensures (fits _ 7 0) }

pub overflow_cast-result-2 : goal.overflow_cast-result-2
overflow_cast-result-2 c = record { fits = rw c.field-2.ensures (fits _ 15 8) }

pub overflow_cast-result-3 : goal.overflow_cast-result-3
overflow_cast-result-3 c = record { fits = rw c.field-3.ensures (fits _ 23 16) }

pub overflow_cast-result-4 : goal.overflow_cast-result-4
overflow_cast-result-4 c = record { fits = rw c.field-4.ensures (fits _ 31 24) }

pub overflow_cast-result-5 : goal.overflow_cast-result-5
overflow_cast-result-5 c = record { fits = rw c.field-5.ensures (fits _ 47 32) }

pub overflow_cast-result-6 : goal.overflow_cast-result-6
overflow_cast-result-6 c = record { fits = rw c.field-6.ensures (fits _ 55 48) }

pub overflow_cast-result-7 : goal.overflow_cast-result-7
overflow_cast-result-7 c = record { fits = rw c.field-7.ensures (fits _ 63 56) }

pub overflow_cast-result-8 : goal.overflow_cast-result-8
overflow_cast-result-8 c = record { fits = rw c.field-8.ensures (fits _ 31 0) }

pub overflow_cast-result-9 : goal.overflow_cast-result-9
overflow_cast-result-9 c = record { fits = rw c.field-9.ensures (fits _ 63 32) }
