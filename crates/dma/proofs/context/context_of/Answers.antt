use Rattle.dma.proofs.context.context_of.Goals as goal

pub returns : goal.returns
returns c = rw (c.table_address.ensures, c.address_width.ensures.0, c.translation_type.ensures.0, c.fault_processing_disabled.ensures, c.domain.ensures.0)
