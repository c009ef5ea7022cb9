use Rattle.packed_writer.proofs.law.written_is_read.Goals as goal

pub returns : goal.returns
returns c = λ s t v o m. c.writing_laws.ensures.message s t v m.bits o m.value m.light m.packed m.filled
