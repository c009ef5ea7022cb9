use Rattle.packed_writer.proofs.Fitting.{fits}
use Rattle.packed_writer.proofs.law.lemma_routines_fit.Goals as goal

pub returns : goal.returns
returns c = fits
