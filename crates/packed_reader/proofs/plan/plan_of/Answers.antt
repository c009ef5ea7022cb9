use Rattle.std.proofs.Common.{subst}
use Rattle.packed_writer.specs.proving.Values.{StepsFit}
use Rattle.packed_reader.proofs.Plans.{fields_of_steps}
use Rattle.packed_reader.proofs.plan.plan_of.Goals as goal

pub returns-in-ExtensionBit-clause-fits : goal.returns-in-ExtensionBit-clause-fits
returns-in-ExtensionBit-clause-fits c = λ s t h. c.marked.ensures.fits s t (subst (StepsFit s t) c.in-Some.ensures h).2

pub returns-in-Map-clause-fits : goal.returns-in-Map-clause-fits
returns-in-Map-clause-fits c = λ s t h. fields_of_steps s t c.in-Some.rest.now (subst (StepsFit s t) c.in-Some.ensures h).2
