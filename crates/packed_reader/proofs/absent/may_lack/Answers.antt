use Rattle.packed_reader.proofs.Lacking.{has_component, decides_absence}
use Rattle.packed_reader.proofs.absent.may_lack.Goals as goal

pub may_be_absent-requires-clause-there : goal.may_be_absent-requires-clause-there
may_be_absent-requires-clause-there c = (c.requires.there.0, has_component c.args.code.now c.schema.result.now c.args.id.index c.args.place c.requires.there.0 c.schema.ensures c.requires.there.1)

pub returns : goal.returns
returns c = decides_absence c.args.code.now c.schema.result.now c.args.id.index c.args.place c.args.levels c.may_be_absent.result c.lemma_invariant.ensures c.schema.ensures c.may_be_absent.ensures
