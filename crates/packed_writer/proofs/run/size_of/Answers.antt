use Rattle.std.proofs.Common.{refl, ap}
use Rattle.asn_base.specs.Seen.{constraint_of, kind_of}
use Rattle.packed_writer.proofs.Inside.{kind_found, of_sequence_of', of_set_of'}
use Rattle.packed_writer.proofs.run.size_of.Goals as goal

pub returns-in-SequenceOf : goal.returns-in-SequenceOf
returns-in-SequenceOf c = of_sequence_of' c.args.schema.now c.args.id.index c.in-SequenceOf.field-1.index (kind_of c.core.result.now) (constraint_of c.in-SequenceOf.size) (kind_found c.args.schema.now c.args.schema.now c.args.id.index _ refl c.core.ensures.is.1) c.core.ensures.sound (ap kind_of c.in-SequenceOf.is)

pub returns-in-SetOf : goal.returns-in-SetOf
returns-in-SetOf c = of_set_of' c.args.schema.now c.args.id.index c.in-SetOf.field-1.index (kind_of c.core.result.now) (constraint_of c.in-SetOf.size) (kind_found c.args.schema.now c.args.schema.now c.args.id.index _ refl c.core.ensures.is.1) c.core.ensures.sound (ap kind_of c.in-SetOf.is)
