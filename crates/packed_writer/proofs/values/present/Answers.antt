use Rattle.std.proofs.Common.{ap, ◌∙◌}
use Rattle.std.specs.Prelude.{option_map}
use Rattle.asn_base.specs.Abstract.{abstract}
use Rattle.packed_writer.proofs.Rows.{past, there}
use Rattle.packed_writer.proofs.values.present.Goals as goal

pub returns-then-place-values : goal.returns-then-place-values
returns-then-place-values c = past c.args.values.now c.args.place c.if-place-values.true

pub returns-in-Some : goal.returns-in-Some
returns-in-Some c = there c.args.values.now c.args.place c.index-values-place.result c.if-place-values.false c.index-values-place.is ∙ ap (option_map abstract) c.in-Some.is

pub returns-in-None : goal.returns-in-None
returns-in-None c = there c.args.values.now c.args.place c.index-values-place.result c.if-place-values.false c.index-values-place.is ∙ ap (option_map abstract) c.in-None.is
