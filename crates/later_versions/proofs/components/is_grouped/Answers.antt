use Rattle.std.proofs.Common.{map}
use Rattle.asn_base.specs.Seen.{component_of}
use Rattle.later_versions.proofs.Fronts.{mapped_at}
use Rattle.later_versions.proofs.Marks.{joined_two}
use Rattle.later_versions.proofs.components.is_grouped.Goals as goal

pub returns : goal.returns
returns c =
    joined_two (map component_of c.args.components.now) c.args.place c.args.place (component_of c.index-components-place.result) (component_of c.index-components-place-2.result)
    (mapped_at component_of c.args.components.now c.args.place c.index-components-place.result c.requires c.index-components-place.is)
    (mapped_at component_of c.args.components.now c.args.place c.index-components-place-2.result c.requires c.index-components-place-2.is)
    c.are_of_one.ensures
