use Rattle.std.proofs.Common.{sym}
use Rattle.asn_base.specs.Seen.{component_of}
use Rattle.later_versions.proofs.Places.{there, not_there}
use Rattle.later_versions.proofs.members.component_type.Goals as goal

pub returns-then-place-components : goal.returns-then-place-components
returns-then-place-components c =
    sym (there component_of (λ c. c.type) c.args.components.now c.args.place c.index-components-place.result c.if-place-components.true c.index-components-place.is)

pub returns : goal.returns
returns c = sym (not_there component_of (λ c. c.type) c.args.components.now c.args.place c.if-place-components.false)
