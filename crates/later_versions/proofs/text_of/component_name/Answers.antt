use Rattle.std.proofs.Common.{[], sym, ◌∙◌}
use Rattle.asn_base.specs.Seen.{component_of}
use Rattle.later_versions.proofs.Places.{or_some, there}
use Rattle.later_versions.proofs.text_of.component_name.Goals as goal

pub returns-then-place-components : goal.returns-then-place-components
returns-then-place-components c =
    c.as_str.ensures.value
    ∙ sym (or_some _ c.args.place [] _
    (there component_of (λ c. c.name) c.args.components.now c.args.place c.index-components-place.result c.if-place-components.true c.index-components-place.is))
