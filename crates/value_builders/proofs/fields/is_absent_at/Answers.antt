use Rattle.std.proofs.Common.{Some, ap, ◌∙◌}
use Rattle.std.specs.Prelude.{option_map}
use Rattle.asn_base.specs.Abstract.{abstract}
use Rattle.value_builders.proofs.fields.is_absent_at.Goals as goal
use Rattle.asn_base.specs.proving.Lists.{seen_here}

pub returns-in-Some-clause-set : goal.returns-in-Some-clause-set
returns-in-Some-clause-set c = λ h.
    (_, seen_here (option_map abstract) c.args.values.now c.args.place c.index-values-place.result c.requires c.index-values-place.is ∙ ap (λ q. Some (option_map abstract q)) c.in-Some.is)

pub returns-in-None-clause-absent : goal.returns-in-None-clause-absent
returns-in-None-clause-absent c = λ h.
    seen_here (option_map abstract) c.args.values.now c.args.place c.index-values-place.result c.requires c.index-values-place.is ∙ ap (λ q. Some (option_map abstract q)) c.in-None.is
