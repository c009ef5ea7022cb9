use Rattle.asn_base.specs.Seen.{component_of}
use Rattle.later_versions.specs.Differences.{other_name}
use Rattle.later_versions.proofs.Differing.{component_judged}
use Rattle.later_versions.proofs.Tracking.{if_ok}
use Rattle.later_versions.proofs.components.other_component.Goals as goal

pub returns-then-not-have_same_name : goal.returns-then-not-have_same_name
returns-then-not-have_same_name c =
    other_name (λ h. absurd (let e = c.have_same_name.ensures.1 h in let f = c.if-not-have_same_name.true in cc))

pub returns : goal.returns
returns c = if_ok c.other_presence.result c.other_presence.ensures (λ reason h.
    component_judged c.args.schema.now c.args.place (component_of c.args.one.now) (component_of c.args.other.now) reason
    (c.have_same_name.ensures.0 c.if-not-have_same_name.false) h)
