use Rattle.asn_base.specs.Abstract.{abstract}
use Rattle.asn_base.specs.Seen.{component_of}
use Rattle.codec_code.proofs.Defaults.{default_known, of_component}
use Rattle.codec_code.proofs.default.is_default_at.Goals as goal

pub returns-in-Some : goal.returns-in-Some
returns-in-Some c =
    of_component c.is_the_default.result c.args.schema.now c.args.id.index c.args.place (component_of c.in-Some.component.now)
    (abstract c.args.value.now) c.in-Some.ensures c.is_the_default.ensures

pub is_the_default-requires : goal.is_the_default-requires
is_the_default-requires c =
    default_known c.args.schema.now c.args.id.index c.args.place (component_of c.in-Some.component.now) c.lemma_invariant.ensures c.in-Some.ensures
