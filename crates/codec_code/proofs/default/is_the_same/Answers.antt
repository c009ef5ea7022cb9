use Rattle.asn_base.specs.Abstract.{abstract}
use Rattle.codec_code.proofs.Defaults.{plain_same}
use Rattle.codec_code.proofs.default.is_the_same.Goals as goal

pub returns-in-Some : goal.returns-in-Some
returns-in-Some c =
    plain_same c.in-Some.equal c.args.schema.now c.args.id.index (abstract c.args.value.now) (abstract c.args.known.now) c.requires c.in-Some.ensures.plain c.in-Some.ensures.equal
