use Rattle.asn_base.specs.Abstract.{abstract}
use Rattle.judging.proofs.Verdicts.{verdict_is}
use Rattle.judging.proofs.judged.verdict.Goals as goal

pub returns : goal.returns
returns c = verdict_is c.args.schema.now c.args.id.index (abstract c.args.value.now) c.args.octets.now c.args.account.now c.check.result c.check.ensures.yes c.check.ensures.no
