use Rattle.std.proofs.Common.{rules}
use Rattle.asn_base.specs.Abstract.{abstract}
use Rattle.codec_machine.proofs.Chosen.{alternative_in}
use Rattle.codec_machine.proofs.value_parts.leaf_called.Goals as goal

pub returns-in-Some : goal.returns-in-Some
returns-in-Some c =
    λ t e. alternative_in c.args.code.now t c.args.count c.in-Ok.number c.in-Ok-called.of c.args.calls.now (abstract c.args.value.now)
    (abstract c.in-Ok.held.now) c.in-Some.head c.in-Some.kind e (search rules) c.in-Ok.ensures.ok.0 c.in-Ok.ensures.ok.1
    c.in-Ok-called.ensures.ok c.in-Some.ensures.steps c.in-Some.ensures.row
