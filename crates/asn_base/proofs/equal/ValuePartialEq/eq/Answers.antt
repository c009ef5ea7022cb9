use Rattle.std.specs.Bool.{one_answer}
use Rattle.asn_base.specs.Abstract.{abstract}
use Rattle.asn_base.specs.Equal.{are_equal}
use Rattle.asn_base.specs.proving.Equality.{equal_decides}
use Rattle.asn_base.proofs.equal.ValuePartialEq.eq.Goals as goal

pub returns-clause-computed : goal.returns-clause-computed
returns-clause-computed c =
    one_answer c.equal.result (are_equal (abstract c.args.self.now) (abstract c.args.other.now)) c.equal.ensures (equal_decides (abstract c.args.self.now) (abstract c.args.other.now))
