use Rattle.primitive_reader.proofs.Spelling.{ends_before}
use Rattle.primitive_reader.proofs.septets.after_septets.Goals as goal

pub returns-then-octets-i-lt128-clause-some : goal.returns-then-octets-i-lt128-clause-some
returns-then-octets-i-lt128-clause-some c = ends_before c.args.octets.now c.loop-i.i c.loop-i-test.true c.loop-i.invariant c.if-octets-i-lt128.true
