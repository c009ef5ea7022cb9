use Rattle.asn_base.proofs.DepthLaws.{all_below}
use Rattle.std.proofs.Common.{arith}
use Rattle.asn_base.proofs.depths.row_above.Goals as goal

pub returns : goal.returns
returns c = λ e. all_below c.args.most c.args.row.now (λ j l. c.loop-i.invariant j (let h = c.loop-i-test.false in omega arith)) c.requires
