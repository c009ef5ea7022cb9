use Rattle.std.proofs.Common.{subst, sym}
use Rattle.asn_base.specs.Seen.{range_of}
use Rattle.asn_base.specs.Trees.{AreApart}
use Rattle.asn_base.proofs.range_tree.are_apart.Goals as goal
use Rattle.asn_base.specs.proving.Lists.{drop_end}

pub returns : goal.returns
returns c = λ t. c.loop-i.invariant (subst AreApart (sym (drop_end range_of c.args.ranges.now c.loop-i.i c.loop-i-test.false)) tt)
