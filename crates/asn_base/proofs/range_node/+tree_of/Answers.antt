use Rattle.std.proofs.Common.{rules, ◌<◌, ◌/◌, length}
use Rattle.asn_base.specs.Trees.{ranges_in}
use Rattle.asn_base.proofs.Unrolled.{cut, keeps}
use Rattle.asn_base.proofs.range_node.+tree_of.Goals as goal

pub returns : goal.returns
returns t c =
    let lt : length c.args.ranges.now / 2 < length c.args.ranges.now = search rules in
    keeps c.made.result ranges_in _ _ c.made.ensures
    (rw (c.in_ok-before.ensures, c.in_ok-after.ensures, c.in_ok-range.ensures) (cut c.args.ranges.now _ _ lt))
