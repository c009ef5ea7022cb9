use Rattle.std.proofs.Common.{arith, ◌+◌, ◌<◌, length, map}
use Rattle.asn_base.specs.Seen.{range_of}
use Rattle.asn_base.proofs.InTrees.{apart_next}
use Rattle.asn_base.proofs.range_tree.is_apart.Goals as goal
use Rattle.asn_base.specs.proving.Lists.{drop_at}

pub returns-else-next-ranges : goal.returns-else-next-ranges
returns-else-next-ranges c = λ t a.
    let xs = c.args.ranges.now in
    let i = c.args.at in
    let l : i + 1 < length xs = let n = c.if-next-ranges.false in omega (arith, c.requires, n) in
    apart_next (map range_of xs) i _ _ (drop_at range_of xs i _ c.requires) (drop_at range_of xs (i + 1) _ l)
    (c.holds_some.ensures.0 c.if-holds_some.true) (c.ends_before.ensures.0 t) a
