use Rattle.std.specs.Prelude.{◌++◌, ◌∷◌}
use Rattle.asn_base.specs.declared.range_node.Node.{out-Node}
use Rattle.asn_base.specs.Trees.{ranges_in}
use Rattle.asn_base.proofs.Unrolled.{first_here, first_there}
use Rattle.asn_base.proofs.range_node.+first_kept.Goals as goal

pub returns-in-None : goal.returns-in-None
returns-in-None t c = (ranges_in (out-Node c.args.node.now).after, first_here c.args.node.now c.in-None.is)

pub returns-in-Some : goal.returns-in-Some
returns-in-Some t c =
    let n = out-Node c.args.node.now in
    let f = c.first_kept.ensures in (
      f.0 ++ (n.range ∷ ranges_in n.after),
      first_there c.args.node.now c.deref.result.now c.in-Some.less _ f.0 c.in-Some.is c.deref.ensures f.1,
    )
