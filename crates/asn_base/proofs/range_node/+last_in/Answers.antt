use Rattle.std.proofs.Common.{◌∙◌, ap, sym}
use Rattle.std.specs.Prelude.{◌++◌, ◌∷◌, []}
use Rattle.asn_base.specs.declared.range_node.Node.{out-Node}
use Rattle.asn_base.specs.Trees.{ranges_in}
use Rattle.asn_base.proofs.Unrolled.{last_here, last_there}
use Rattle.asn_base.proofs.range_node.+last_in.Goals as goal

pub returns-in-None : goal.returns-in-None
returns-in-None t c = (
  ranges_in (out-Node c.args.node.now).before,
  last_here c.args.node.now c.in-None.is
      ∙ ap (λ x. ranges_in (out-Node c.args.node.now).before ++ (x ∷ [])) (sym c.range.ensures),
)

pub returns-in-Some : goal.returns-in-Some
returns-in-Some t c =
    let n = out-Node c.args.node.now in
    let f = c.last_in.ensures in (
      ranges_in n.before ++ (n.range ∷ f.0),
      last_there c.args.node.now c.deref.result.now c.in-Some.more _ f.0 c.in-Some.is c.deref.ensures f.1,
    )
