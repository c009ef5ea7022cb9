use Rattle.std.proofs.Common.{ap}
use Rattle.std.specs.Prelude.{◌++◌, ◌∷◌}
use Rattle.asn_base.specs.Trees.{ranges_in}
use Rattle.asn_base.proofs.Unrolled.{keeps}
use Rattle.asn_base.proofs.range_node.fork.Goals as goal

pub returns : goal.returns
returns c =
    keeps c.made.result ranges_in _ _ c.made.ensures
    (ap (λ q. ranges_in c.args.before.now ++ (q ∷ ranges_in c.args.after.now)) c.in_ok-copy.ensures)
