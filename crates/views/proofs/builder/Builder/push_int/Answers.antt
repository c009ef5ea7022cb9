use Rattle.std.proofs.Common.{ap, sym, ◌∙◌}
use Rattle.std.specs.Prelude.{◌∷◌, []}
use Rattle.std.proofs.lemmas.Int.{to_z-of_z}
use mir.Syntax.{w128}
use Rattle.views.specs.Tree.{leaf, integer}
use Rattle.views.specs.Nodes.{a_leaf, node}
use Rattle.views.proofs.builder.Builder.push_int.Goals as goal

pub returns : goal.returns
returns c b h =
    c.in_ok-add.ensures b (leaf (integer c.args.value)) h
    (ap (λ z. node c.args.number (a_leaf (integer z)) ∷ []) (sym (c.of.ensures ∙ to_z-of_z w128 c.args.value c.ranges.value)))
