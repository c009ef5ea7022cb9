use Rattle.std.proofs.Common.{sym, ◌∙◌, subst}
use Rattle.asn_base.specs.Abstract.{AbstractValue}
use Rattle.trees.specs.Values.{tree_of}
use Rattle.trees.specs.Types.{a_boolean}
use Rattle.value_notations.specs.Leaves.{IsLeafNotation}
use Rattle.value_notations.proofs.Inversions.{no_truth, truth_made}
use Rattle.value_notations.proofs.leaf.truth.Goals as goal

pub returns-in-Some : goal.returns-in-Some
returns-in-Some c =
    let n = tree_of c.args.notation.now in
    subst (λ (v : AbstractValue). IsLeafNotation a_boolean n v) (sym
    (c.lemma_abstract_values.ensures.bool c.in-Some.value))
    (truth_made n c.in-Some.value (sym c.truth_in.ensures ∙ c.in-Some.is))

pub returns-in-None : goal.returns-in-None
returns-in-None c = no_truth (tree_of c.args.notation.now) (sym c.truth_in.ensures ∙ c.in-None.is)
