use Rattle.std.proofs.Common.{sym, ◌∙◌, subst}
use Rattle.asn_base.specs.Abstract.{AbstractValue}
use Rattle.trees.specs.Values.{tree_of}
use Rattle.trees.specs.Types.{a_null}
use Rattle.value_notations.specs.Leaves.{IsLeafNotation}
use Rattle.value_notations.proofs.Inversions.{no_null, null_made}
use Rattle.value_notations.proofs.leaf.nothing.Goals as goal

pub returns-then-is_null : goal.returns-then-is_null
returns-then-is_null c =
    let n = tree_of c.args.notation.now in
    subst (λ (v : AbstractValue). IsLeafNotation a_null n v) (sym c.lemma_abstract_values.ensures.null_)
    (null_made n (sym c.is_null.ensures ∙ c.if-is_null.true))

pub returns-else-is_null : goal.returns-else-is_null
returns-else-is_null c = no_null (tree_of c.args.notation.now) (sym c.is_null.ensures ∙ c.if-is_null.false)
