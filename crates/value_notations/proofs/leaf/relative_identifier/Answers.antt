use Rattle.std.proofs.Common.{sym, ◌∙◌, subst, ap, option_map, inr, [], ◌∷◌, arith}
use Rattle.asn_base.specs.Abstract.{AbstractValue}
use Rattle.trees.specs.Values.{tree_of}
use Rattle.trees.specs.Types.{a_relative_oid}
use Rattle.value_notations.specs.Leaves.{IsLeafNotation}
use Rattle.value_notations.specs.proving.Forms.{ArePastLimit, IsPastLimit}
use Rattle.value_notations.proofs.Inversions.{relative_made, alone_made}
use Rattle.value_notations.proofs.Rooted.{limit_more}
use Rattle.value_notations.proofs.leaf.relative_identifier.Goals as goal

pub returns-in-Ok-clause-ok : goal.returns-in-Ok-clause-ok
returns-in-Ok-clause-ok c =
    let n = tree_of c.args.notation.now in
    let is = sym c.numbers_in.ensures ∙ ap (option_map (λ o. o.now)) c.in-Some.is in
    subst (λ (v : AbstractValue). IsLeafNotation a_relative_oid n v) (sym (c.lemma_abstract_values.ensures.relative_oid_ c.in-Ok.all))
    (rw c.in-Ok.ensures.ok (relative_made n c.in-Some.numbers.now is (omega (arith, c.if-numbers-eq0.false))))

pub returns-in-Err-clause-fault : goal.returns-in-Err-clause-fault
returns-in-Err-clause-fault c =
    let n = tree_of c.args.notation.now in
    let ns = c.in-Some.numbers.now in
    let is = sym c.numbers_in.ensures ∙ ap (option_map (λ o. o.now)) c.in-Some.is in
    limit_more (ArePastLimit ns) (IsPastLimit a_relative_oid n) c.in-Err.fault
    (λ past. (ns, inr (relative_made n ns is (omega (arith, c.if-numbers-eq0.false))), past)) c.in-Err.ensures.fault

pub returns-in-Ok-within_limit-clause-ok : goal.returns-in-Ok-within_limit-clause-ok
returns-in-Ok-within_limit-clause-ok c =
    let n = tree_of c.args.notation.now in
    let is = sym c.alone_in.ensures ∙ c.in-Some-alone_in.is in
    subst (λ (v : AbstractValue). IsLeafNotation a_relative_oid n v)
    (sym (c.lemma_abstract_values.ensures.relative_oid_ c.in-Ok-within_limit.all))
    (rw c.in-Ok-within_limit.ensures.ok (alone_made n c.in-Some-alone_in.number is))

pub returns-in-Err-within_limit-clause-fault : goal.returns-in-Err-within_limit-clause-fault
returns-in-Err-within_limit-clause-fault c =
    let n = tree_of c.args.notation.now in
    let ns = c.in-Some-alone_in.number ∷ [] in
    let is = sym c.alone_in.ensures ∙ c.in-Some-alone_in.is in
    limit_more (ArePastLimit ns) (IsPastLimit a_relative_oid n) c.in-Err-within_limit.fault
    (λ past. (ns, inr (alone_made n c.in-Some-alone_in.number is), past)) c.in-Err-within_limit.ensures.fault
