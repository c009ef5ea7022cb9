use Rattle.std.proofs.Common.{◌≡◌, sym, ◌∙◌, subst, ap, option_map, rules, true, inl}
use Rattle.asn_base.specs.Abstract.{AbstractValue}
use Rattle.trees.specs.Values.{tree_of}
use Rattle.trees.specs.Types.{an_object_identifier}
use Rattle.value_notations.specs.Leaves.{IsLeafNotation}
use Rattle.value_notations.specs.proving.Forms.{ArePastLimit, IsPastLimit}
use Rattle.value_notations.proofs.Inversions.{identifier_made}
use Rattle.value_notations.proofs.Rooted.{limit_more}
use Rattle.value_notations.proofs.leaf.identifier.Goals as goal

pub returns-in-Ok-clause-ok : goal.returns-in-Ok-clause-ok
returns-in-Ok-clause-ok c =
    let n = tree_of c.args.notation.now in
    let is = sym c.numbers_in.ensures ∙ ap (option_map (λ o. o.now)) c.in-Some.is in
    let r : c.is_rooted.result ≡ true = search rules in
    subst (λ (v : AbstractValue). IsLeafNotation an_object_identifier n v) (sym (c.lemma_abstract_values.ensures.oid_ c.in-Ok.all))
    (rw c.in-Ok.ensures.ok (identifier_made n c.in-Some.numbers.now is (c.is_rooted.ensures.yes r)))

pub returns-in-Err-clause-fault : goal.returns-in-Err-clause-fault
returns-in-Err-clause-fault c =
    let n = tree_of c.args.notation.now in
    let ns = c.in-Some.numbers.now in
    let is = sym c.numbers_in.ensures ∙ ap (option_map (λ o. o.now)) c.in-Some.is in
    let r : c.is_rooted.result ≡ true = search rules in
    limit_more (ArePastLimit ns) (IsPastLimit an_object_identifier n) c.in-Err.fault
    (λ past. (ns, inl (identifier_made n ns is (c.is_rooted.ensures.yes r)), past)) c.in-Err.ensures.fault
