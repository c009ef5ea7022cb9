use Rattle.std.proofs.Common.{◌≡◌, sym, ◌∙◌, subst, ap, option_map, rules, string_bytes}
use Rattle.std.specs.Prelude.{IsUtf8}
use Rattle.std.proofs.lemmas.Option.{same_Some}
use Rattle.asn_base.specs.Abstract.{AbstractValue}
use Rattle.trees.specs.Values.{tree_of}
use Rattle.trees.specs.Types.{a_utf8_string}
use Rattle.value_notations.specs.Leaves.{IsLeafNotation}
use Rattle.value_notations.proofs.Inversions.{no_utf8, utf8_made}
use Rattle.value_notations.proofs.leaf.utf8_text.Goals as goal

pub returns-in-Err : goal.returns-in-Err
returns-in-Err c =
    let n = tree_of c.args.notation.now in
    let is = sym c.text_in.ensures ∙ ap (option_map (λ o. o.now)) c.in-Some.is in
    no_utf8 n (λ o e u. c.in-Err.ensures.cases.0 (subst IsUtf8 (same_Some _ _ (sym e ∙ is)) u))

pub returns-in_ok-from_str-in-Ok : goal.returns-in_ok-from_str-in-Ok
returns-in_ok-from_str-in-Ok c =
    let n = tree_of c.args.notation.now in
    let is = sym c.text_in.ensures ∙ ap (option_map (λ o. o.now)) c.in-Some.is in
    let t = c.in_ok-from_str-in-Ok.field-0 in
    let says = c.in_ok-from_str-in-Ok.ensures in
    let cases = c.in-Ok.ensures.cases in
    let same : string_bytes t ≡ c.in-Some.octets.now = search rules in
    subst (λ (v : AbstractValue). IsLeafNotation a_utf8_string n v) (sym (c.lemma_abstract_values.ensures.text_ t))
    (rw same (utf8_made n c.in-Some.octets.now is cases.1))
