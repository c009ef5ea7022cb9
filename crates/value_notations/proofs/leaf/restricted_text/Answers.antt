use Rattle.std.proofs.Common.{◌≡◌, sym, ◌∙◌, subst, ap, option_map, rules, string_bytes, true}
use Rattle.std.proofs.lemmas.Str.{IsUtf8-from_ascii}
use Rattle.asn_base.specs.Abstract.{AbstractValue}
use Rattle.trees.specs.Values.{tree_of}
use Rattle.trees.specs.Types.{a_restricted_string}
use Rattle.value_notations.specs.Leaves.{IsLeafNotation}
use Rattle.value_notations.proofs.Alls.{all_ascii, each_weaker}
use Rattle.value_notations.proofs.Inversions.{restricted_made}
use Rattle.value_notations.proofs.leaf.restricted_text.Goals as goal

pub returns-in-Err : goal.returns-in-Err
returns-in-Err c =
    let r : c.are_characters.result ≡ true = search rules in
    let all = c.are_characters.ensures.yes r in
    absurd (c.in-Err.ensures.cases.0 (IsUtf8-from_ascii c.in-Some.octets.now
    (all_ascii c.in-Some.octets.now (each_weaker _ _ c.in-Some.octets.now (c.characters_below_128.ensures c.args.kind) all))))

pub returns-in_ok-from_str-in-Ok : goal.returns-in_ok-from_str-in-Ok
returns-in_ok-from_str-in-Ok c =
    let n = tree_of c.args.notation.now in
    let is = sym c.text_in.ensures ∙ ap (option_map (λ o. o.now)) c.in-Some.is in
    let t = c.in_ok-from_str-in-Ok.field-0 in
    let says = c.in_ok-from_str-in-Ok.ensures in
    let cases = c.in-Ok.ensures.cases in
    let same : string_bytes t ≡ c.in-Some.octets.now = search rules in
    let r : c.are_characters.result ≡ true = search rules in
    subst (λ (v : AbstractValue). IsLeafNotation (a_restricted_string c.args.kind) n v) (sym (c.lemma_abstract_values.ensures.text_ t))
    (rw same (restricted_made c.args.kind n c.in-Some.octets.now is (c.are_characters.ensures.yes r)))
