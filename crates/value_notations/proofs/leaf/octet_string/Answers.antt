use Rattle.std.proofs.Common.{sym, ◌∙◌, subst, ap, option_map}
use Rattle.asn_base.specs.Abstract.{AbstractValue}
use Rattle.trees.specs.Values.{tree_of}
use Rattle.trees.specs.Types.{an_octet_string}
use Rattle.value_notations.specs.Leaves.{IsLeafNotation}
use Rattle.value_notations.proofs.Inversions.{binary_made, hex_made}
use Rattle.value_notations.proofs.leaf.octet_string.Goals as goal

pub returns-in-Some : goal.returns-in-Some
returns-in-Some c =
    let n = tree_of c.args.notation.now in
    subst (λ (v : AbstractValue). IsLeafNotation an_octet_string n v) (sym (c.lemma_abstract_values.ensures.octets_ c.in_ok-bit_octets.field-0))
    (binary_made n _ _ (sym c.binary_in.ensures ∙ ap (option_map (λ d. d.now)) c.in-Some.is) c.in_ok-bit_octets.ensures)

pub returns-in_ok-hex_octets-in-Some-hex_in : goal.returns-in_ok-hex_octets-in-Some-hex_in
returns-in_ok-hex_octets-in-Some-hex_in c =
    let n = tree_of c.args.notation.now in
    subst (λ (v : AbstractValue). IsLeafNotation an_octet_string n v)
    (sym (c.lemma_abstract_values.ensures.octets_ c.in_ok-hex_octets-in-Some-hex_in.field-0))
    (hex_made n _ _ (sym c.hex_in.ensures ∙ ap (option_map (λ d. d.now)) c.in-Some-hex_in.is)
    c.in_ok-hex_octets-in-Some-hex_in.ensures)
