use Rattle.std.proofs.Common.{◌≡◌, ◌-◌, ◌*◌, [], flat_map, length, take, ◌∙◌, ap, sym, subst, map, option_map, List, Bool}
use Rattle.asn_base.specs.Abstract.{bits, bits_of, bits_of_octet}
use Rattle.trees.specs.Values.{tree_of, trees}
use Rattle.trees.specs.Types.{a_bit_string}
use Rattle.type_table.specs.Seen.{kind_of}
use Rattle.resolve.specs.Listed.{bits_listed}
use Rattle.value_notations.specs.Leaves.{IsLeafNotation}
use Rattle.value_notations.proofs.BitForms.{misfit_other, no_bits, named_bits}
use Rattle.value_notations.proofs.bit_strings.braced_bits.Goals as goal

pub returns-then-is_nothing-clause-ok : goal.returns-then-is_nothing-clause-ok
returns-then-is_nothing-clause-ok c =
    let bs = bits_listed (kind_of c.args.shape.now) in
    let n = tree_of c.args.notation.now in
    let items = ap (λ v. v.items) c.of.ensures.octets ∙ c.new.ensures.items in
    let none : bits_of c.of.result ≡ [] =
    ap (λ o. take (8 * length o - c.of.result.unused) (flat_map bits_of_octet o)) items
    ∙ ap (λ u. take (8 * 0 - u) []) c.of.ensures.unused in
    subst (λ (z : List Bool). IsLeafNotation (a_bit_string bs) n (bits z)) (sym none)
    (no_bits bs n (sym c.is_nothing.ensures ∙ c.if-is_nothing.true)
    (λ e. c.has_no_bit.ensures.no c.if-has_no_bit.false (ap (λ s. bits_listed (kind_of s)) c.shape.ensures ∙ e)))

pub returns-in-Ok-clause-ok : goal.returns-in-Ok-clause-ok
returns-in-Ok-clause-ok c =
    named_bits (bits_listed (kind_of c.args.shape.now)) (tree_of c.args.notation.now) (trees (map tree_of c.in-Some.names.now))
    (bits_of c.in-Ok.set)
    (sym c.items_in.ensures.tree ∙ ap (option_map (λ ts. trees (map tree_of ts.now))) c.in-Some.is) c.in-Ok.ensures.ok

pub returns-in-None-clause-fault : goal.returns-in-None-clause-fault
returns-in-None-clause-fault c =
    misfit_other (bits_listed (kind_of c.args.shape.now)) (tree_of c.args.notation.now) c.requires.not_binary c.requires.not_hex
    (sym c.is_nothing.ensures ∙ c.if-is_nothing.false)
    (sym c.items_in.ensures.tree ∙ ap (option_map (λ ts. trees (map tree_of ts.now))) c.in-None.is)
