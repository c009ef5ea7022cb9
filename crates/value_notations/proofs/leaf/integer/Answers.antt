use mir.Val.{SFits}
use Rattle.std.specs.Int.{w128}
use Rattle.std.proofs.lemmas.Int.{to_z-of_z}
use Rattle.std.proofs.Common.{sym, ◌∙◌, subst, ap, option_map, rules, ℤ}
use Rattle.asn_base.specs.Abstract.{integer}
use Rattle.trees.specs.Values.{tree_of}
use Rattle.trees.specs.Types.{an_integer}
use Rattle.type_table.specs.Seen.{kind_of}
use Rattle.resolve.specs.Listed.{numbers_listed}
use Rattle.value_notations.specs.Leaves.{IsLeafNotation}
use Rattle.value_notations.proofs.Inversions.{no_integer, number_made, named_made}
use Rattle.value_notations.proofs.leaf.integer.Goals as goal

pub returns-in-Some : goal.returns-in-Some
returns-in-Some c =
    let n = tree_of c.args.notation.now in
    let ns = numbers_listed (kind_of c.args.shape.now) in
    let f : SFits w128 c.in-Some.number = search rules in
    subst (λ (z : ℤ). IsLeafNotation (an_integer ns) n (integer z)) (sym (to_z-of_z w128 c.in-Some.number f))
    (number_made ns n c.in-Some.number (sym c.number_in.ensures ∙ c.in-Some.is))

pub returns-in-Some-number : goal.returns-in-Some-number
returns-in-Some-number c =
    let n = tree_of c.args.notation.now in
    let ns = numbers_listed (kind_of c.args.shape.now) in
    let f : SFits w128 c.in-Some-number.number = search rules in
    subst (λ (z : ℤ). IsLeafNotation (an_integer ns) n (integer z)) (sym
    (to_z-of_z w128 c.in-Some-number.number f))
    (named_made ns n _ c.in-Some-number.number
    (sym c.name_in.ensures ∙ ap (option_map (λ x. x.now)) c.in-Some-name_in.is)
    (sym c.number.ensures ∙ c.in-Some-number.is))

pub returns-in-None : goal.returns-in-None
returns-in-None c =
    let n = tree_of c.args.notation.now in
    let none = sym c.name_in.ensures ∙ ap (option_map (λ x. x.now)) c.in-None.is in
    no_integer (numbers_listed (kind_of c.args.shape.now)) n (sym c.number_in.ensures ∙ c.in_default.is)
    (λ x e. let f = sym none ∙ e in absurd cc)
