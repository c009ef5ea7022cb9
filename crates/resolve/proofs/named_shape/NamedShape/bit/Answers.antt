use Rattle.std.proofs.Common.{◌≡◌, map, None, Some, sym, subst, ap, ◌∙◌, rules}
use Rattle.trees.specs.Types.{bit_of, a_bit_string}
use Rattle.names.specs.Modules.{OccursIn}
use Rattle.names.specs.Names.{under}
use Rattle.type_table.specs.declared.table.Shape.TheVariants as shapes
use Rattle.type_table.specs.Seen.{kind_of}
use Rattle.type_table.specs.Table.{simple}
use Rattle.resolve.specs.Listed.{IsPlaceOf, bits_listed, listed_names}
use Rattle.resolve.proofs.ListedNames.{entry_at, under_nowhere}
use Rattle.resolve.proofs.named_shape.NamedShape.bit.Goals as goal

pub returns-in-None : goal.returns-in-None
returns-in-None c =
    let x = c.args.name.now in
    let all = map bit_of c.in-BitString.bits.items in
    let is : kind_of c.args.self.now ≡ simple (a_bit_string all) =
    ap kind_of (sym c.self.view_is ∙ c.in-Simple.is ∙ ap shapes.Simple c.in-BitString.is) in
    let lost = subst (λ k. OccursIn (listed_names k) x → ⊥) is c.in-None.ensures in
    sym (subst (λ k. under x (bits_listed k) ≡ None) (sym is) (under_nowhere x all lost))

pub returns-in-Some : goal.returns-in-Some
returns-in-Some c =
    let x = c.args.name.now in
    let xs = c.in-BitString.bits.items in
    let is : kind_of c.args.self.now ≡ simple (a_bit_string (map bit_of xs)) =
    ap kind_of (sym c.self.view_is ∙ c.in-Simple.is ∙ ap shapes.Simple c.in-BitString.is) in
    let place = subst (λ k. IsPlaceOf (listed_names k) x (Some c.in-Some.place)) is c.in-Some.ensures in
    let found : under x (bits_listed (kind_of c.args.self.now)) ≡ Some c.index.result.now.place =
    subst (λ k. under x (bits_listed k) ≡ Some c.index.result.now.place) (sym is)
    (entry_at bit_of xs x c.in-Some.place c.index.result.now place.0 place.1 c.index.ensures) in
    search rules
