use Rattle.std.proofs.Common.{◌≡◌, map, None, Some, sym, subst, ap, ◌∙◌, rules}
use Rattle.trees.specs.Types.{numbered_name, an_integer}
use Rattle.names.specs.Modules.{OccursIn}
use Rattle.names.specs.Names.{under}
use Rattle.type_table.specs.declared.table.Shape.TheVariants as shapes
use Rattle.type_table.specs.Seen.{kind_of}
use Rattle.type_table.specs.Table.{simple}
use Rattle.resolve.specs.Listed.{IsPlaceOf, numbers_listed, listed_names}
use Rattle.resolve.proofs.ListedNames.{entry_at, under_nowhere}
use Rattle.resolve.proofs.named_shape.NamedShape.number.Goals as goal

pub returns-in-None : goal.returns-in-None
returns-in-None c =
    let x = c.args.name.now in
    let all = map numbered_name c.in-Integer.numbers.items in
    let is : kind_of c.args.self.now ≡ simple (an_integer all) =
    ap kind_of (sym c.self.view_is ∙ c.in-Simple.is ∙ ap shapes.Simple c.in-Integer.is) in
    let lost = subst (λ k. OccursIn (listed_names k) x → ⊥) is c.in-None.ensures in
    sym (subst (λ k. under x (numbers_listed k) ≡ None) (sym is) (under_nowhere x all lost))

pub returns-in-Some : goal.returns-in-Some
returns-in-Some c =
    let x = c.args.name.now in
    let xs = c.in-Integer.numbers.items in
    let is : kind_of c.args.self.now ≡ simple (an_integer (map numbered_name xs)) =
    ap kind_of (sym c.self.view_is ∙ c.in-Simple.is ∙ ap shapes.Simple c.in-Integer.is) in
    let place = subst (λ k. IsPlaceOf (listed_names k) x (Some c.in-Some.place)) is c.in-Some.ensures in
    let found : under x (numbers_listed (kind_of c.args.self.now)) ≡ Some c.index.result.now.number =
    subst (λ k. under x (numbers_listed k) ≡ Some c.index.result.now.number) (sym is)
    (entry_at numbered_name xs x c.in-Some.place c.index.result.now place.0 place.1 c.index.ensures) in
    search rules
