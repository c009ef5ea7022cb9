use Rattle.std.proofs.Common.{ap, sym, ◌∙◌, arith, Some}
use Rattle.trees.specs.Values.{name_at}
use Rattle.trees.specs.Types.{numbered_name}
use Rattle.trees.specs.declared.types.NamedNumber.{NamedNumber}
use Rattle.resolve.proofs.ListedNames.{name_here, no_name}
use Rattle.resolve.proofs.name_index.number_name.Goals as goal

pub returns-then-place-numbers : goal.returns-then-place-numbers
returns-then-place-numbers c =
    let r = c.index-numbers-place.result in
    ap Some c.as_str.ensures.value ∙ ap (λ (z : NamedNumber). Some (name_at z.name)) (sym c.index-numbers-place.is)
    ∙ sym (name_here numbered_name (λ e. e.0) c.args.numbers.now c.args.place r (omega (arith, c.if-place-numbers.true)) c.index-numbers-place.is)

pub returns-else-place-numbers : goal.returns-else-place-numbers
returns-else-place-numbers c =
    sym (no_name numbered_name (λ e. e.0) c.args.numbers.now c.args.place (omega (arith, c.if-place-numbers.false)))
