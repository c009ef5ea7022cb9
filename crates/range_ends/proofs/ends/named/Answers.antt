use Rattle.std.proofs.Common.{◌≡◌, None, ap, sym, ◌∙◌, option_map}
use Rattle.trees.specs.Names.{reference_module, reference_name}
use Rattle.names.specs.Names.{under}
use Rattle.type_table.specs.Seen.{kind_of}
use Rattle.resolve.specs.Listed.{numbers_listed}
use Rattle.range_ends.specs.Ends.{named}
use Rattle.range_ends.proofs.Alone.{named_alone, named_after}
use Rattle.range_ends.proofs.ends.named.Goals as goal

pub returns-in-None : goal.returns-in-None
returns-in-None c =
    let k = kind_of c.args.shape.now in
    let x = reference_name c.args.reference.now in
    let alone : reference_module c.args.reference.now ≡ None = sym c.module.ensures ∙ ap (option_map (λ y. y.now)) c.in-None.is in
    c.number.ensures ∙ ap (λ y. under y (numbers_listed k)) c.name.ensures ∙ sym (named_alone k x)
    ∙ ap (λ q. named k q x) (sym alone)

pub returns-in-Some : goal.returns-in-Some
returns-in-Some c =
    let k = kind_of c.args.shape.now in
    let x = reference_name c.args.reference.now in
    let after = sym c.module.ensures ∙ ap (option_map (λ y. y.now)) c.in-Some.is in
    sym (named_after k c.in-Some.field-0.now x) ∙ ap (λ q. named k q x) (sym after)
