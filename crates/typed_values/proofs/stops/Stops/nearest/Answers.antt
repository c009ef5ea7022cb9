use Rattle.std.proofs.Common.{sym, ◌∙◌, subst}
use Rattle.std.proofs.lemmas.Option.{same_Some}
use Rattle.typed_values.specs.Chains.{Has}
use Rattle.typed_values.proofs.Branches.{found_too}
use Rattle.typed_values.proofs.stops.Stops.nearest.Goals as goal

pub returns-in-Some-clause-none : goal.returns-in-Some-clause-none
returns-in-Some-clause-none c = λ i y n h.
    let same = same_Some c.in-Some.number i (sym c.in-Some.is ∙ c.number.ensures ∙ n) in
    let s = c.args.self.now in
    found_too s.branches.items s.height c.args.tree c.in-Some.number y c.found.result c.found.ensures
    (subst (λ j. Has c.args.self.now.branches.items c.args.self.now.height c.args.tree j y) (sym same) h)
