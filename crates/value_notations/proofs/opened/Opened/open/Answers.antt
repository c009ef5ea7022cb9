use Rattle.std.proofs.Common.{ℕ, List, ◌∷◌, ap, ◌∙◌, subst}
use Rattle.names.specs.Modules.{OccursIn}
use Rattle.value_notations.proofs.Opening.{opened_one}
use Rattle.value_notations.proofs.opened.Opened.open.Goals as goal

pub returns-clause-ok : goal.returns-clause-ok
returns-clause-ok c =
    let x = c.args.number in
    opened_one c.self.inside.numbers.keys c.insert.new.self.keys x
    (λ s. c.requires.fresh (subst (λ (z : List ℕ). OccursIn z x) c.self.view_is s)) c.in_ok-insert.ensures.keys
    ∙ ap (λ (z : List ℕ). x ∷ z) c.self.view_is
