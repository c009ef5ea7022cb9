use Rattle.std.proofs.Common.{ap, ◌∙◌}
use Rattle.views.specs.Tree.{component}
use Rattle.views.proofs.Shown.{same_value, value_found}
use Rattle.views.proofs.value_kind.ValueRefValueNode.take_component.Goals as goal

pub returns-clause-found : goal.returns-clause-found
returns-clause-found c = value_found c.args.fields.now c.args.place _ c.take_component.ensures.found

pub returns-clause-later : goal.returns-clause-later
returns-clause-later c = λ j l.
    same_value _ c.args.fields.now j (ap (λ q. component q j) c.take_component.ensures.left ∙ c.lemma_taken_members.ensures.later c.args.place j c.args.fields.now l)
