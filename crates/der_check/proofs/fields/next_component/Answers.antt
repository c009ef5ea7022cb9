use Rattle.std.proofs.Common.{ap, sym, ◌∙◌}
use Rattle.std.specs.Prelude.{option_map}
use Rattle.views.specs.Tree.{component, value_of}
use Rattle.views.specs.proving.ComponentValues.{value_at}
use Rattle.der_check.proofs.fields.next_component.Goals as goal

pub returns-clause-found : goal.returns-clause-found
returns-clause-found c = λ l.
    value_at c.args.members.now c.args.place
    ∙ ap (option_map value_of) (sym (c.take_component.ensures.found ∙ ap (component c.args.members.now) (c.number_of.ensures l)))
