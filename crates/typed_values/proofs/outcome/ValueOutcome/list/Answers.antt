use Rattle.std.proofs.Common.{ap, ◌∙◌}
use Rattle.asn_base.specs.Abstract.{list, row_of_list}
use Rattle.typed_values.proofs.Shown.{values_shown}
use Rattle.typed_values.proofs.outcome.ValueOutcome.list.Goals as goal

pub returns : goal.returns
returns c = λ vs z. c.lemma_abstract_values.ensures.list_ c.args.elements ∙ ap (λ us. list (row_of_list us)) (values_shown c.args.elements.items vs z)
