use Rattle.std.proofs.Common.{ap, ◌∙◌}
use Rattle.asn_base.specs.Abstract.{fields, row_of_options}
use Rattle.typed_values.proofs.Shown.{options_shown}
use Rattle.typed_values.proofs.outcome.ValueOutcome.fields.Goals as goal

pub returns : goal.returns
returns c = λ vs z. c.lemma_abstract_values.ensures.fields_ c.args.components ∙ ap (λ us. fields (row_of_options us)) (options_shown c.args.components.items vs z)
