use Rattle.std.proofs.Common.{ap, subst, ◌∙◌}
use Rattle.std.specs.Prelude.{IsUtf8}
use Rattle.packed_readings.proofs.text.text_of.Goals as goal

pub returns-in-Ok-clause-some : goal.returns-in-Ok-clause-some
returns-in-Ok-clause-some c = (
  ap (λ v. v.items) c.in-Ok.ensures.ok,
  subst IsUtf8 (c.as_str.ensures.value ∙ ap (λ v. v.items) c.in-Ok.ensures.ok) c.is_text.ensures,
)
