use Rattle.value_notations.proofs.Inversions.{not_alone}
use Rattle.value_notations.proofs.forms.only_number.Goals as goal

pub returns-in-len2-up : goal.returns-in-len2-up
returns-in-len2-up c = not_alone c.args.values.now c.in-len2-up.len_at_least
