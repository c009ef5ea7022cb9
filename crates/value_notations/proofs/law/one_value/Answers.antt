use Rattle.value_notations.proofs.SameValue.{one_notation}
use Rattle.value_notations.proofs.law.one_value.Goals as goal

pub returns : goal.returns
returns c = λ p os M i n v w apart sound a b. one_notation (record { apart = apart; sound = sound }) a b
