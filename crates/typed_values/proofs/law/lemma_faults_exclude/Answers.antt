use Rattle.typed_values.proofs.Excluding.{occurs_none}
use Rattle.typed_values.proofs.law.lemma_faults_exclude.Goals as goal

pub returns : goal.returns
returns c = λ w levels left i os M n f v apart sound s m h a b.
    occurs_none w (record { apart = apart; sound = sound }) c.one_value.ensures
    c.lemma_wrong_have_no_value.ensures s m h a b
