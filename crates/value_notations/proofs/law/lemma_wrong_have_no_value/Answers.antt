use Rattle.value_notations.proofs.SameValue.{IsKept}
use Rattle.value_notations.proofs.Excluding.{read_value, wrong_none}
use Rattle.value_notations.proofs.law.lemma_wrong_have_no_value.Goals as goal

pub returns : goal.returns
returns c = λ p os qs M K i j n m t v apart sound r w h.
    let kept : IsKept p = record { apart = apart; sound = sound } in
    let value = read_value kept r h in
    wrong_none kept w value.1
