use Rattle.std.proofs.Common.{sym, ◌∙◌}
use Rattle.typed_values.proofs.Excluding.{IsKept}
use Rattle.typed_values.proofs.OneSite.{at_one}
use Rattle.typed_values.proofs.OneCause.{one_cause}
use Rattle.typed_values.proofs.law.one_place.Goals as goal

pub returns : goal.returns
returns c = λ w levels left i os M n f g apart sound s t a b.
    let kept : IsKept w.program = record { apart = apart; sound = sound } in
    let one = c.one_value.ensures in
    let wrong = c.lemma_wrong_have_no_value.ensures in
    let x = at_one w kept one wrong c.lemma_arranged_alone.ensures s t a b in
    record {
      within = x.here.within ∙ sym x.there.within;
      type = x.here.type ∙ sym x.there.type;
      notation = x.here.notation ∙ sym x.there.notation;
      cause = one_cause w kept one wrong c.lemma_one_names_fault.ensures x.levels x.left x.opened x.within x.type x.notation f.cause
          g.cause a b x.here.enough x.there.enough x.here.caused x.there.caused;
    }
