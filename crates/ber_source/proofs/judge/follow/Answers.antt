use Rattle.std.proofs.Common.{refl, ap, subst, sym, [], ◌∷◌, ◌++◌}
use Rattle.octet_answers.specs.States.{component, chosen, passed}
use Rattle.ber_source.specs.Seen.{as_token}
use Rattle.ber_source.specs.Fits.{IsJudge}
use Rattle.ber_source.proofs.Fitting.{knows_more}
use Rattle.ber_source.proofs.judge.follow.Goals as goal

pub returns-in-Component : goal.returns-in-Component
returns-in-Component c ts i =
    let j = c.args.judge.now in
    subst (λ q. IsJudge c.args.code.now j (ts ++ as_token q ∷ [])) (sym c.in-Component.is) (knows_more c.args.code.now j j ts (component c.in-Component.field-0) i refl (λ h. (h, tt)))

pub returns-in-Chosen : goal.returns-in-Chosen
returns-in-Chosen c ts i =
    let j = c.args.judge.now in
    subst (λ q. IsJudge c.args.code.now j (ts ++ as_token q ∷ [])) (sym c.in-Chosen.is) (knows_more c.args.code.now j j ts (chosen c.in-Chosen.field-0) i refl (λ h. (h, tt)))

pub returns-in-Passed : goal.returns-in-Passed
returns-in-Passed c ts i =
    let j = c.args.judge.now in
    subst (λ q. IsJudge c.args.code.now j (ts ++ as_token q ∷ [])) (sym c.in-Passed.is) (knows_more c.args.code.now j j ts passed i refl (λ h. (h, tt)))
