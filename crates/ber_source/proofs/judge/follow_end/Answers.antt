use Rattle.std.proofs.Common.{true, false, refl, ap, sym, ◌∙◌}
use Rattle.octet_answers.specs.States.{ended}
use Rattle.ber_source.proofs.Fitting.{knows_more}
use Rattle.ber_source.proofs.Windows.{false_true}
use Rattle.ber_source.proofs.judge.follow_end.Goals as goal

pub returns-then-not-judge : goal.returns-then-not-judge
returns-then-not-judge c ts i =
    let j = c.args.judge.now in
    knows_more c.args.code.now j j ts ended i (ap (λ q. record { type = j.last; fresh = q }) (sym c.if-not-judge.true)) (λ h. (h, λ f. false_true (sym c.if-not-judge.true ∙ f)))

pub returns : goal.returns
returns c ts i =
    let j = c.args.judge.now in
    knows_more c.args.code.now j (record { last = j.last; fresh = false; fits = c.both-judge.result }) ts ended i refl (λ h. let q = c.both-judge.ensures h in (q.0, λ f. c.may_be_empty-may.ensures q.1))
