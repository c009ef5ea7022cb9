use Rattle.std.proofs.Common.{◌∷◌, subst}
use Rattle.octet_answers.specs.States.{ended}
use Rattle.ber_source.specs.Wants.{Wants}
use Rattle.ber_source.proofs.build.end.Goals as goal

pub returns : goal.returns
returns c m w ts i =
    let l = subst (λ q. Wants c.args.code.now m w (ended ∷ ts) c.args.build.now.number q i.building) c.if-build.false i.wants in
    record { building = l.building; holds = c.close.ensures i.building l.building l.wait l.waits l.tree i.holds l.closed; wants = l.then }
