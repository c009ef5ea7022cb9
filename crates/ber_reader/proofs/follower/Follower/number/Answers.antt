use Rattle.std.proofs.Common.{◌≡◌, ap, subst, sym, ◌∙◌}
use Rattle.ber_source.specs.Log.{logged}
use Rattle.ber_reader.specs.Followed.{number_or}
use Rattle.ber_reader.specs.Paths.{begun_in}
use Rattle.ber_reader.proofs.follower.Follower.number.Goals as goal

pub returns-in-None : goal.returns-in-None
returns-in-None c =
    let p = c.self.inside.place in
    subst (λ q. c.in_ok-begun.begun ≡ number_or (begun_in q.state.emitted) q.before) c.self.view_is
    (c.in_ok-begun.ensures.begun p.code.now c.self.invariant.suited ∙ ap (number_or (begun_in (logged p.emitted.log))) (sym c.in-None.is))
