use Rattle.std.proofs.Common.{◌≡◌, subst}
use Rattle.std.specs.Prelude.{IfOk}
use Rattle.ber_reader.specs.Opened.{opens}
use Rattle.ber_reader.proofs.follower.Follower.into_values.Goals as goal

pub returns : goal.returns
returns c =
    subst (λ q. IfOk c.finish.result (λ list. list.items ≡ opens q.state.emitted)) c.self.view_is (c.finish.ensures c.self.inside.place.code.now c.self.invariant.suited)
