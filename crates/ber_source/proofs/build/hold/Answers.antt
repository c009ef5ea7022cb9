use Rattle.views.specs.Building.{with_leaf}
use Rattle.ber_source.proofs.build.hold.Goals as goal

pub returns : goal.returns
returns c m w ts i =
    let l = i.wants in
    let q = c.in_ok-push_held.ensures l.value i.building l.held i.holds in
    record { building = with_leaf c.args.build.now.number q.0 i.building; holds = q.3; wants = l.then q.0 q.1 q.2 }
