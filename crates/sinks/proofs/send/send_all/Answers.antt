use Rattle.std.proofs.Common.{rules, ◌<◌, ◌∙◌}
use Rattle.sinks.proofs.Going.{gone_more}
use Rattle.sinks.proofs.send.send_all.Goals as goal

pub loop-at-preserved : goal.loop-at-preserved
loop-at-preserved g c =
    let some : 0 < c.in-Ok.count = search rules in (
      gone_more (g.S.Sink.taken c.args.sink.now) (g.S.Sink.taken c.loop-at.sink) (g.S.Sink.taken c.put.new.self) c.args.octets.now c.loop-at.at c.in-Ok.count c.loop-at.invariant.0 c.in-Ok.ensures.within c.in-Ok.ensures.takes,
      c.in-Ok.ensures.goes_on some ∙ c.loop-at.invariant.1,
    )
