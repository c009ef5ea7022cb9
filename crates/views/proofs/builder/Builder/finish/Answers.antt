use Rattle.views.specs.Seen.{side_lists}
use Rattle.views.proofs.Readings.{built_seen}
use Rattle.views.proofs.builder.Builder.finish.Goals as goal

pub returns : goal.returns
returns c t h =
    let b = c.args.self in
    built_seen (side_lists b.lists) b.nodes.items b.headers.items t h
