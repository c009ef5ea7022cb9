use Rattle.later_versions.proofs.Tracking.{met_at, tracked_difference}
use Rattle.later_versions.proofs.versions.difference.Goals as goal

pub returns : goal.returns
returns c = λ s s' t t' p paths are led e d first.
    tracked_difference s t s' t' c.args.list.now paths c.args.at p _ led (c.in_ok-places.ensures paths are) e
    (met_at c.args.list.now c.args.at _ c.requires.within) d first
