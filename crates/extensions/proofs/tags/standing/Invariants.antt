use Rattle.std.proofs.Common.{◌≡◌, ◌++◌, map, drop}
use Rattle.tagging.specs.Tags.{label, path_of}
use Rattle.settled.specs.Settled.{standing}
use Rattle.extensions.specs.proving.Cores.{tags_after}
use Rattle.extensions.proofs.tags.standing.Given as goal

abbrev pub invariant-loop-formed : goal.invariant-loop-formed
invariant-loop-formed l =
    map label l.tags.items ++ tags_after l.replaced (path_of (drop l.formed-index l.path)) ≡ standing (path_of l.path)
