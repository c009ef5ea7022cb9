use Rattle.std.proofs.Common.{◌≡◌, None, map, take}
use Rattle.asn_base.specs.Seen.{alternative_of}
use Rattle.value_builders.specs.Named.{place_of, alternative_names}
use Rattle.value_builders.proofs.names.alternative_place.Given as goal

abbrev pub invariant-loop-i : goal.invariant-loop-i
invariant-loop-i l = place_of (take l.i (alternative_names (map alternative_of l.alternatives))) l.name ≡ None
