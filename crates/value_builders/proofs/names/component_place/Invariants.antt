use Rattle.std.proofs.Common.{◌≡◌, None, map, take}
use Rattle.asn_base.specs.Seen.{component_of}
use Rattle.value_builders.specs.Named.{place_of, component_names}
use Rattle.value_builders.proofs.names.component_place.Given as goal

abbrev pub invariant-loop-i : goal.invariant-loop-i
invariant-loop-i l = place_of (take l.i (component_names (map component_of l.components))) l.name ≡ None
