use Rattle.std.proofs.Common.{◌≡◌, ◌++◌, map, drop}
use Rattle.asn_base.specs.Seen.{component_of}
use Rattle.packed_encodings.specs.Orders.{past_marker}
use Rattle.packed_code.specs.Placed.{placed_of}
use Rattle.packed_code.specs.Routines.{placed_from}
use Rattle.packed_code.proofs.field.past_marker.Given as goal

abbrev pub invariant-loop-place : goal.invariant-loop-place
invariant-loop-place l =
    map placed_of l.additions.items ++ past_marker (placed_from l.place (map component_of (drop l.place l.components)))
    ≡ past_marker (placed_from 0 (map component_of l.components))
