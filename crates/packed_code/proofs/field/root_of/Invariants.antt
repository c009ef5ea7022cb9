use Rattle.std.proofs.Common.{◌≡◌, ◌++◌, map, drop}
use Rattle.asn_base.specs.Seen.{component_of}
use Rattle.packed_encodings.specs.Orders.{root_members}
use Rattle.packed_code.specs.Placed.{placed_of}
use Rattle.packed_code.specs.Routines.{placed_from}
use Rattle.packed_code.proofs.field.root_of.Given as goal

abbrev pub invariant-loop-place : goal.invariant-loop-place
invariant-loop-place l =
    map placed_of l.root.items ++ root_members (placed_from l.place (map component_of (drop l.place l.components)))
    ≡ root_members (placed_from 0 (map component_of l.components))
