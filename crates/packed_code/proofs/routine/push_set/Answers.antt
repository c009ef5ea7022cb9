use Rattle.std.proofs.Common.{subst, sym, map}
use Rattle.asn_base.specs.Seen.{component_of, types_of}
use Rattle.packed_code.specs.Placed.{AreTagged}
use Rattle.packed_code.proofs.Canonical.{root_tagged}
use Rattle.packed_code.proofs.routine.push_set.Goals as goal

pub in_order-requires : goal.in_order-requires
in_order-requires c =
    rw c.as_slice.ensures.value (subst (AreTagged (types_of c.args.types.now)) (sym c.in_ok-root.ensures)
    (root_tagged (types_of c.args.types.now) 0 (map component_of c.args.components.now) c.requires))
