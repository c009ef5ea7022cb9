use mir.Syntax.{w128}
use Rattle.std.proofs.Common.{subst}
use Rattle.std.proofs.lemmas.Int.{to_z-of_z}
use Rattle.std.specs.Prelude.{◌↔◌, IsTrue}
use Rattle.asn_base.specs.Seen.{constraint_of}
use Rattle.asn_base.specs.Typed.{IsAllowed}
use Rattle.packed_readings.proofs.Ranges.{allowed_same}
use Rattle.packed_readings.proofs.range.is_allowed.Goals as goal

pub returns : goal.returns
returns c =
    allowed_same c.is_allowed.result (constraint_of c.args.constraint.now) c.args.number
    (subst (λ z. IsTrue c.is_allowed.result ↔ IsAllowed (constraint_of c.args.constraint.now) z) (to_z-of_z w128 c.args.number c.ranges.number) c.is_allowed.ensures)
