use Rattle.std.proofs.Common.{length, pos, subst}
use Rattle.asn_base.specs.Schemas.{IsSize}
use Rattle.asn_base.specs.Seen.{constraint_of}
use Rattle.asn_base.specs.Types.{an_octet_string}
use Rattle.asn_base.specs.Typed.{IsPrimitive}
use Rattle.packed_leaves.proofs.Bounds.{has_least, in_bounds}
use Rattle.packed_leaves.proofs.Values.{octets_allowed}
use Rattle.packed_leaves.proofs.octets.push_octet_string.Goals as goal

pub push_size-requires-clause-least : goal.push_size-requires-clause-least
push_size-requires-clause-least c = has_least (constraint_of c.args.size.now) c.requires.bounds

pub push_size-requires-clause-allowed : goal.push_size-requires-clause-allowed
push_size-requires-clause-allowed c =
    in_bounds IsSize (constraint_of c.args.size.now) (pos (length c.octets-octets.result.now)) c.requires.bounds tt
    (octets_allowed (subst (IsPrimitive (an_octet_string (constraint_of c.args.size.now))) c.octets-octets.ensures c.requires.fits))
