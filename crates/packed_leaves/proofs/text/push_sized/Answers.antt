use Rattle.std.proofs.Common.{length, pos}
use Rattle.asn_base.specs.Schemas.{IsSize}
use Rattle.asn_base.specs.Seen.{constraint_of}
use Rattle.packed_leaves.proofs.Bounds.{has_least, in_bounds}
use Rattle.packed_leaves.proofs.text.push_sized.Goals as goal

pub push_size-requires-clause-least : goal.push_size-requires-clause-least
push_size-requires-clause-least c = has_least (constraint_of c.args.size.now) c.requires.bounds

pub push_size-requires-clause-allowed : goal.push_size-requires-clause-allowed
push_size-requires-clause-allowed c =
    in_bounds IsSize (constraint_of c.args.size.now) (pos (length c.args.text.now)) c.requires.bounds tt c.requires.allowed
