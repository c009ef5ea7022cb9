use Rattle.asn_base.specs.Seen.{types_of}
use Rattle.extensions.specs.proving.Tables.{AreEach, IsResolved}
use Rattle.extensions.proofs.each_type.all_types.Given as goal

abbrev pub invariant-loop-index : goal.invariant-loop-index
invariant-loop-index l = AreEach (IsResolved l.bounded.program) l.index (types_of l.types.items)
