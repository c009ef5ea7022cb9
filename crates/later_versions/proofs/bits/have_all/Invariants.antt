use Rattle.std.proofs.Common.{map}
use Rattle.asn_base.specs.Seen.{named_bit_of}
use Rattle.later_versions.proofs.Placing.{HasTo}
use Rattle.later_versions.proofs.bits.have_all.Given as goal

abbrev pub invariant-loop-i : goal.invariant-loop-i
invariant-loop-i l = HasTo (map named_bit_of l.bits) (map named_bit_of l.others) l.i
