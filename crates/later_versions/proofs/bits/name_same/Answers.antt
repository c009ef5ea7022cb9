use Rattle.std.proofs.Common.{map}
use Rattle.asn_base.specs.Seen.{named_bit_of}
use Rattle.later_versions.proofs.Fronts.{yes}
use Rattle.later_versions.proofs.Placing.{named_alike}
use Rattle.later_versions.proofs.bits.name_same.Goals as goal

pub returns-then-are_same : goal.returns-then-are_same
returns-then-are_same c =
    yes (named_alike (map named_bit_of c.args.bits.now) (map named_bit_of c.args.others.now) (c.are_same.ensures c.if-are_same.true))
