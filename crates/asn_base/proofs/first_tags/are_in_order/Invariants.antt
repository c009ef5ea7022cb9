use Rattle.std.proofs.Common.{drop, map}
use Rattle.std.specs.Prelude.{◌↔◌}
use Rattle.asn_base.specs.Seen.{alternative_of}
use Rattle.asn_base.specs.proving.Firsts.{IsHeadBefore}
use Rattle.asn_base.proofs.Ascending.{Adjacent}
use Rattle.asn_base.proofs.first_tags.are_in_order.Given as goal

abbrev pub invariant-loop-i : goal.invariant-loop-i
invariant-loop-i l = Adjacent (IsHeadBefore l.types) (map alternative_of l.alternatives) ↔ Adjacent (IsHeadBefore l.types) (drop l.i (map alternative_of l.alternatives))
