use Rattle.std.proofs.Common.{◌≡◌, drop}
use Rattle.std.specs.Prelude.{is_none}
use Rattle.std.specs.List.{list_any}
use Rattle.asn_base.proofs.bounds.are_open_below.Given as goal

abbrev pub invariant-loop-i : goal.invariant-loop-i
invariant-loop-i l = list_any (λ r. is_none r.least) l.ranges ≡ list_any (λ r. is_none r.least) (drop l.i l.ranges)
