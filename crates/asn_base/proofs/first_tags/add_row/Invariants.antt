use Rattle.std.proofs.Common.{◌≡◌, ◌++◌, drop}
use Rattle.asn_base.specs.proving.Firsts.{flat, in_one}
use Rattle.asn_base.proofs.first_tags.add_row.Given as goal

abbrev pub invariant-loop-i : goal.invariant-loop-i
invariant-loop-i l = l.keys.items ++ flat l.types (drop l.i (in_one l.row)) ≡ l.fn.keys.items ++ flat l.types (in_one l.row)
