use Rattle.std.proofs.Common.{◌≡◌, false, drop}
use Rattle.asn_base.specs.Names.{goes_on}
use Rattle.asn_base.proofs.name.goes_on.Given as goal

abbrev pub invariant-loop-i : goal.invariant-loop-i
invariant-loop-i l = goes_on false l.octets ≡ goes_on l.after_hyphen (drop l.i l.octets)
