use Rattle.std.proofs.Common.{◌≡◌, ◌++◌, drop}
use Rattle.der_layout.specs.Tables.{spans}
use Rattle.der_layout.proofs.spans.push_members.Given as goal

abbrev pub invariant-loop-i : goal.invariant-loop-i
invariant-loop-i l = l.out.items ++ spans l.octets (drop l.i l.members) ≡ l.fn.out.items ++ spans l.octets l.members
