use Rattle.std.proofs.Common.{drop}
use Rattle.std.specs.Prelude.{◌↔◌}
use Rattle.asn_base.specs.Names.{IsMember}
use Rattle.asn_base.proofs.alphabet.has_code.Given as goal

abbrev pub invariant-loop-i : goal.invariant-loop-i
invariant-loop-i l = IsMember l.code l.alphabet ↔ IsMember l.code (drop l.i l.alphabet)
