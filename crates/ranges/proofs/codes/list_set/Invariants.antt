use Rattle.std.proofs.Common.{◌≡◌, ◌-◌, ◌++◌}
use Rattle.ranges.specs.Codes.{codes_from, codes_of}
use Rattle.ranges.proofs.codes.list_set.Given as goal

abbrev pub invariant-loop-code : goal.invariant-loop-code
invariant-loop-code l = l.all.items ++ codes_from (128 - l.code) l.bits ≡ codes_of l.bits
