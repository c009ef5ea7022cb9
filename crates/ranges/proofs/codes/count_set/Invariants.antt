use Rattle.std.proofs.Common.{◌≡◌, ◌+◌, ◌-◌, ◌≤◌, length}
use Rattle.ranges.specs.Codes.{codes_from, codes_of}
use Rattle.ranges.proofs.codes.count_set.Given as goal

-- what was counted and what is left are all
abbrev pub invariant-loop-code : goal.invariant-loop-code
invariant-loop-code l =
    (l.count + length (codes_from (128 - l.code) l.bits) ≡ length (codes_of l.bits)) × (l.count ≤ l.code)
