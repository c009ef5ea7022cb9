use Rattle.std.proofs.Common.{map, take}
use Rattle.asn_base.specs.Seen.{range_of as seen_of}
use Rattle.trees.specs.Constraints.{range_of}
use Rattle.type_table.specs.Seen.{kind_of}
use Rattle.range_ends.specs.Answers.{AreRangesOf}
use Rattle.range_ends.proofs.written_ranges.ranges_at.Given as goal

abbrev pub invariant-loop-range : goal.invariant-loop-range
invariant-loop-range l =
    AreRangesOf l.site.scope.now.program (kind_of l.site.shape.now) l.site.within.now l.site.of
    (take l.range-index (map range_of l.ranges)) (map seen_of l.all.items)
