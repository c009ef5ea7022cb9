use Rattle.std.proofs.Common.{◌≡◌, length}
use Rattle.codec_code.specs.Summaries.{AreSummaries}
use Rattle.codec_code.proofs.build.all_summaries.Given as goal

abbrev pub invariant-loop-i : goal.invariant-loop-i
invariant-loop-i l = record {
  as_many : length l.summaries.items ≡ l.i;
  are : AreSummaries l.schema l.summaries.items;
}
