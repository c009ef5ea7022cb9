use Rattle.packed_counts.proofs.Parts.{at_once, part, at_most, some}
use Rattle.packed_counts.proofs.law.count_laws.Goals as goal

pub returns : goal.returns
returns c = record { at_once = at_once; part = part; at_most = at_most; some = some }
