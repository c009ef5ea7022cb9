use Rattle.std.proofs.Common.{arith}
use Rattle.typed_values.proofs.Found.{found_here}
use Rattle.typed_values.proofs.Readings.{means_as, stands_as}
use Rattle.typed_values.proofs.reading.whole.Goals as goal

pub returns-in-Ok-clause-value : goal.returns-in-Ok-clause-value
returns-in-Ok-clause-value t c =
    let r = c.in-Ok.ensures.is_read in
    let m = means_as c.new-opened.ensures (found_here r.read) in
    let counted = m.counted in
    record {
      value = r.value;
      shown = r.shown;
      typed = record { is_so = m.is_so; value = record { shaped = m.value; few_nodes = omega (arith, counted) } };
    }

pub returns-clause-fault : goal.returns-clause-fault
returns-clause-fault t c = stands_as c.new-opened.ensures c.in-Err.ensures.is_read
