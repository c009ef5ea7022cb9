use Rattle.std.proofs.Common.{sym, ◌∙◌}
use Rattle.bits.specs.Left.{bits_left}
use Rattle.packed_readings.proofs.Septets.{relative_answer}
use Rattle.packed_readings.proofs.arcs.read_relative_oid.Goals as goal

pub returns-in-Ok-relative_arcs-clause-ok : goal.returns-in-Ok-relative_arcs-clause-ok
returns-in-Ok-relative_arcs-clause-ok c =
    let t = c.in-Ok-judge_relative_oid.ensures.ok in
    let e = sym c.as_slice.ensures.value ∙ t.2 in
    relative_answer (bits_left c.args.bits.now) (bits_left c.read_octets.new.bits) c.in-Ok.octets.items t.0 c.in-Ok-relative_arcs.numbers.items c.in-Ok.ensures.ok t.1 e
    (c.in-Ok-relative_arcs.ensures t.0 t.1 (c.as_slice-2.ensures.value ∙ e))
