use Rattle.std.proofs.Common.{sym, ◌∙◌}
use Rattle.bits.specs.Left.{bits_left}
use Rattle.packed_readings.proofs.Septets.{oid_answer}
use Rattle.packed_readings.proofs.arcs.read_object_identifier.Goals as goal

pub returns-in-Ok-object_arcs-clause-ok : goal.returns-in-Ok-object_arcs-clause-ok
returns-in-Ok-object_arcs-clause-ok c =
    let t = c.in-Ok-judge_object_identifier.ensures.ok in
    let e = sym c.as_slice.ensures.value ∙ t.2 in
    oid_answer (bits_left c.args.bits.now) (bits_left c.read_octets.new.bits) c.in-Ok.octets.items t.0 c.in-Ok-object_arcs.numbers.items c.in-Ok.ensures.ok t.1 e
    (c.in-Ok-object_arcs.ensures t.0 t.1 (c.as_slice-2.ensures.value ∙ e))
