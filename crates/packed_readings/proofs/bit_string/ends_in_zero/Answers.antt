use Rattle.packed_readings.proofs.BitsRead.{last_bit}
use Rattle.packed_readings.proofs.bit_string.ends_in_zero.Goals as goal

pub returns-in-Some : goal.returns-in-Some
returns-in-Some c =
    last_bit c.args.octets.now c.in-Some.field-0-1.now c.in-Some.last.now c.args.unused c.bit_before.result c.requires c.are_octets.ensures
    c.in-Some.ensures.cases.0 c.bit_before.ensures
