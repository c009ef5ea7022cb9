use Rattle.std.proofs.Common.{subst, ap, ◌∙◌}
use Rattle.std.specs.Int.Digits.{AllBelowBase}
use Rattle.bits.specs.Left.{bits_left}
use Rattle.packed_readings.specs.Outcome.{found}
use Rattle.packed_readings.proofs.BitsRead.{at_once_bits, at_once_none, value_bits}
use Rattle.packed_readings.proofs.bit_string.read_bits_at_once.Goals as goal

pub of-requires-clause-unused_in_octets : goal.of-requires-clause-unused_in_octets
of-requires-clause-unused_in_octets c =
    at_once_none c.args.count c.in-Ok.unused (bits_left c.args.bits.now) (bits_left c.read_bits.new.bits) c.new-out.result.items c.read_bits.new.out.items
    c.new-out.ensures.items c.in-Ok.ensures.ok

pub returns-in-Ok-clause-ok : goal.returns-in-Ok-clause-ok
returns-in-Ok-clause-ok c =
    at_once_bits c.args.count c.in-Ok.unused (bits_left c.args.bits.now) (bits_left c.read_bits.new.bits) c.new-out.result.items c.read_bits.new.out.items
    c.new-out.ensures.items c.in-Ok.ensures.ok (subst (AllBelowBase 256) c.as_slice.ensures.value c.are_octets.ensures)
    ∙ ap (λ q. found q (bits_left c.read_bits.new.bits)) (value_bits c.of.result c.read_bits.new.out c.in-Ok.unused c.of.ensures.octets c.of.ensures.unused)
