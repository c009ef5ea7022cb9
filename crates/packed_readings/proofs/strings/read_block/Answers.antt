use Rattle.std.proofs.Common.{subst}
use Rattle.std.specs.Int.Digits.{AllBelowBase}
use Rattle.bits.specs.Left.{bits_left}
use Rattle.packed_readings.proofs.Steps.{octets_taken}
use Rattle.packed_readings.proofs.strings.read_block.Goals as goal

pub returns-in-Ok-clause-ok : goal.returns-in-Ok-clause-ok
returns-in-Ok-clause-ok c =
    octets_taken c.args.count c.args.out.now.items c.take_octets.new.out.items (bits_left c.args.bits.now) (bits_left c.take_octets.new.self)
    (subst (AllBelowBase 256) c.as_slice.ensures.value c.are_octets.ensures) c.in-Ok.ensures.ok
