use Rattle.std.proofs.Common.{ap, ◌∙◌}
use Rattle.asn_base.specs.Seen.{constraint_of}
use Rattle.bits.specs.Left.{bits_left}
use Rattle.packed_readings.specs.Outcome.{found}
use Rattle.packed_readings.proofs.Light.{free_at_once}
use Rattle.packed_readings.proofs.free.count_characters.Goals as goal

pub returns-in-Ok-AtOnce : goal.returns-in-Ok-AtOnce
returns-in-Ok-AtOnce c =
    free_at_once (constraint_of c.args.constraint.now) c.in-Ok-AtOnce.count (bits_left c.args.bits.now) (bits_left c.read_size.new.bits)
    (c.in-Ok-AtOnce.ensures ∙ ap (λ z. found z (bits_left c.read_size.new.bits)) c.in-Ok-AtOnce.field-0-is)
