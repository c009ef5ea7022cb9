use Rattle.asn_base.specs.Seen.{constraint_of}
use Rattle.bits.specs.Left.{bits_left}
use Rattle.packed_readings.proofs.LeavesRead.{string_codes}
use Rattle.packed_readings.proofs.text.read_restricted_string.Goals as goal

pub ascii-requires : goal.ascii-requires
ascii-requires c =
    string_codes c.args.alphabet.now (constraint_of c.args.constraint.now) (bits_left c.args.bits.now) (bits_left c.read_sized.new.bits) c.in-Ok.codes.items
    c.requires.bounds c.requires.alphabet c.in-Ok.ensures.ok
