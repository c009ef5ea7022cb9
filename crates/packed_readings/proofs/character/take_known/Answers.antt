use Rattle.std.proofs.Common.{◌/◌, ◌^◌}
use Rattle.bits.specs.Left.{bits_left}
use Rattle.packed_readings.proofs.Known.{enough, known_found, known_stops}
use Rattle.packed_readings.proofs.character.take_known.Goals as goal

pub skip-requires : goal.skip-requires
skip-requires c = enough c.args.alphabet.width (c.args.number / 2 ^ c.args.after) (bits_left c.args.bits.now) c.requires.known

pub returns-in-Ok-clause-is : goal.returns-in-Ok-clause-is
returns-in-Ok-clause-is c =
    known_found c.args.alphabet.codes.now c.args.alphabet.width (c.args.number / 2 ^ c.args.after) c.in-Ok.code (bits_left c.args.bits.now)
    (bits_left c.skip.new.self) c.args.alphabet.wide c.requires.few c.requires.known c.in-Ok.ensures.ok c.skip.ensures

pub returns-in-Err-clause-is : goal.returns-in-Err-clause-is
returns-in-Err-clause-is c =
    known_stops c.args.alphabet.codes.now c.args.alphabet.width (c.args.number / 2 ^ c.args.after) c.in-Err.refusal (bits_left c.args.bits.now)
    c.args.alphabet.wide c.requires.few c.requires.known c.in-Err.ensures.err
