use Rattle.std.proofs.Common.{arith, ◌<◌, ◌/◌, length}
use Rattle.std.specs.Int.Digits.{digits_of}
use Rattle.primitive_writer.proofs.Digits.{room_256, pushed_length, length_high}
use Rattle.primitive_writer.proofs.buffer.+push_digits.Goals as goal

pub push-requires : goal.push-requires
push-requires t c =
    let above : 0 < c.args.number = omega arith in
    let room : length c.push_digits.new.out.items < 24 = omega (arith, c.requires, room_256 c.args.number above, pushed_length c.push_digits.new.out.items c.args.out.now.items (digits_of 256 (c.args.number / 256)) c.push_digits.ensures, length_high (c.args.number / 256)) in
    (omega arith, room)
