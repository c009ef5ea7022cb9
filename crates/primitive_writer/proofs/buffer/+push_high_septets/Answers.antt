use Rattle.std.proofs.Common.{arith, ◌<◌, ◌/◌, ◌+◌, length, map}
use Rattle.std.specs.Int.Digits.{digits_of}
use Rattle.primitive_writer.proofs.Digits.{room_128, pushed_length, length_high}
use Rattle.primitive_writer.proofs.buffer.+push_high_septets.Goals as goal

pub push-requires : goal.push-requires
push-requires t c =
    let above : 0 < c.args.number = omega arith in
    let room : length c.push_high_septets.new.out.items < 24 = omega (arith, c.requires, room_128 c.args.number above, pushed_length c.push_high_septets.new.out.items c.args.out.now.items (map (λ d. 128 + d) (digits_of 128 (c.args.number / 128))) c.push_high_septets.ensures, length_high (c.args.number / 128)) in
    (omega arith, room)
