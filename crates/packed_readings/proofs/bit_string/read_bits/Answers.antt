use Rattle.std.proofs.Common.{arith, ◌%◌, ◌∷◌, [], ◌++◌, refl, ap, ◌∙◌}
use Rattle.bits.specs.Left.{bits_left}
use Rattle.packed_readings.proofs.BitsRead.{bits_whole, bits_rest, rest_left}
use Rattle.packed_readings.proofs.bit_string.read_bits.Goals as goal

pub returns-then-rest-eq0-clause-ok : goal.returns-then-rest-eq0-clause-ok
returns-then-rest-eq0-clause-ok c =
    bits_whole c.args.count c.args.out.now.items c.take_octets.new.out.items (bits_left c.args.bits.now) (bits_left c.take_octets.new.self) c.in-Ok.ensures.ok
    c.if-rest-eq0.true

pub take-last-requires-clause-left : goal.take-last-requires-clause-left
take-last-requires-clause-left c =
    rest_left c.args.count c.args.out.now.items c.take_octets.new.out.items (bits_left c.args.bits.now) (bits_left c.take_octets.new.self) c.in-Ok.ensures.ok
    (omega (arith, c.if-len-count.false, c.len.ensures))

pub returns-in-Ok-push-clause-ok : goal.returns-in-Ok-push-clause-ok
returns-in-Ok-push-clause-ok c =
    bits_rest c.args.count (c.args.count % 8) c.take-last.result c.args.out.now.items c.take_octets.new.out.items c.push.new.self.items
    (bits_left c.args.bits.now) (bits_left c.take_octets.new.self) (bits_left c.take-last.new.self) c.in-Ok.ensures.ok refl c.if-rest-eq0.false
    c.take-last.ensures.taken c.take-last.ensures.small
    (c.in-Ok-push.ensures.items ∙ ap (λ q. c.take_octets.new.out.items ++ (q ∷ [])) c.first_bits.ensures)
