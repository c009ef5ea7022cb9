use Rattle.std.proofs.Common.{arith, ◌≡◌, length, ap, ◌∙◌}
use Rattle.asn_base.specs.Seen.{constraint_of, kind_of}
use Rattle.bits.specs.Left.{bits_left}
use Rattle.packed_readings.specs.Leaves.{leaf_within}
use Rattle.packed_readings.proofs.Light.{free_heavy, free_stops}
use Rattle.packed_readings.proofs.within.judge_free.Goals as goal

pub returns-then-count-room-clause-err : goal.returns-then-count-room-clause-err
returns-then-count-room-clause-err c =
    let one : length c.in-RestrictedString.alphabet.items ≡ 1 = grind arith in
    ap (λ q. leaf_within c.args.room (kind_of q) (bits_left c.args.bits.now)) c.in-RestrictedString.is
    ∙ free_heavy c.args.room c.in-RestrictedString.field-0 c.in-RestrictedString.alphabet.items (constraint_of c.in-RestrictedString.constraint) (bits_left c.args.bits.now)
    (bits_left c.count_characters.new.bits) one c.in-Ok.count c.in-Ok.ensures c.if-count-room.true

pub returns-in-Err-clause-err : goal.returns-in-Err-clause-err
returns-in-Err-clause-err c =
    let one : length c.in-RestrictedString.alphabet.items ≡ 1 = grind arith in
    ap (λ q. leaf_within c.args.room (kind_of q) (bits_left c.args.bits.now)) c.in-RestrictedString.is
    ∙ free_stops c.args.room c.in-RestrictedString.field-0 c.in-RestrictedString.alphabet.items (constraint_of c.in-RestrictedString.constraint) (bits_left c.args.bits.now)
    (bits_left c.count_characters.new.bits) one c.in-Err.refusal c.in-Err.ensures
