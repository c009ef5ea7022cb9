use Rattle.std.proofs.Common.{◌*◌, length, ap}
use Rattle.bits.specs.Left.{bits_left}
use Rattle.bits.specs.Words.{octet_bits}
use Rattle.packed_readings.specs.Counts.{last, part, several_bits}
use Rattle.packed_readings.specs.Code.{test_of}
use Rattle.packed_readings.proofs.Counted.{stop_last, stop_part, stop_count, stated_at, stops_at}
use Rattle.packed_readings.proofs.BitsRead.{bit_step_last, bit_step_part, before_long}
use Rattle.packed_readings.proofs.bit_string.read_bit_part.Goals as goal

pub returns-in-Ok-clause-ok : goal.returns-in-Ok-clause-ok
returns-in-Ok-clause-ok c =
    let test = test_of c.args.total.now in
    let before = octet_bits c.args.out.now.items in
    let b = bits_left c.args.bits.now in
    let m = bits_left c.read_total.new.bits in
    let d = before_long c.args.out.now.items (8 * length c.as_slice.result.now) (ap (λ q. 8 * length q) c.as_slice.ensures.value) in
    let stated = stated_at test several_bits c.args.full before (8 * length c.as_slice.result.now) b m c.in-Ok-Last.field-0 (last c.in-Ok-Last.count) d c.in-Ok-Last.field-0-is c.in-Ok-Last.ensures.is in
    bit_step_last test c.args.full c.args.out.now.items c.read_bits.new.out.items b m (bits_left c.read_bits.new.bits) c.in-Ok-Last.count c.in-Ok.unused stated c.in-Ok.ensures.ok

pub returns-in-Err-read_bits-clause-err : goal.returns-in-Err-read_bits-clause-err
returns-in-Err-read_bits-clause-err c = λ k.
    let test = test_of c.args.total.now in
    let before = octet_bits c.args.out.now.items in
    let b = bits_left c.args.bits.now in
    let m = bits_left c.read_total.new.bits in
    let d = before_long c.args.out.now.items (8 * length c.as_slice.result.now) (ap (λ q. 8 * length q) c.as_slice.ensures.value) in
    let stated = stated_at test several_bits c.args.full before (8 * length c.as_slice.result.now) b m c.in-Ok-Last.field-0 (last c.in-Ok-Last.count) d c.in-Ok-Last.field-0-is c.in-Ok-Last.ensures.is in
    stop_last test several_bits c.args.full before b m (bits_left c.read_bits.new.bits) c.in-Ok-Last.count c.in-Err-read_bits.fault k stated c.in-Err-read_bits.ensures.err

pub returns-in-Ok-read_bits-clause-ok : goal.returns-in-Ok-read_bits-clause-ok
returns-in-Ok-read_bits-clause-ok c =
    let test = test_of c.args.total.now in
    let before = octet_bits c.args.out.now.items in
    let b = bits_left c.args.bits.now in
    let m = bits_left c.read_total.new.bits in
    let d = before_long c.args.out.now.items (8 * length c.as_slice.result.now) (ap (λ q. 8 * length q) c.as_slice.ensures.value) in
    let stated = stated_at test several_bits c.args.full before (8 * length c.as_slice.result.now) b m c.in-Ok-Part.field-0 (part c.in-Ok-Part.times) d c.in-Ok-Part.field-0-is c.in-Ok-Part.ensures.is in
    bit_step_part test c.args.full c.args.out.now.items c.read_bits-in-Ok-Part.new.out.items b m (bits_left c.read_bits-in-Ok-Part.new.bits) c.in-Ok-Part.times c.in-Ok-read_bits.field-0 stated c.in-Ok-read_bits.ensures.ok

pub returns-in-Err-read_bits-2-clause-err : goal.returns-in-Err-read_bits-2-clause-err
returns-in-Err-read_bits-2-clause-err c = λ k.
    let test = test_of c.args.total.now in
    let before = octet_bits c.args.out.now.items in
    let b = bits_left c.args.bits.now in
    let m = bits_left c.read_total.new.bits in
    let d = before_long c.args.out.now.items (8 * length c.as_slice.result.now) (ap (λ q. 8 * length q) c.as_slice.ensures.value) in
    let stated = stated_at test several_bits c.args.full before (8 * length c.as_slice.result.now) b m c.in-Ok-Part.field-0 (part c.in-Ok-Part.times) d c.in-Ok-Part.field-0-is c.in-Ok-Part.ensures.is in
    stop_part test several_bits c.args.full before b m (bits_left c.read_bits-in-Ok-Part.new.bits) c.in-Ok-Part.times c.in-Err-read_bits-2.fault k stated c.in-Err-read_bits-2.ensures.err

pub returns-in-Err-clause-err : goal.returns-in-Err-clause-err
returns-in-Err-clause-err c = λ k.
    let test = test_of c.args.total.now in
    let before = octet_bits c.args.out.now.items in
    let b = bits_left c.args.bits.now in
    let r = bits_left c.read_total.new.bits in
    let d = before_long c.args.out.now.items (8 * length c.as_slice.result.now) (ap (λ q. 8 * length q) c.as_slice.ensures.value) in
    stop_count test several_bits c.args.full before b r c.in-Err.refusal k (stops_at test several_bits c.args.full before (8 * length c.as_slice.result.now) b r c.in-Err.refusal d c.in-Err.ensures.is)
