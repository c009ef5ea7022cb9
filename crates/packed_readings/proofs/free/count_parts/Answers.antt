use Rattle.std.proofs.Common.{arith, ◌+◌, ◌*◌, ◌<◌, ◌≤◌, length, refl, subst}
use Rattle.bits.specs.Left.{bits_left}
use Rattle.packed_readings.specs.Code.{IsFew, test_of}
use Rattle.packed_readings.proofs.Counted.{one_less}
use Rattle.packed_readings.proofs.Light.{free_first, free_last, free_part, free_stop, free_done, stated_less}
use Rattle.packed_readings.proofs.free.count_parts.Goals as goal

pub loop-more-init : goal.loop-more-init
loop-more-init c = free_first (test_of c.args.total.now) (bits_left c.args.bits.now) c.len-all.result c.len-all.ensures c.len-all.type_inv

pub read_total-requires : goal.read_total-requires
read_total-requires c = let f = c.loop-more.invariant.few in let s = c.loop-more.invariant.short in omega (arith, f, s)

pub overflow_add-count : goal.overflow_add-count
overflow_add-count c = let f = c.loop-more.invariant.few in let s = c.loop-more.invariant.short in let l : c.in-Ok-Last.last < 16384 = subst IsFew c.in-Ok-Last.field-0-is c.in-Ok-Last.ensures.few in omega (arith, f, s, l)

pub overflow_add-count-in-Ok-Part : goal.overflow_add-count-in-Ok-Part
overflow_add-count-in-Ok-Part c = let f = c.loop-more.invariant.few in let s = c.loop-more.invariant.short in let l : c.in-Ok-Part.times ≤ 4 = subst IsFew c.in-Ok-Part.field-0-is c.in-Ok-Part.ensures.few in omega (arith, f, s, l)

pub loop-more-smaller-in-Ok-Last : goal.loop-more-smaller-in-Ok-Last
loop-more-smaller-in-Ok-Last c =
    let s = stated_less (test_of c.args.total.now) (bits_left c.args.bits.now) c.loop-more.more c.loop-more.full c.loop-more.count (bits_left c.loop-more.bits) (bits_left c.read_total.new.bits) c.loop-more-test.true c.loop-more.invariant c.in-Ok-Last.field-0 c.in-Ok-Last.ensures.is in
    one_less c.loop-more.more (length (bits_left c.read_total.new.bits)) (length (bits_left c.loop-more.bits)) c.loop-more-test.true s

pub loop-more-preserved-in-Ok-Last : goal.loop-more-preserved-in-Ok-Last
loop-more-preserved-in-Ok-Last c =
    free_last (test_of c.args.total.now) (bits_left c.args.bits.now) c.loop-more.more c.loop-more.full c.loop-more.count (bits_left c.loop-more.bits) (bits_left c.read_total.new.bits) c.loop-more-test.true c.loop-more.invariant
    c.in-Ok-Last.field-0 c.in-Ok-Last.last (c.loop-more.count + c.in-Ok-Last.last) c.in-Ok-Last.field-0-is c.in-Ok-Last.ensures.is c.in-Ok-Last.ensures.few refl

pub loop-more-smaller : goal.loop-more-smaller
loop-more-smaller c =
    let s = stated_less (test_of c.args.total.now) (bits_left c.args.bits.now) c.loop-more.more c.loop-more.full c.loop-more.count (bits_left c.loop-more.bits) (bits_left c.read_total.new.bits) c.loop-more-test.true c.loop-more.invariant c.in-Ok-Part.field-0 c.in-Ok-Part.ensures.is in
    omega (arith, s)

pub loop-more-preserved : goal.loop-more-preserved
loop-more-preserved c =
    free_part (test_of c.args.total.now) (bits_left c.args.bits.now) c.loop-more.more c.loop-more.full c.loop-more.count (bits_left c.loop-more.bits) (bits_left c.read_total.new.bits) c.loop-more-test.true c.loop-more.invariant
    c.in-Ok-Part.field-0 c.in-Ok-Part.times (c.loop-more.count + 16384 * c.in-Ok-Part.times) c.in-Ok-Part.field-0-is c.in-Ok-Part.ensures.is c.in-Ok-Part.ensures.few refl

pub returns-in-Err : goal.returns-in-Err
returns-in-Err c =
    free_stop (test_of c.args.total.now) (bits_left c.args.bits.now) c.loop-more.more c.loop-more.full c.loop-more.count (bits_left c.loop-more.bits) (bits_left c.read_total.new.bits) c.loop-more-test.true c.loop-more.invariant
    c.in-Err.refusal c.in-Err.ensures.is

pub returns : goal.returns
returns c = free_done (test_of c.args.total.now) (bits_left c.args.bits.now) c.loop-more.more c.loop-more.full c.loop-more.count (bits_left c.loop-more.bits) c.loop-more-test.false c.loop-more.invariant
