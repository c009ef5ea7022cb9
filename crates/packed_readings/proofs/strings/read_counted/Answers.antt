use Rattle.std.proofs.Common.{length}
use Rattle.bits.specs.Left.{bits_left}
use Rattle.packed_readings.specs.Counts.{counted_from}
use Rattle.packed_readings.specs.Code.{several_of, test_of}
use Rattle.packed_readings.specs.declared.strings.Next.TheVariants as nexts
use Rattle.packed_readings.proofs.Counted.{so_far_first, so_far_last, so_far_more, so_far_stops, one_less, step_at}
use Rattle.packed_readings.proofs.strings.read_counted.Goals as goal

pub loop-more-init : goal.loop-more-init
loop-more-init c = so_far_first (test_of c.args.total.now) (several_of c.args.form.now) (bits_left c.args.bits.now) c.new-out.result.items c.new-out.ensures.items

pub loop-more-smaller-in-Ok-Nothing : goal.loop-more-smaller-in-Ok-Nothing
loop-more-smaller-in-Ok-Nothing c =
    let s = step_at (test_of c.args.total.now) (several_of c.args.form.now) c.loop-more.full c.loop-more.out.items c.read_part.new.out.items c.in-Ok-Nothing.field-0 nexts.Nothing (bits_left c.loop-more.bits) (bits_left c.read_part.new.bits) c.in-Ok-Nothing.field-0-is c.in-Ok-Nothing.ensures.ok in
    one_less c.loop-more.more (length (bits_left c.read_part.new.bits)) (length (bits_left c.loop-more.bits)) c.loop-more-test.true s.1

pub loop-more-preserved-in-Ok-Nothing : goal.loop-more-preserved-in-Ok-Nothing
loop-more-preserved-in-Ok-Nothing c =
    let test = test_of c.args.total.now in
    let items = several_of c.args.form.now in
    let s = step_at test items c.loop-more.full c.loop-more.out.items c.read_part.new.out.items c.in-Ok-Nothing.field-0 nexts.Nothing (bits_left c.loop-more.bits) (bits_left c.read_part.new.bits) c.in-Ok-Nothing.field-0-is c.in-Ok-Nothing.ensures.ok in
    so_far_last test items (counted_from test items (bits_left c.args.bits.now)) c.loop-more.more c.loop-more.full c.loop-more.out.items
    c.read_part.new.out.items (bits_left c.loop-more.bits) (bits_left c.read_part.new.bits) c.loop-more-test.true c.loop-more.invariant s.0

pub loop-more-preserved : goal.loop-more-preserved
loop-more-preserved c =
    let test = test_of c.args.total.now in
    let items = several_of c.args.form.now in
    let s = step_at test items c.loop-more.full c.loop-more.out.items c.read_part.new.out.items c.in-Ok-More.field-0 (nexts.More c.in-Ok-More.next) (bits_left c.loop-more.bits) (bits_left c.read_part.new.bits) c.in-Ok-More.field-0-is c.in-Ok-More.ensures.ok in
    so_far_more test items (counted_from test items (bits_left c.args.bits.now)) c.loop-more.more c.loop-more.full c.in-Ok-More.next c.loop-more.out.items
    c.read_part.new.out.items (bits_left c.loop-more.bits) (bits_left c.read_part.new.bits) c.loop-more-test.true c.loop-more.invariant s.0 s.1

pub returns-in-Err-clause-err : goal.returns-in-Err-clause-err
returns-in-Err-clause-err c =
    so_far_stops (test_of c.args.total.now) (several_of c.args.form.now) (counted_from (test_of c.args.total.now) (several_of c.args.form.now) (bits_left c.args.bits.now))
    c.loop-more.more c.loop-more.full c.loop-more.out.items (bits_left c.loop-more.bits) (bits_left c.read_part.new.bits) c.in-Err.fault
    c.loop-more-test.true c.loop-more.invariant c.in-Err.ensures.err
