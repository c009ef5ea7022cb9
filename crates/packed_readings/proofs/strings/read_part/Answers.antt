use Rattle.std.proofs.Common.{arith, ◌*◌, length, ap}
use Rattle.bits.specs.Left.{bits_left}
use Rattle.packed_readings.specs.Counts.{last, part}
use Rattle.packed_readings.specs.Code.{several_of, test_of}
use Rattle.packed_readings.proofs.Counted.{step_last, step_part, stop_last, stop_part, stop_count, stated_at, stops_at, stated_shorter, items_shorter}
use Rattle.packed_readings.proofs.strings.read_part.Goals as goal

pub returns-in-Ok-clause-ok : goal.returns-in-Ok-clause-ok
returns-in-Ok-clause-ok c =
    let test = test_of c.args.total.now in
    let items = several_of c.args.form.now in
    let before = c.args.out.now.items in
    let b = bits_left c.args.bits.now in
    let m = bits_left c.read_total.new.bits in
    let r = bits_left c.read_items.new.bits in
    let after = c.read_items.new.out.items in
    let n = c.in-Ok-Last.count in
    let stated = stated_at test items c.args.full before (length c.as_slice.result.now) b m c.in-Ok-Last.field-0 (last n) (ap length c.as_slice.ensures.value) c.in-Ok-Last.field-0-is c.in-Ok-Last.ensures.is in
    let g = c.in-Ok.ensures.ok in
    let s = stated_shorter test items c.args.full before b m (last n) stated in
    let t = items_shorter c.args.form.now n m r before after g in
    (λ k. step_last test items c.args.full before b m r n after k stated g, omega (arith, s, t))

pub returns-in-Err-read_items-clause-err : goal.returns-in-Err-read_items-clause-err
returns-in-Err-read_items-clause-err c = λ k.
    let test = test_of c.args.total.now in
    let items = several_of c.args.form.now in
    let before = c.args.out.now.items in
    let b = bits_left c.args.bits.now in
    let m = bits_left c.read_total.new.bits in
    let n = c.in-Ok-Last.count in
    let stated = stated_at test items c.args.full before (length c.as_slice.result.now) b m c.in-Ok-Last.field-0 (last n) (ap length c.as_slice.ensures.value) c.in-Ok-Last.field-0-is c.in-Ok-Last.ensures.is in
    stop_last test items c.args.full before b m (bits_left c.read_items.new.bits) n c.in-Err-read_items.fault k stated c.in-Err-read_items.ensures.err

pub returns-in-Ok-read_items-clause-ok : goal.returns-in-Ok-read_items-clause-ok
returns-in-Ok-read_items-clause-ok c =
    let test = test_of c.args.total.now in
    let items = several_of c.args.form.now in
    let before = c.args.out.now.items in
    let b = bits_left c.args.bits.now in
    let m = bits_left c.read_total.new.bits in
    let r = bits_left c.read_items-in-Ok-Part.new.bits in
    let after = c.read_items-in-Ok-Part.new.out.items in
    let n = c.in-Ok-Part.times in
    let stated = stated_at test items c.args.full before (length c.as_slice.result.now) b m c.in-Ok-Part.field-0 (part n) (ap length c.as_slice.ensures.value) c.in-Ok-Part.field-0-is c.in-Ok-Part.ensures.is in
    let g = c.in-Ok-read_items.ensures.ok in
    let s = stated_shorter test items c.args.full before b m (part n) stated in
    let t = items_shorter c.args.form.now (16384 * n) m r before after g in
    (λ k. step_part test items c.args.full before b m r n after k stated g, omega (arith, s, t))

pub returns-in-Err-read_items-2-clause-err : goal.returns-in-Err-read_items-2-clause-err
returns-in-Err-read_items-2-clause-err c = λ k.
    let test = test_of c.args.total.now in
    let items = several_of c.args.form.now in
    let before = c.args.out.now.items in
    let b = bits_left c.args.bits.now in
    let m = bits_left c.read_total.new.bits in
    let n = c.in-Ok-Part.times in
    let stated = stated_at test items c.args.full before (length c.as_slice.result.now) b m c.in-Ok-Part.field-0 (part n) (ap length c.as_slice.ensures.value) c.in-Ok-Part.field-0-is c.in-Ok-Part.ensures.is in
    stop_part test items c.args.full before b m (bits_left c.read_items-in-Ok-Part.new.bits) n c.in-Err-read_items-2.fault k stated c.in-Err-read_items-2.ensures.err

pub returns-in-Err-clause-err : goal.returns-in-Err-clause-err
returns-in-Err-clause-err c = λ k.
    let test = test_of c.args.total.now in
    let items = several_of c.args.form.now in
    let b = bits_left c.args.bits.now in
    let r = bits_left c.read_total.new.bits in
    stop_count test items c.args.full c.args.out.now.items b r c.in-Err.refusal k (stops_at test items c.args.full c.args.out.now.items (length c.as_slice.result.now) b r c.in-Err.refusal (ap length c.as_slice.ensures.value) c.in-Err.ensures.is)
