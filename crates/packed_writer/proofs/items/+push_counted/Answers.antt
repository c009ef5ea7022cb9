use Rattle.std.proofs.Common.{length, refl}
use Rattle.packed_leaves.specs.proving.Counting.{all_at_once, first_part}
use Rattle.packed_writer.proofs.items.+push_counted.Goals as goal

pub returns-then-items-lt16384 : goal.returns-then-items-lt16384
returns-then-items-lt16384 t c = all_at_once c.count_laws.ensures.at_once c.args.items.now (length c.args.items.now) c.args.out.now c.push_count.new.out c.push_all.new.out refl c.if-items-lt16384.true c.in_ok-next.ensures.bits c.in_ok-push_all.ensures

pub returns : goal.returns
returns t c =
    first_part c.count_laws.ensures.part c.args.items.now c.split_at.result.0.now c.split_at.result.1.now (length c.args.items.now) c.in_ok-next.next c.args.out.now c.push_count.new.out c.push_all-2.new.out c.push_counted.new.out
    refl c.if-items-lt16384.false c.in_ok-next.ensures.next c.split_at.ensures.front c.split_at.ensures.back c.in_ok-next.ensures.bits c.in_ok-push_all-2.ensures c.in_ok-push_counted.ensures
