use Rattle.packed_leaves.proofs.Front.{front_at_once, front_part}
use Rattle.packed_leaves.proofs.bit_string.+push_counted.Goals as goal

pub returns-then-count-lt16384 : goal.returns-then-count-lt16384
returns-then-count-lt16384 t c =
    front_at_once c.count_laws.ensures.at_once c.args.count c.args.octets.now c.args.out.now c.push_count.new.out c.push_first.new.out c.requires c.if-count-lt16384.true
    c.in_ok-next.ensures.bits c.in_ok-push_first.ensures

pub returns : goal.returns
returns t c =
    front_part c.count_laws.ensures.part c.count_laws.ensures.at_most c.args.count c.in_ok-next.next c.args.octets.now c.split_at.result.0.now c.split_at.result.1.now
    c.args.out.now c.push_count.new.out c.push_octets.new.self c.push_counted.new.out c.requires c.if-count-lt16384.false c.in_ok-next.ensures.next c.split_at.ensures.front c.split_at.ensures.back
    c.in_ok-next.ensures.bits c.in_ok-push_octets.ensures.ok c.in_ok-push_counted.ensures
