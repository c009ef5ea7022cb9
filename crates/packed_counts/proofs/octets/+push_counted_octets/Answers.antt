use Rattle.packed_counts.proofs.Parts.{octets_at_once, octets_in_part}
use Rattle.packed_counts.proofs.octets.+push_counted_octets.Goals as goal

pub returns-then-octets-lt16384 : goal.returns-then-octets-lt16384
returns-then-octets-lt16384 t c =
    octets_at_once c.args.octets.now c.args.out.now c.push_count.new.out c.push_octets.new.out c.if-octets-lt16384.true
    c.in_ok-next.ensures.bits c.in_ok-push_octets.ensures

pub returns : goal.returns
returns t c =
    octets_in_part c.args.octets.now c.split_at.result.0.now c.split_at.result.1.now c.in_ok-next.next c.args.out.now c.push_count.new.out
    c.push_octets-2.new.out c.push_counted_octets.new.out c.if-octets-lt16384.false c.in_ok-next.ensures.next c.split_at.ensures.front
    c.split_at.ensures.back c.in_ok-next.ensures.bits c.in_ok-push_octets-2.ensures c.in_ok-push_counted_octets.ensures
