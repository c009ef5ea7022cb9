use Rattle.packed_encodings.specs.Computed.{character_bits}
use Rattle.packed_leaves.proofs.Counting.{mapped_part}
use Rattle.packed_leaves.proofs.text.+push_counted.Goals as goal

pub returns : goal.returns
returns t c =
    mapped_part c.count_laws.ensures.part (character_bits c.args.alphabet.codes.now) c.args.text.now c.split_at.result.0.now c.split_at.result.1.now c.in_ok-next.next
    c.args.out.now c.push_count.new.out c.push_characters-2.new.out c.push_counted.new.out c.if-text-lt16384.false c.in_ok-next.ensures.next c.split_at.ensures.front c.split_at.ensures.back
    c.in_ok-next.ensures.bits c.in_ok-push_characters-2.ensures c.in_ok-push_counted.ensures
