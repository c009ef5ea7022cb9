use Rattle.std.proofs.Common.{length, subst, ap, ◌∙◌}
use Rattle.std.specs.Int.Digits.{AllBelowBase}
use Rattle.bits.specs.Left.{bits_left}
use Rattle.packed_readings.specs.Counts.{counted_from, several_bits}
use Rattle.packed_readings.specs.Code.{test_of}
use Rattle.packed_readings.specs.Outcome.{found}
use Rattle.packed_readings.specs.declared.bit_string.NextBits.TheVariants as nexts
use Rattle.packed_readings.proofs.Counted.{one_less}
use Rattle.packed_readings.proofs.BitsRead.{bits_first, bits_last, bits_more, bits_stop, bits_done, few_done, none_done, next_is, value_bits}
use Rattle.packed_readings.proofs.bit_string.read_counted_bits.Goals as goal

pub loop-more-init : goal.loop-more-init
loop-more-init c = bits_first (test_of c.args.total.now) (bits_left c.args.bits.now) c.new-out.result.items 0 c.new-out.ensures.items

pub loop-more-smaller-in-Ok-Nothing : goal.loop-more-smaller-in-Ok-Nothing
loop-more-smaller-in-Ok-Nothing c =
    let s = next_is (test_of c.args.total.now) c.loop-more.full c.loop-more.out.items c.read_bit_part.new.out.items c.in-Ok-Nothing.field-0 (nexts.Nothing c.in-Ok-Nothing.last) (bits_left c.loop-more.bits) (bits_left c.read_bit_part.new.bits) c.in-Ok-Nothing.field-0-is c.in-Ok-Nothing.ensures.ok in
    one_less c.loop-more.more (length (bits_left c.read_bit_part.new.bits)) (length (bits_left c.loop-more.bits)) c.loop-more-test.true s.4

pub loop-more-preserved-in-Ok-Nothing : goal.loop-more-preserved-in-Ok-Nothing
loop-more-preserved-in-Ok-Nothing c =
    let s = next_is (test_of c.args.total.now) c.loop-more.full c.loop-more.out.items c.read_bit_part.new.out.items c.in-Ok-Nothing.field-0 (nexts.Nothing c.in-Ok-Nothing.last) (bits_left c.loop-more.bits) (bits_left c.read_bit_part.new.bits) c.in-Ok-Nothing.field-0-is c.in-Ok-Nothing.ensures.ok in
    bits_last (test_of c.args.total.now) (counted_from (test_of c.args.total.now) several_bits (bits_left c.args.bits.now))
    c.loop-more.more c.loop-more.full c.loop-more.out.items c.read_bit_part.new.out.items c.loop-more.unused c.in-Ok-Nothing.last
    (bits_left c.loop-more.bits) (bits_left c.read_bit_part.new.bits) c.loop-more-test.true c.loop-more.invariant s

pub loop-more-preserved : goal.loop-more-preserved
loop-more-preserved c =
    let s = next_is (test_of c.args.total.now) c.loop-more.full c.loop-more.out.items c.read_bit_part.new.out.items c.in-Ok-More.field-0 (nexts.More c.in-Ok-More.next) (bits_left c.loop-more.bits) (bits_left c.read_bit_part.new.bits) c.in-Ok-More.field-0-is c.in-Ok-More.ensures.ok in
    bits_more (test_of c.args.total.now) (counted_from (test_of c.args.total.now) several_bits (bits_left c.args.bits.now))
    c.loop-more.more c.loop-more.full c.in-Ok-More.next c.loop-more.out.items c.read_bit_part.new.out.items c.loop-more.unused
    (bits_left c.loop-more.bits) (bits_left c.read_bit_part.new.bits) c.loop-more-test.true c.loop-more.invariant s

pub returns-in-Err-clause-err : goal.returns-in-Err-clause-err
returns-in-Err-clause-err c =
    bits_stop (test_of c.args.total.now) (counted_from (test_of c.args.total.now) several_bits (bits_left c.args.bits.now))
    c.loop-more.more c.loop-more.full c.loop-more.out.items c.loop-more.unused (bits_left c.loop-more.bits) (bits_left c.read_bit_part.new.bits) c.in-Err.fault
    c.loop-more-test.true c.loop-more.invariant c.in-Err.ensures.err

pub of-requires-clause-few_unused : goal.of-requires-clause-few_unused
of-requires-clause-few_unused c =
    few_done (test_of c.args.total.now) (counted_from (test_of c.args.total.now) several_bits (bits_left c.args.bits.now)) c.loop-more.more c.loop-more.full c.loop-more.out.items c.loop-more.unused (bits_left c.loop-more.bits) c.loop-more-test.false c.loop-more.invariant

pub of-requires-clause-unused_in_octets : goal.of-requires-clause-unused_in_octets
of-requires-clause-unused_in_octets c =
    none_done (test_of c.args.total.now) (counted_from (test_of c.args.total.now) several_bits (bits_left c.args.bits.now)) c.loop-more.more c.loop-more.full c.loop-more.out.items c.loop-more.unused (bits_left c.loop-more.bits) c.loop-more-test.false c.loop-more.invariant

pub returns-clause-ok : goal.returns-clause-ok
returns-clause-ok c =
    bits_done (test_of c.args.total.now) (counted_from (test_of c.args.total.now) several_bits (bits_left c.args.bits.now)) c.loop-more.more c.loop-more.full c.loop-more.out.items c.loop-more.unused (bits_left c.loop-more.bits) c.loop-more-test.false c.loop-more.invariant
    (subst (AllBelowBase 256) c.as_slice.ensures.value c.are_octets.ensures)
    ∙ ap (λ q. found q (bits_left c.loop-more.bits)) (value_bits c.of.result c.loop-more.out c.loop-more.unused c.of.ensures.octets c.of.ensures.unused)
