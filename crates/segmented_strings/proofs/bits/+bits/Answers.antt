use Rattle.std.proofs.Common.{arith, ◌-◌, length, sym, ap, subst}
use Rattle.std.proofs.lemmas.Bool.Decides.{nat_tests}
use Rattle.encodings.specs.Strings.{bit_string_tag}
use Rattle.octets.specs.Forms.{is_constructed}
use Rattle.primitive_reader.specs.Leaves.{bits_but}
use Rattle.segmented_strings.specs.Failing.{BitsFail}
use Rattle.segmented_strings.specs.Refusing.{IsRefused}
use Rattle.segmented_strings.proofs.Units.{unit_as, unit_length}
use Rattle.segmented_strings.proofs.OctetSteps.{for_want}
use Rattle.segmented_strings.proofs.BitSteps.{bits_begin, bits_next, bits_end, bits_refused, bits_odd, primitive_bits, constructed_bits, bad_primitive, refused_in_bits, without_bits, front_bits}
use Rattle.segmented_strings.proofs.bits.+bits.Goals as goal

pub add_bits-returns-then-is_empty-clause-err : goal.add_bits-returns-then-is_empty-clause-err
add_bits-returns-then-is_empty-clause-err t c = without_bits c.args.room c.args.contents.now (let e = c.if-is_empty.ensures in grind (arith, nat_tests))

pub add_bits-loop-added-init : goal.add_bits-loop-added-init
add_bits-loop-added-init t c = bits_begin c.args.room c.args.contents.now c.args.out.now.items (let e = c.if-is_empty.ensures in grind (arith, nat_tests))

pub add_bits-returns-in-Err-clause-err : goal.add_bits-returns-in-Err-clause-err
add_bits-returns-in-Err-clause-err t c =
    let s = c.loop-added.invariant in
    let l = s.shorter in
    subst (λ q. IsRefused (BitsFail c.args.room) q c.args.contents.now) (sym c.moved.ensures)
    (bits_refused c.args.room c.args.contents.now c.loop-added.rest.now c.args.out.now.items c.loop-added.out.items (length c.args.contents.now - length c.loop-added.rest.now) c.in-Err.fault s (omega arith) c.in-Err.ensures.err)

pub add_bits-returns-then-is_empty-2-clause-ok : goal.add_bits-returns-then-is_empty-2-clause-ok
add_bits-returns-then-is_empty-2-clause-ok t c = bits_end c.args.room c.in-Ok.added.0 c.args.contents.now c.loop-added.rest.now c.in-Ok.added.1.now c.args.out.now.items c.loop-added.out.items c.add_bit_segment.new.out.items c.loop-added.invariant c.in-Ok.ensures.ok (let e = c.if-is_empty-2.ensures in grind (arith, nat_tests))

pub add_bits-returns-then-unused-gt0-clause-err : goal.add_bits-returns-then-unused-gt0-clause-err
add_bits-returns-then-unused-gt0-clause-err t c =
    let s = c.loop-added.invariant in
    let l = s.shorter in
    bits_odd c.args.room c.in-Ok.added.0 c.args.contents.now c.loop-added.rest.now c.in-Ok.added.1.now c.args.out.now.items c.loop-added.out.items c.add_bit_segment.new.out.items (length c.args.contents.now - length c.loop-added.rest.now) s c.in-Ok.ensures.ok (omega arith) c.if-unused-gt0.true (let e = c.if-is_empty-2.ensures in grind (arith, nat_tests))

pub add_bits-loop-added-preserved : goal.add_bits-loop-added-preserved
add_bits-loop-added-preserved t c = bits_next c.args.room c.in-Ok.added.0 c.args.contents.now c.loop-added.rest.now c.in-Ok.added.1.now c.args.out.now.items c.loop-added.out.items c.add_bit_segment.new.out.items c.loop-added.invariant c.in-Ok.ensures.ok (omega (arith, c.if-unused-gt0.false)) (let e = c.if-is_empty-2.ensures in grind (arith, nat_tests))

pub add_bit_segment-returns-in-Err-clause-err : goal.add_bit_segment-returns-in-Err-clause-err
add_bit_segment-returns-in-Err-clause-err t c = front_bits c.bit_string.result c.args.room c.in-Err.why c.args.octets.now c.in-Err.ensures.err c.bit_string.ensures

pub add_bit_segment-returns-in-Ok-extend-clause-ok : goal.add_bit_segment-returns-in-Ok-extend-clause-ok
add_bit_segment-returns-in-Ok-extend-clause-ok t c =
    let r = c.in-Ok.ensures.room in
    primitive_bits c.args.room (c.args.room - 1) c.in-Some.unused (bits_but c.in-Some.unused c.in-Some.bits.now) c.in-Ok.segment.contents.now c.in-Some.bits.now c.in-Ok.segment.following.now c.args.octets.now c.args.out.now.items c.extend.new.out.items
    (unit_as c.bit_string.result bit_string_tag _ _ c.in-Ok.ensures.ok c.bit_string.ensures (ap is_constructed c.in-Primitive.is))
    (omega arith) c.in-Some.ensures.some c.in-Some.ensures.split c.in-Ok-extend.ensures.ok

pub add_bit_segment-returns-in-Err-extend-clause-err : goal.add_bit_segment-returns-in-Err-extend-clause-err
add_bit_segment-returns-in-Err-extend-clause-err t c = for_want c.in-Err-extend.fault c.in-Err-extend.ensures.err

pub add_bit_segment-returns-in-None-clause-err : goal.add_bit_segment-returns-in-None-clause-err
add_bit_segment-returns-in-None-clause-err t c =
    let r = c.in-Ok.ensures.room in
    bad_primitive c.args.room (c.args.room - 1) c.in-Ok.segment.contents.now c.in-Ok.segment.following.now c.args.octets.now
    (unit_as c.bit_string.result bit_string_tag _ _ c.in-Ok.ensures.ok c.bit_string.ensures (ap is_constructed c.in-Primitive.is))
    (omega arith) c.in-None.ensures.none

pub add_bit_segment-returns-in-Ok-add_bits-clause-ok : goal.add_bit_segment-returns-in-Ok-add_bits-clause-ok
add_bit_segment-returns-in-Ok-add_bits-clause-ok t c =
    let r = c.in-Ok.ensures.room in
    constructed_bits c.args.room (c.args.room - 1) c.in-Ok-add_bits.unused c.in-Ok.segment.contents.now c.in-Ok.segment.following.now c.args.octets.now c.args.out.now.items c.add_bits.new.out.items
    (unit_as c.bit_string.result bit_string_tag _ _ c.in-Ok.ensures.ok c.bit_string.ensures (ap is_constructed c.in-Constructed.is))
    (omega arith) c.in-Ok-add_bits.ensures.ok

pub add_bit_segment-returns-in-Err-add_bits-clause-err : goal.add_bit_segment-returns-in-Err-add_bits-clause-err
add_bit_segment-returns-in-Err-add_bits-clause-err t c =
    let r = c.in-Ok.ensures.room in
    let u = unit_as c.bit_string.result bit_string_tag _ _ c.in-Ok.ensures.ok c.bit_string.ensures (ap is_constructed c.in-Constructed.is) in
    let l = unit_length u in
    subst (λ q. IsRefused (BitsFail c.args.room) q c.args.octets.now) (sym c.moved.ensures)
    (refused_in_bits c.args.room (c.args.room - 1) (length c.args.octets.now - length c.in-Ok.segment.following.now - length c.in-Ok.segment.contents.now) c.in-Ok.segment.contents.now c.in-Ok.segment.following.now c.args.octets.now c.in-Err-add_bits.fault u
    (omega arith) (omega arith) c.in-Err-add_bits.ensures.err)
