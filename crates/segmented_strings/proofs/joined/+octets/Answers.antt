use Rattle.std.proofs.Common.{arith, ◌-◌, length, sym, ap, subst}
use Rattle.std.proofs.lemmas.Bool.Decides.{nat_tests}
use Rattle.encodings.specs.Strings.{octet_string_tag}
use Rattle.octets.specs.Forms.{is_constructed}
use Rattle.segmented_strings.specs.Failing.{OctetsFail}
use Rattle.segmented_strings.specs.Refusing.{IsRefused}
use Rattle.segmented_strings.proofs.Units.{unit_as, unit_length}
use Rattle.segmented_strings.proofs.OctetSteps.{octets_next, octets_end, octets_refused, primitive_octets, constructed_octets, refused_in_octets, for_want, front_octets}
use Rattle.segmented_strings.proofs.joined.+octets.Goals as goal

pub add_octets-returns-in-Err-clause-err : goal.add_octets-returns-in-Err-clause-err
add_octets-returns-in-Err-clause-err t c =
    let s = c.loop-rest.invariant in
    let l = s.shorter in
    subst (λ q. IsRefused (OctetsFail c.args.room) q c.args.contents.now) (sym c.moved.ensures)
    (octets_refused c.args.room c.args.contents.now c.loop-rest.rest.now c.args.out.now.items c.loop-rest.out.items (length c.args.contents.now - length c.loop-rest.rest.now) c.in-Err.fault s (omega arith) c.in-Err.ensures.err)

pub add_octets-loop-rest-preserved : goal.add_octets-loop-rest-preserved
add_octets-loop-rest-preserved t c = octets_next c.args.room c.args.contents.now c.loop-rest.rest.now c.in-Ok.following.now c.args.out.now.items c.loop-rest.out.items c.add_segment.new.out.items c.loop-rest.invariant c.in-Ok.ensures.ok

pub add_octets-returns-clause-ok : goal.add_octets-returns-clause-ok
add_octets-returns-clause-ok t c = octets_end c.args.room c.args.contents.now c.loop-rest.rest.now c.args.out.now.items c.loop-rest.out.items c.loop-rest.invariant (let e = c.loop-rest-test.ensures in grind (arith, nat_tests))

pub add_segment-returns-in-Err-clause-err : goal.add_segment-returns-in-Err-clause-err
add_segment-returns-in-Err-clause-err t c = front_octets c.octet_string.result c.args.room c.in-Err.why c.args.octets.now c.in-Err.ensures.err c.octet_string.ensures

pub add_segment-returns-in-Ok-extend-clause-ok : goal.add_segment-returns-in-Ok-extend-clause-ok
add_segment-returns-in-Ok-extend-clause-ok t c =
    let r = c.in-Ok.ensures.room in
    primitive_octets c.args.room (c.args.room - 1) c.in-Ok.segment.contents.now c.in-Ok.segment.following.now c.args.octets.now c.args.out.now.items c.extend.new.out.items
    (unit_as c.octet_string.result octet_string_tag _ _ c.in-Ok.ensures.ok c.octet_string.ensures (ap is_constructed c.in-Primitive.is))
    (omega arith) c.are_octets.ensures c.in-Ok-extend.ensures.ok

pub add_segment-returns-in-Err-extend-clause-err : goal.add_segment-returns-in-Err-extend-clause-err
add_segment-returns-in-Err-extend-clause-err t c = for_want c.in-Err-extend.fault c.in-Err-extend.ensures.err

pub add_segment-returns-in-Ok-add_octets-clause-ok : goal.add_segment-returns-in-Ok-add_octets-clause-ok
add_segment-returns-in-Ok-add_octets-clause-ok t c =
    let r = c.in-Ok.ensures.room in
    constructed_octets c.args.room (c.args.room - 1) c.in-Ok.segment.contents.now c.in-Ok.segment.following.now c.args.octets.now c.args.out.now.items c.add_octets.new.out.items
    (unit_as c.octet_string.result octet_string_tag _ _ c.in-Ok.ensures.ok c.octet_string.ensures (ap is_constructed c.in-Constructed.is))
    (omega arith) c.in-Ok-add_octets.ensures.ok

pub add_segment-returns-in-Err-add_octets-clause-err : goal.add_segment-returns-in-Err-add_octets-clause-err
add_segment-returns-in-Err-add_octets-clause-err t c =
    let r = c.in-Ok.ensures.room in
    let u = unit_as c.octet_string.result octet_string_tag _ _ c.in-Ok.ensures.ok c.octet_string.ensures (ap is_constructed c.in-Constructed.is) in
    let l = unit_length u in
    subst (λ q. IsRefused (OctetsFail c.args.room) q c.args.octets.now) (sym c.moved.ensures)
    (refused_in_octets c.args.room (c.args.room - 1) (length c.args.octets.now - length c.in-Ok.segment.following.now - length c.in-Ok.segment.contents.now) c.in-Ok.segment.contents.now c.in-Ok.segment.following.now c.args.octets.now c.in-Err-add_octets.fault u
    (omega arith) (omega arith) c.in-Err-add_octets.ensures.err)
