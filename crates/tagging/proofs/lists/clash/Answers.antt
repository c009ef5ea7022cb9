use Rattle.std.proofs.Common.{◌≡◌, ◌≤◌, length, Some, sym, ap, ◌∙◌, arith}
use Rattle.std.specs.Prelude.{map, slice_get}
use Rattle.type_table.specs.Seen.{part_of}
use Rattle.tagging.specs.proving.Lists.{tag_lists}
use Rattle.tagging.proofs.Tables.{part_at, parts_long}
use Rattle.tagging.proofs.Clashes.{list_at, clear_next, clash_met, distinct_all}
use Rattle.tagging.proofs.Firsts.{clear_before}
use Rattle.tagging.proofs.lists.clash.Goals as goal

pub returns-in-Some-clause-clash : goal.returns-in-Some-clause-clash
returns-in-Some-clause-clash c = λ ts col.
    let cs = map part_of c.args.members.now in
    let vs = tag_lists c.args.firsts.now in
    let e : slice_get vs c.loop-place.place ≡ Some c.as_slice-tags.result.now = list_at c.args.firsts.now c.loop-place.place c.index-firsts-place.result (omega (arith, c.loop-place-test.true, c.requires.as_long)) c.index-firsts-place.is ∙ ap Some (sym c.as_slice-tags.ensures.value) in
    let r = clash_met ts c.args.kind cs vs c.loop-place.place c.as_slice-tags.result.now c.loop-place.seen.keys c.in-Some._key col (omega (arith, c.loop-place-test.true, parts_long c.args.members.now)) e c.loop-place.invariant.meets c.in-Some.ensures.0 c.in-Some.ensures.1 in
    record { earlier = r.0; clash = r.1; before = clear_before ts c.args.kind cs c.loop-place.place (c.loop-place.invariant.clear ts col) }

pub loop-place-preserved : goal.loop-place-preserved
loop-place-preserved c =
    let cs = map part_of c.args.members.now in
    let vs = tag_lists c.args.firsts.now in
    let d = part_at c.args.members.now c.loop-place.place c.index-members-place.result c.loop-place-test.true c.index-members-place.is in
    let e : slice_get vs c.loop-place.place ≡ Some c.as_slice-tags.result.now = list_at c.args.firsts.now c.loop-place.place c.index-firsts-place.result (omega (arith, c.loop-place-test.true, c.requires.as_long)) c.index-firsts-place.is ∙ ap Some (sym c.as_slice-tags.ensures.value) in
    record {
      meets = c.in_ok-seen-in-None.ensures cs vs c.loop-place.place d e c.loop-place.invariant.meets;
      clear = λ ts col. clear_next ts c.args.kind cs vs c.loop-place.place c.as_slice-tags.result.now c.loop-place.seen.keys col e c.loop-place.invariant.meets c.in-None.ensures (c.loop-place.invariant.clear ts col);
    }

pub returns-clause-clash : goal.returns-clause-clash
returns-clause-clash c = λ ts col.
    let all : length (map part_of c.args.members.now) ≤ c.loop-place.place = omega (arith, c.loop-place-test.false, parts_long c.args.members.now) in
    distinct_all ts c.args.kind (map part_of c.args.members.now) c.loop-place.place all (c.loop-place.invariant.clear ts col)
