use Rattle.std.proofs.Common.{arith, map, ap, refl, ◌≡◌, ◌<◌, length, subst, sym}
use Rattle.std.specs.Prelude.{slice_get, Some}
use Rattle.std.proofs.lemmas.List.{length-map}
use Rattle.later_versions.specs.proving.Pairs.{AreBack, AreLed, ArePaths, met, met_pair}
use Rattle.later_versions.proofs.Fronts.{mapped_at}
use Rattle.later_versions.proofs.Pairing.{all_fine, first_noted, members_met, members_noted, met_more, reached_first, reached_next}
use Rattle.later_versions.proofs.Tracking.{if_ok, later_before, tracked_first, tracked_next}
use Rattle.later_versions.proofs.versions.compare_from.Goals as goal

pub loop-at-init : goal.loop-at-init
loop-at-init c =
    let only = first_noted c.new.result.items c.note.new.pairs (record { pair = c.args.start; from = 0; place = 0 }) c.new.ensures.items c.in_ok-note.ensures.noted c.in_ok-note.ensures.is_met in (
      c.in_ok-note.ensures.known,
      reached_first c.args.first.now c.args.start.first.index c.args.second.now c.args.start.second.index (met c.note.new.pairs) (ap (map met_pair) only),
      tracked_first c.args.first.now c.args.start.first.index c.args.second.now c.args.start.second.index c.note.new.pairs.list.items (record { pair = c.args.start; from = 0; place = 0 }) only refl,
    )

pub difference-requires-clause-within : goal.difference-requires-clause-within
difference-requires-clause-within c =
    let a = c.if-at-len.false in let b = c.len.ensures in let v = ap length c.as_slice.ensures.value in omega (arith, a, b, v)

pub difference-requires-clause-back : goal.difference-requires-clause-back
difference-requires-clause-back c = subst AreBack (sym c.as_slice.ensures.value) c.loop-at.invariant.2.back

pub returns-then-at-len : goal.returns-then-at-len
returns-then-at-len c =
    let n = length-map c.loop-at.pairs.list.items met_pair in
    let a = c.if-at-len.true in
    let b = c.len.ensures in
    all_fine c.args.first.now c.args.start.first.index c.args.second.now c.args.start.second.index (met c.loop-at.pairs) c.loop-at.at (omega (arith, n, a, b)) c.loop-at.invariant.1

pub returns-in-Ok-Some : goal.returns-in-Ok-Some
returns-in-Ok-Some c =
    let l : c.loop-at.at < length c.loop-at.pairs.list.items = (let a = c.if-at-len.false in let b = c.len.ensures in omega (arith, a, b)) in
    let v = sym c.as_slice.ensures.value in
    let track = c.loop-at.invariant.2 in
    if_ok c.difference.result c.difference.ensures
    (λ x h. h c.args.first.now c.args.second.now c.args.start.first.index c.args.start.second.index (met_pair c.index.result.now) track.paths
    (subst (λ q. ArePaths q track.paths) v track.are)
    (subst (λ q. AreLed c.args.first.now c.args.start.first.index c.args.second.now c.args.start.second.index q track.paths) v track.led)
    (subst (λ q. slice_get (map met_pair q) c.loop-at.at ≡ Some (met_pair c.index.result.now)) v
    (mapped_at met_pair c.loop-at.pairs.list.items c.loop-at.at c.index.result.now l c.index.ensures))
    (rw c.in-Ok-Some.field-0-is at c.in-Ok-Some.ensures)
    (λ path e. later_before c.args.first.now c.args.start.first.index c.args.second.now c.args.start.second.index c.loop-at.pairs.list.items c.loop-at.at path c.loop-at.invariant.1 track e))

pub loop-at-preserved : goal.loop-at-preserved
loop-at-preserved c =
    let l : c.loop-at.at < length c.loop-at.pairs.list.items = (let a = c.if-at-len.false in let b = c.len.ensures in omega (arith, a, b)) in
    let noted = c.in_ok-note_members.ensures.noted in
    let p = met_pair c.index.result.now in
    let here = mapped_at met_pair c.loop-at.pairs.list.items c.loop-at.at c.index.result.now l c.index.ensures in (
      c.in_ok-note_members.ensures.known,
      reached_next c.args.first.now c.args.start.first.index c.args.second.now c.args.start.second.index (met c.loop-at.pairs) (met c.note_members.new.pairs) c.loop-at.at p
          here (rw c.in-Ok-None.field-0-is at c.in-Ok-None.ensures)
          (map met_pair noted.more, met_more c.loop-at.pairs c.note_members.new.pairs noted.more noted.items, members_met c.args.first.now c.args.second.now c.loop-at.at p noted.more noted.are)
          (members_noted c.args.first.now c.args.second.now c.loop-at.at p c.loop-at.pairs c.note_members.new.pairs noted) c.loop-at.invariant.1,
      tracked_next c.args.first.now c.args.start.first.index c.args.second.now c.args.start.second.index c.loop-at.pairs c.note_members.new.pairs c.loop-at.at p
          here noted c.loop-at.invariant.2,
    )

pub returns : goal.returns
returns c =
    let n = length-map c.loop-at.pairs.list.items met_pair in
    let m = c.loop-at-test.false in
    all_fine c.args.first.now c.args.start.first.index c.args.second.now c.args.start.second.index (met c.loop-at.pairs) c.loop-at.at (omega (arith, n, m)) c.loop-at.invariant.1
