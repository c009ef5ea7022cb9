use Rattle.std.proofs.Common.{◌≡◌, ◌<◌, length, Some, ap, ◌∙◌, arith}
use Rattle.std.proofs.lemmas.List.{length-set}
use Rattle.type_table.specs.Seen.{types_of}
use Rattle.type_table.specs.Table.{next, target as target_kind, target_of}
use Rattle.tagging.specs.proving.Columns.{Front}
use Rattle.type_table.specs.proving.Notes.{still_known, now_known, right_more}
use Rattle.tagging.proofs.Steps.{front_through}
use Rattle.type_table.specs.proving.Tables.{as_long}
use Rattle.tagging.proofs.Tables.{is_here}
use Rattle.tagging.proofs.columns.note.Goals as goal

pub loop-step-init : goal.loop-step-init
loop-step-init c =
    let ts = types_of c.args.types.now in
    let n = length c.args.types.now in
    record {
      inside = c.requires.there;
      front = c.requires.front;
      known = right_more (length ts) (Front ts) c.args.fronts.now c.args.start c.args.front c.requires.known c.requires.front;
      kept = λ i k. still_known n c.args.fronts.now c.args.start i c.args.front c.requires.within k;
      noted = now_known n c.args.fronts.now c.args.start c.args.front (omega (arith, c.requires.there, c.requires.long)) c.requires.within;
    }

pub bounds-fronts-at : goal.bounds-fronts-at
bounds-fronts-at c =
    let ts = types_of c.args.types.now in
    let h = is_here c.args.types.now c.loop-step.at c.index-types-at.result c.loop-step.invariant.inside c.index-types-at.is in
    let n : next ts c.loop-step.at ≡ Some c.in-Some.j = ap target_of (h.found) ∙ ap (λ k. target_kind k) c.in-Some.ensures in
    let i = c.requires.linked.closed c.loop-step.at c.in-Some.j n in
    omega (arith, i, as_long c.args.types.now, c.requires.long, c.loop-step.auto.fronts, length-set c.args.fronts.now c.args.start c.args.front)

pub offset_bounds-fronts-at : goal.offset_bounds-fronts-at
offset_bounds-fronts-at c =
    let ts = types_of c.args.types.now in
    let h = is_here c.args.types.now c.loop-step.at c.index-types-at.result c.loop-step.invariant.inside c.index-types-at.is in
    let n : next ts c.loop-step.at ≡ Some c.in-Some.j = ap target_of (h.found) ∙ ap (λ k. target_kind k) c.in-Some.ensures in
    let i = c.requires.linked.closed c.loop-step.at c.in-Some.j n in
    let inside : c.in-Some.j < length c.args.types.now = omega (arith, i, as_long c.args.types.now) in
    omega arith

pub loop-step-preserved : goal.loop-step-preserved
loop-step-preserved c =
    let ts = types_of c.args.types.now in
    let m = length c.args.types.now in
    let h = is_here c.args.types.now c.loop-step.at c.index-types-at.result c.loop-step.invariant.inside c.index-types-at.is in
    let n : next ts c.loop-step.at ≡ Some c.in-Some.j = ap target_of (h.found) ∙ ap (λ k. target_kind k) c.in-Some.ensures in
    let i = c.requires.linked.closed c.loop-step.at c.in-Some.j n in
    let u = front_through ts c.loop-step.at c.in-Some.j c.args.front _ _ _ c.loop-step.invariant.front h c.in-Some.ensures in
    record {
      inside = omega (arith, i, as_long c.args.types.now);
      front = u;
      known = right_more (length ts) (Front ts) c.loop-step.fronts c.in-Some.j c.args.front c.loop-step.invariant.known u;
      kept = λ k q. still_known m c.loop-step.fronts c.in-Some.j k c.args.front c.requires.within (c.loop-step.invariant.kept k q);
      noted = still_known m c.loop-step.fronts c.in-Some.j c.args.start c.args.front c.requires.within c.loop-step.invariant.noted;
    }
