use Rattle.std.proofs.Common.{◌≡◌, ◌<◌, length, Some, sym, ◌∙◌, arith}
use Rattle.std.proofs.lemmas.List.{length-set}
use Rattle.type_table.specs.Seen.{types_of}
use Rattle.type_table.specs.Table.{next, IsUnderlying}
use Rattle.type_table.proofs.Knowing.{core_on}
use Rattle.type_table.specs.proving.Notes.{still_known, now_known, right_more}
use Rattle.type_table.specs.proving.Tables.{next_at, as_long}
use Rattle.type_table.proofs.unfolding.note.Goals as goal

pub loop-step-init : goal.loop-step-init
loop-step-init c =
    let ts = types_of c.args.types.now in
    let n = length c.args.types.now in
    record {
      inside = c.requires.there;
      core = c.requires.core;
      known = right_more (length ts) (IsUnderlying ts) c.args.cores.now c.args.start c.args.core c.requires.known c.requires.core;
      kept = λ i k. still_known n c.args.cores.now c.args.start i c.args.core c.requires.within k;
      noted = now_known n c.args.cores.now c.args.start c.args.core (omega (arith, c.requires.there, c.requires.long)) c.requires.within;
    }

pub bounds-cores-at : goal.bounds-cores-at
bounds-cores-at c =
    let ts = types_of c.args.types.now in
    let n : next ts c.loop-step.at ≡ Some c.in-Some.j = next_at c.args.types.now c.loop-step.at c.index-types-at.result c.loop-step.invariant.inside c.index-types-at.is ∙ sym c.in-Some.ensures in
    let i = c.requires.closed c.loop-step.at c.in-Some.j n in
    omega (arith, i, as_long c.args.types.now, c.requires.long, c.loop-step.auto.cores, length-set c.args.cores.now c.args.start c.args.core)

pub offset_bounds-cores-at : goal.offset_bounds-cores-at
offset_bounds-cores-at c =
    let ts = types_of c.args.types.now in
    let n : next ts c.loop-step.at ≡ Some c.in-Some.j = next_at c.args.types.now c.loop-step.at c.index-types-at.result c.loop-step.invariant.inside c.index-types-at.is ∙ sym c.in-Some.ensures in
    let i = c.requires.closed c.loop-step.at c.in-Some.j n in
    let inside : c.in-Some.j < length c.args.types.now = omega (arith, i, as_long c.args.types.now) in
    omega arith

pub loop-step-preserved : goal.loop-step-preserved
loop-step-preserved c =
    let ts = types_of c.args.types.now in
    let m = length c.args.types.now in
    let n : next ts c.loop-step.at ≡ Some c.in-Some.j = next_at c.args.types.now c.loop-step.at c.index-types-at.result c.loop-step.invariant.inside c.index-types-at.is ∙ sym c.in-Some.ensures in
    let i = c.requires.closed c.loop-step.at c.in-Some.j n in
    let u = core_on ts c.loop-step.at c.in-Some.j c.args.core c.loop-step.invariant.core n in
    record {
      inside = omega (arith, i, as_long c.args.types.now);
      core = u;
      known = right_more (length ts) (IsUnderlying ts) c.loop-step.cores c.in-Some.j c.args.core c.loop-step.invariant.known u;
      kept = λ k h. still_known m c.loop-step.cores c.in-Some.j k c.args.core c.requires.within (c.loop-step.invariant.kept k h);
      noted = still_known m c.loop-step.cores c.in-Some.j c.args.start c.args.core c.requires.within c.loop-step.invariant.noted;
    }
