use Rattle.std.proofs.Common.{length, refl, arith}
use Rattle.std.specs.Prelude.{map}
use Rattle.std.proofs.lemmas.List.{map-append}
use Rattle.std.proofs.lemmas.Option.{slice_get_read}
use Rattle.type_table.specs.Seen.{part_of}
use Rattle.tagging.specs.proving.Lists.{none}
use Rattle.tagging.proofs.Tables.{part_at, part_more}
use Rattle.tagging.proofs.Fronts.{within_all}
use Rattle.tagging.proofs.Taggings.{collected_push}
use Rattle.tagging.proofs.Firsts.{inside_all, inside_at, none_inside_more}
use Rattle.tagging.proofs.check.collect.Goals as goal

pub loop-place-init : goal.loop-place-init
loop-place-init c = (rw c.new-lists.ensures.items none, λ n m l. absurd (omega (arith, l)))

pub first_tags-requires : goal.first_tags-requires
first_tags-requires c = record {
  types = c.requires.types;
  there =
      within_all (length c.args.columns.now.program.types) (map part_of c.args.components.now) c.loop-place.place (part_of c.index-components-place.result) c.requires.parts (part_at c.args.components.now c.loop-place.place c.index-components-place.result c.loop-place-test.true c.index-components-place.is);
}

pub loop-place-preserved : goal.loop-place-preserved
loop-place-preserved c =
    let ts = c.args.columns.now.program.types in
    let ms = c.args.components.now in
    let k = c.loop-place.place in
    let m = c.index-components-place.result in
    let l = c.loop-place-test.true in
    let e = part_more ms k m l c.index-components-place.is in
    let i = c.loop-place.invariant in (
      rw (e, c.in-Ok-push.ensures.items, map-append) (collected_push ts _ _ _ c.in-Ok.tags.items i.0 c.in-Ok.ensures.found),
      none_inside_more ts c.args.types.now ms k m (part_at ms k m l c.index-components-place.is) c.in-Ok.ensures.first i.1,
    )

pub returns-in-Err-clause-first : goal.returns-in-Err-clause-first
returns-in-Err-clause-first c =
    let ms = c.args.components.now in
    let k = c.loop-place.place in
    let m = c.index-components-place.result in
    inside_at c.args.columns.now.program.types c.args.types.now ms k m c.in-Err.fault
    (slice_get_read ms (length ms) k m refl c.loop-place-test.true c.index-components-place.is)
    c.in-Err.ensures.first c.loop-place.invariant.1

pub returns-clause-first : goal.returns-clause-first
returns-clause-first c =
    inside_all c.args.columns.now.program.types c.args.types.now c.args.components.now c.loop-place.place
    (omega (arith, c.loop-place-test.false)) c.loop-place.invariant.1
