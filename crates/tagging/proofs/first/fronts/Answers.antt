use Rattle.std.proofs.Common.{length, refl}
use Rattle.std.specs.Prelude.{map}
use Rattle.type_table.specs.Seen.{part_of}
use Rattle.tagging.specs.proving.Heads.{none}
use Rattle.tagging.proofs.Tables.{part_at, part_more}
use Rattle.std.proofs.lemmas.Option.{slice_get_read}
use Rattle.tagging.proofs.Fronts.{fronts_push, headless, within_all}
use Rattle.tagging.proofs.Firsts.{tagged_before}
use Rattle.tagging.proofs.first.fronts.Goals as goal

pub loop-place-init : goal.loop-place-init
loop-place-init c = rw c.new-tags.ensures.items none

pub head-requires : goal.head-requires
head-requires c = record {
  there =
      within_all (length c.args.columns.now.program.types) (map part_of c.args.members.now) c.loop-place.place (part_of c.index-members-place.result) c.requires.parts (part_at c.args.members.now c.loop-place.place c.index-members-place.result c.loop-place-test.true c.index-members-place.is);
}

pub returns-in-None-clause-found : goal.returns-in-None-clause-found
returns-in-None-clause-found c =
    (c.loop-place.place, part_of c.index-members-place.result, part_at c.args.members.now c.loop-place.place c.index-members-place.result c.loop-place-test.true c.index-members-place.is, refl, c.in-None.ensures)

pub loop-place-preserved : goal.loop-place-preserved
loop-place-preserved c =
    let e = part_more c.args.members.now c.loop-place.place c.index-members-place.result c.loop-place-test.true c.index-members-place.is in
    rw (e, c.in-Ok.ensures.items) (fronts_push c.args.columns.now.program.types _ _ _ c.in-Some.tag c.loop-place.invariant c.in-Some.ensures)

pub returns-in-None-clause-first : goal.returns-in-None-clause-first
returns-in-None-clause-first c =
    let ms = c.args.members.now in
    let m = c.index-members-place.result in
    record {
      number = c.loop-place.place;
      member = m;
      there = slice_get_read ms (length ms) c.loop-place.place m refl c.loop-place-test.true c.index-members-place.is;
      reported = refl;
      is = refl;
      untagged = headless c.args.columns.now.program.types m.ty c.in-None.ensures;
      before = tagged_before c.args.columns.now.program.types (map part_of ms) c.loop-place.tags.items c.loop-place.place c.loop-place.invariant;
    }
