use Rattle.std.proofs.Common.{length, true, refl, ap, sym}
use Rattle.std.proofs.lemmas.Option.{slice_get_read}
use Rattle.std.specs.Prelude.{map}
use Rattle.type_table.specs.declared.table.ListMember.{ListMember}
use Rattle.type_table.specs.Seen.{part_of}
use Rattle.tagging.proofs.Firsts.{bearing_at, none_before}
use Rattle.tagging.proofs.check.check_automatic.Goals as goal

pub returns-in-None-bearing-clause-first : goal.returns-in-None-bearing-clause-first
returns-in-None-bearing-clause-first c =
    let ts = c.args.columns.now.program.types in
    let ms = c.args.list.members.now in (
      c.in-Automatic.is,
      c.in-None-bearing.ensures.found,
      refl,
      bearing_at ts ms c.in-Some.place c.index-list-place.result _
          (ap (λ (m : ListMember). m.name.at) (sym c.index-list-place.is)) c.in-Some.ensures.found
          (λ l. slice_get_read ms (length ms) c.in-Some.place c.index-list-place.result refl l c.index-list-place.is)
          (none_before ts (map part_of ms) true c.in-Some.place c.in-Some.ensures.first),
    )
