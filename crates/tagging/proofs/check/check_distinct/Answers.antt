use Rattle.std.specs.Prelude.{map}
use Rattle.type_table.specs.declared.table.ListMember.{ListMember}
use Rattle.type_table.specs.Seen.{part_of}
use Rattle.std.proofs.Common.{length, ap, refl, subst, sym, ◌∙◌}
use Rattle.std.proofs.lemmas.Option.{slice_get_read}
use Rattle.std.proofs.lemmas.List.{length-map}
use Rattle.tagging.specs.proving.Lists.{Collected, tag_lists}
use Rattle.tagging.specs.proving.Reported.{IsClashFault}
use Rattle.tagging.proofs.Firsts.{clashing_at, later_inside, of_front}
use Rattle.tagging.proofs.Tables.{parts_long}
use Rattle.tagging.proofs.Taggings.{collected_long}
use Rattle.tagging.proofs.check.check_distinct.Goals as goal

pub clash-requires : goal.clash-requires
clash-requires c = record { as_long = ap length c.deref.ensures.value ∙ sym (length-map c.in-Ok.firsts.items (λ v. v.items)) ∙ collected_long c.args.columns.now.program.types (map part_of c.args.list.members.now) (tag_lists c.in-Ok.firsts.items) c.in-Ok.ensures.found ∙ parts_long c.args.list.members.now }

pub returns-in-Err-clause-found : goal.returns-in-Err-clause-found
returns-in-Err-clause-found c = c.fault_of.ensures.found c.args.columns.now.program.types c.in-Err.ensures.found

pub returns-in-Err-clause-first : goal.returns-in-Err-clause-first
returns-in-Err-clause-first c =
    subst (IsClashFault c.args.columns.now.program.types c.args.types.now c.args.list.number c.args.list.kind c.args.list.members.now) (sym c.fault_of.ensures.same)
    (of_front c.args.columns.now.program.types c.args.types.now c.args.list.number c.args.list.kind c.args.list.members.now c.in-Err.fault c.in-Err.ensures.first)

pub returns-clause-first : goal.returns-clause-first
returns-clause-first c =
    let ts = c.args.columns.now.program.types in
    let ms = c.args.list.members.now in
    let t = c.in-Ok-Some.ensures.clash ts
    (subst (λ v. Collected ts (map part_of ms) (tag_lists v)) (sym c.deref.ensures.value) c.in-Ok.ensures.found) in (
      c.in-Ok.ensures.first,
      refl,
      clashing_at ts c.args.list.kind ms c.in-Ok-Some.later c.index-list-later.result c.in-Ok-Some.field-0
          _ (ap (λ (m : ListMember). m.name.at) (sym c.index-list-later.is)) c.in-Ok-Some.field-0-is t
          (slice_get_read ms (length ms) c.in-Ok-Some.later c.index-list-later.result refl
          (later_inside (length ms) c.in-Ok-Some.later c.in-Ok-Some.field-0 c.in-Ok-Some.field-0-is c.in-Ok-Some.ensures.within)
          c.index-list-later.is),
    )
