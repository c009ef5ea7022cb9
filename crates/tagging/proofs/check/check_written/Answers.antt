use Rattle.std.proofs.Common.{◌<◌, length, sym, subst, ap}
use Rattle.std.specs.Prelude.{All, map}
use Rattle.names.specs.Sources.{place_of}
use Rattle.type_table.specs.Seen.{kind_of, part_of}
use Rattle.type_table.specs.Table.{tagged, members}
use Rattle.tagging.specs.FirstFault.{written_members}
use Rattle.tagging.proofs.Tables.{is_kind}
use Rattle.tagging.proofs.Taggings.{inside_table}
use Rattle.tagging.proofs.Firsts.{in_members, memberless}
use Rattle.tagging.proofs.check.check_written.Goals as goal

pub check_tag-requires-clause-there : goal.check_tag-requires-clause-there
check_tag-requires-clause-there c =
    let w = c.args.written.now in
    let x = c.in-Tagged in
    inside_table c.args.columns.now.program.types c.args.ty x.inner x.field-0 x.keyword w.default (place_of w.place) c.requires.linked
    (is_kind c.args.columns.now.program.types c.args.ty w (tagged x.field-0 x.keyword x.inner) c.requires.is (ap kind_of x.is))

pub check_tag-requires-clause-is : goal.check_tag-requires-clause-is
check_tag-requires-clause-is c =
    let x = c.in-Tagged in
    (x.field-0, c.args.written.now.default, place_of c.args.written.now.place, is_kind c.args.columns.now.program.types c.args.ty c.args.written.now (tagged x.field-0 x.keyword x.inner) c.requires.is (ap kind_of x.is))

pub check_list-requires-clause-parts : goal.check_list-requires-clause-parts
check_list-requires-clause-parts c =
    let ts = c.args.columns.now.program.types in
    let w = c.args.written.now in
    let x = c.in-Members in
    let h = is_kind ts c.args.ty w (members x.kind x.field-1 (map part_of x.components.items)) c.requires.is (ap kind_of x.is) in
    subst (λ v. All (λ m. m.ty < length ts) (map part_of v)) (sym c.deref.ensures.value) (c.requires.linked.parts c.args.ty x.kind x.field-1 (map part_of x.components.items) w.default (place_of w.place) h)

pub returns-in-Simple-clause-first : goal.returns-in-Simple-clause-first
returns-in-Simple-clause-first c = memberless c.args.columns.now.program.types c.args.types.now c.args.written.now.shape (ap written_members c.in-Simple.is)

pub returns-in-Reference-clause-first : goal.returns-in-Reference-clause-first
returns-in-Reference-clause-first c = memberless c.args.columns.now.program.types c.args.types.now c.args.written.now.shape (ap written_members c.in-Reference.is)

pub returns-in-Elements-clause-first : goal.returns-in-Elements-clause-first
returns-in-Elements-clause-first c = memberless c.args.columns.now.program.types c.args.types.now c.args.written.now.shape (ap written_members c.in-Elements.is)

pub returns-in-Members-clause-first : goal.returns-in-Members-clause-first
returns-in-Members-clause-first c =
    let a = c.args in
    let w = a.written.now in
    let x = c.in-Members in
    in_members a.columns.now.program.types a.types.now a.ty w.at w.default w.shape x.kind x.field-1 x.components _ _ x.is
    c.deref.ensures.value c.check_list.ensures.first
