use Rattle.std.proofs.Common.{map, ap, subst, sym, ◌∙◌}
use Rattle.std.proofs.lemmas.Result.{IfOk-weaker}
use Rattle.resolve.specs.Program.{Program, IsAssignment, IsHome, WrittenProgram}
use Rattle.trees.specs.Types.{plain_of}
use Rattle.type_table.specs.Seen.{kind_of, part_of, type_of}
use Rattle.type_table.specs.Table.{IsLinked, elements, members, reference, simple, tagged}
use Rattle.extensions.specs.Faults.{IsFirstIn}
use Rattle.extensions.specs.proving.Tables.{IsFirstAt, defaults_seen}
use Rattle.extensions.proofs.Each.{at_list, err_more, first_at, list_is, no_list, types_there, written_with}
use Rattle.extensions.proofs.defaults.defaults_at.Goals as goal

pub defaults_in-requires-clause-there : goal.defaults_in-requires-clause-there
defaults_in-requires-clause-there c =
    let p = c.args.builder.bounded.now.program in
    let w = c.args.written.now in
    let cs = map part_of c.deref.result.now in
    let x = c.in-Members in
    let k = ap kind_of x.is ∙ ap (λ v. members x.field-0 x.field-1 (map part_of v)) (sym c.deref.ensures.value) in
    let at = subst (λ (q : Program). IsHome q c.args.ty c.home-home.result.module.now c.home-home.result.name.now) (ap (λ (w : WrittenProgram). w.program) c.linked-linked.ensures) c.home-home.ensures in
    let linked = subst (λ (q : Program). IsLinked q.types) (ap (λ (w : WrittenProgram). w.program) c.linked-linked.ensures) c.lemma_whole.ensures.linked in
    types_there p c.args.ty c.home-home.result.module.now cs linked
    (list_is p c.args.ty w c.home-home.result.module.now c.home-home.result.name.now x.field-0 x.field-1 cs c.requires.is k (at (type_of w) c.requires.is))

pub returns-in-Members-clause-values : goal.returns-in-Members-clause-values
returns-in-Members-clause-values c =
    let p = c.args.builder.bounded.now.program in
    let w = c.args.written.now in
    let M = c.home-home.result.module.now in
    let cs = map part_of c.deref.result.now in
    let x = c.in-Members in
    let k = ap kind_of x.is ∙ ap (λ v. members x.field-0 x.field-1 (map part_of v)) (sym c.deref.ensures.value) in
    let at = subst (λ (q : Program). IsHome q c.args.ty M c.home-home.result.name.now) (ap (λ (w : WrittenProgram). w.program) c.linked-linked.ensures) c.home-home.ensures in
    let l = list_is p c.args.ty w M c.home-home.result.name.now x.field-0 x.field-1 cs c.requires.is k (at (type_of w) c.requires.is) in
    IfOk-weaker c.defaults_in.result _ _ (λ v a N ds is. at_list p c.args.ty M N cs ds (defaults_seen v.items) l a is) c.defaults_in.ensures.values

pub returns-in-Members-clause-fault : goal.returns-in-Members-clause-fault
returns-in-Members-clause-fault c =
    let p = c.args.builder.bounded.now.program in
    let w = c.args.written.now in
    let M = c.home-home.result.module.now in
    let cs = map part_of c.deref.result.now in
    let x = c.in-Members in
    let k = ap kind_of x.is ∙ ap (λ v. members x.field-0 x.field-1 (map part_of v)) (sym c.deref.ensures.value) in
    let at = subst (λ (q : Program). IsHome q c.args.ty M c.home-home.result.name.now) (ap (λ (w : WrittenProgram). w.program) c.linked-linked.ensures) c.home-home.ensures in
    let l = list_is p c.args.ty w M c.home-home.result.name.now x.field-0 x.field-1 cs c.requires.is k (at (type_of w) c.requires.is) in
    let t = c.args.builder.bounded.now in
    let ms = c.deref.result.now in
    let text = written_with t c.args.ty w x.field-0 x.field-1 _ ms c.requires.text x.is c.deref.ensures.value in
    err_more c.defaults_in.result (IsFirstIn t M ms) (IsFirstAt t c.args.ty) (λ f s. first_at t c.args.ty M ms f l text s) c.defaults_in.ensures.fault

pub returns-in-Simple-clause-values : goal.returns-in-Simple-clause-values
returns-in-Simple-clause-values c =
    no_list c.args.builder.bounded.now.program c.args.ty (type_of c.args.written.now) (simple (plain_of c.in-Simple.field-0)) _ c.requires.is
    (ap kind_of c.in-Simple.is) (λ l m cs e. cc)

pub returns-in-Reference-clause-values : goal.returns-in-Reference-clause-values
returns-in-Reference-clause-values c =
    no_list c.args.builder.bounded.now.program c.args.ty (type_of c.args.written.now) (reference c.in-Reference.field-0) _ c.requires.is
    (ap kind_of c.in-Reference.is) (λ l m cs e. cc)

pub returns-in-Tagged-clause-values : goal.returns-in-Tagged-clause-values
returns-in-Tagged-clause-values c =
    no_list c.args.builder.bounded.now.program c.args.ty (type_of c.args.written.now) (tagged c.in-Tagged.field-0 c.in-Tagged.field-1 c.in-Tagged.field-2) _
    c.requires.is (ap kind_of c.in-Tagged.is) (λ l m cs e. cc)

pub returns-in-Elements-clause-values : goal.returns-in-Elements-clause-values
returns-in-Elements-clause-values c =
    no_list c.args.builder.bounded.now.program c.args.ty (type_of c.args.written.now) (elements c.in-Elements.field-0 c.in-Elements.field-1) _
    c.requires.is (ap kind_of c.in-Elements.is) (λ l m cs e. cc)
