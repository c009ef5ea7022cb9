use Rattle.std.proofs.Common.{map, ap, sym, ◌∙◌}
use Rattle.std.proofs.lemmas.Result.{IfOk-weaker}
use Rattle.resolve.specs.Program.{WrittenProgram}
use Rattle.asn_base.specs.Seen.{kind_of as resolved_kind}
use Rattle.type_table.specs.Seen.{kind_of, part_of}
use Rattle.type_table.specs.Table.{elements, members}
use Rattle.extensions.proofs.Parts.{none_after, all_after}
use Rattle.extensions.proofs.Whole.{same_core, core_in}
use Rattle.extensions.proofs.types.core.Goals as goal

pub list_core-requires-clause-given : goal.list_core-requires-clause-given
list_core-requires-clause-given c =
    let p = c.args.bounded.now.program in
    let cs = map part_of c.deref.result.now in
    let x = c.in-Members in
    let e = ap kind_of x.is ∙ ap (λ v. members x.kind x.marker (map part_of v)) (sym c.deref.ensures.value) in
    let t = same_core c.linked.result.now.program p c.args.ty.index c.target.result.now (members x.kind x.marker cs) (ap (λ (w : WrittenProgram). w.program) c.linked.ensures) e c.target.ensures in
    (p, t.within, c.requires.defaults t.core t.type t.within t.assigns x.kind x.marker cs t.chain t.there t.is_so t.kind)

pub list_core-requires-clause-plain : goal.list_core-requires-clause-plain
list_core-requires-clause-plain c =
    let p = c.args.bounded.now.program in
    let cs = map part_of c.deref.result.now in
    let x = c.in-Members in
    let e = ap kind_of x.is ∙ ap (λ v. members x.kind x.marker (map part_of v)) (sym c.deref.ensures.value) in
    let t = same_core c.linked.result.now.program p c.args.ty.index c.target.result.now (members x.kind x.marker cs) (ap (λ (w : WrittenProgram). w.program) c.linked.ensures) e c.target.ensures in
    none_after p.types t.core t.type x.kind x.marker cs c.requires.additions t.there t.kind

pub list_core-requires-clause-following : goal.list_core-requires-clause-following
list_core-requires-clause-following c =
    let p = c.args.bounded.now.program in
    let cs = map part_of c.deref.result.now in
    let x = c.in-Members in
    let e = ap kind_of x.is ∙ ap (λ v. members x.kind x.marker (map part_of v)) (sym c.deref.ensures.value) in
    let t = same_core c.linked.result.now.program p c.args.ty.index c.target.result.now (members x.kind x.marker cs) (ap (λ (w : WrittenProgram). w.program) c.linked.ensures) e c.target.ensures in
    all_after p.types t.core t.type x.kind x.marker cs c.requires.additions t.there t.kind

pub returns-in-Simple : goal.returns-in-Simple
returns-in-Simple c =
    let p = c.args.bounded.now.program in
    let i = c.args.ty.index in
    let t = same_core c.linked.result.now.program p i c.target.result.now _ (ap (λ (w : WrittenProgram). w.program) c.linked.ensures) (ap kind_of c.in-Simple.is) c.target.ensures in
    IfOk-weaker c.simple_core.result _ _ (λ r h. core_in p i _ (resolved_kind r) t h) (c.simple_core.ensures t.within)

pub returns-in-Members : goal.returns-in-Members
returns-in-Members c =
    let p = c.args.bounded.now.program in
    let i = c.args.ty.index in
    let cs = map part_of c.deref.result.now in
    let x = c.in-Members in
    let e = ap kind_of x.is ∙ ap (λ v. members x.kind x.marker (map part_of v)) (sym c.deref.ensures.value) in
    let t = same_core c.linked.result.now.program p i c.target.result.now (members x.kind x.marker cs) (ap (λ (w : WrittenProgram). w.program) c.linked.ensures) e c.target.ensures in
    let d = c.requires.defaults t.core t.type t.within t.assigns x.kind x.marker cs t.chain t.there t.is_so t.kind in
    IfOk-weaker c.list_core.result _ _ (λ r h. core_in p i (members x.kind x.marker cs) (resolved_kind r) t h) (c.list_core.ensures p i t.within d)

pub returns-in-Elements : goal.returns-in-Elements
returns-in-Elements c =
    let p = c.args.bounded.now.program in
    let i = c.args.ty.index in
    let x = c.in-Elements in
    let t = same_core c.linked.result.now.program p i c.target.result.now (elements x.kind x.element) (ap (λ (w : WrittenProgram). w.program) c.linked.ensures) (ap kind_of x.is) c.target.ensures in
    IfOk-weaker c.elements_core.result _ _ (λ r h. core_in p i (elements x.kind x.element) (resolved_kind r) t h) (c.elements_core.ensures t.within)
