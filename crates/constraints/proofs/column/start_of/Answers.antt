use Rattle.std.proofs.Common.{◌≡◌, Some, None, sym, ap, subst, ◌∙◌}
use Rattle.type_table.specs.Seen.{type_of}
use Rattle.type_table.specs.Table.{target_of}
use Rattle.constraints.specs.proving.Columns.{IsLimitOf}
use Rattle.constraints.proofs.Leaving.{first_start, copied_start}
use Rattle.constraints.proofs.Noting.{noted_is, some_same}
use Rattle.constraints.proofs.column.start_of.Goals as goal

pub returns-in-Ok : goal.returns-in-Ok
returns-in-Ok c =
    first_start c.args.linked.now.program c.args.ty (type_of c.written_at-written.result.now) c.in-Ok.first c.written_at-written.ensures.there
    (ap target_of c.written_at-written.ensures.there ∙ sym c.target.ensures ∙ c.in-None.is) c.in-Ok.ensures

pub returns-in-None-limit : goal.returns-in-None-limit
returns-in-None-limit c =
    let chain = ap target_of c.written_at-written.ensures.there ∙ sym c.target.ensures ∙ c.in-Some.is in
    let n = noted_is c.args.linked.now.program c.args.column.now.at.items c.args.column.now.limits.items c.in-Some.next c.requires.noted
    (c.requires.target c.in-Some.next chain) in
    let q : None ≡ Some n.0 = c.in-None-limit.ensures ∙ n.1 in
    absurd cc

pub returns-in-Ok-copy : goal.returns-in-Ok-copy
returns-in-Ok-copy c =
    let chain = ap target_of c.written_at-written.ensures.there ∙ sym c.target.ensures ∙ c.in-Some.is in
    let n = noted_is c.args.linked.now.program c.args.column.now.at.items c.args.column.now.limits.items c.in-Some.next c.requires.noted
    (c.requires.target c.in-Some.next chain) in
    let q = some_same c.in-Some-limit.limit.now n.0 (c.in-Some-limit.ensures ∙ n.1) in
    copied_start c.args.linked.now.program c.args.ty c.in-Some.next c.in-Some-limit.limit.now c.in-Ok-copy.copy chain
    (subst (IsLimitOf c.args.linked.now.program c.in-Some.next) (sym q) n.2) c.in-Ok-copy.ensures
