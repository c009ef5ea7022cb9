use Rattle.std.proofs.Common.{subst, sym}
use Rattle.tagging.specs.FirstFault.{IsListFault}
use Rattle.tagging.proofs.Firsts.{of_mixed, of_bare, of_clash}
use Rattle.tagging.proofs.check.check_list.Goals as goal

pub returns-in-Err-bear_tags-clause-found : goal.returns-in-Err-bear_tags-clause-found
returns-in-Err-bear_tags-clause-found c = c.fault_of.ensures.found c.args.columns.now.program.types c.in-Err-bear_tags.ensures.found

pub returns-in-Err-clause-first : goal.returns-in-Err-clause-first
returns-in-Err-clause-first c =
    let a = c.args in
    of_mixed a.columns.now.program.types a.types.now a.list.number a.list.kind a.list.default a.list.members.now c.in-Err.fault c.in-Err.ensures.first

pub returns-in-Err-bear_tags-clause-first : goal.returns-in-Err-bear_tags-clause-first
returns-in-Err-bear_tags-clause-first c =
    let a = c.args in
    subst (IsListFault a.columns.now.program.types a.types.now a.list.number a.list.kind a.list.default a.list.members.now) (sym c.fault_of.ensures.same)
    (of_bare a.columns.now.program.types a.types.now a.list.number a.list.kind a.list.default a.list.members.now c.in-Err-bear_tags.fault c.in-Ok.ensures.found c.in-Err-bear_tags.ensures.first)

pub returns-in-Err-check_distinct-clause-first : goal.returns-in-Err-check_distinct-clause-first
returns-in-Err-check_distinct-clause-first c =
    let a = c.args in
    of_clash a.columns.now.program.types a.types.now a.list.number a.list.kind a.list.default a.list.members.now c.in-Err-check_distinct.fault c.in-Ok.ensures.found c.in-Ok-bear_tags.ensures.found c.in-Err-check_distinct.ensures.first
