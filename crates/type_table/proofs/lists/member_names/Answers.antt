use Rattle.std.proofs.Common.{◌<◌, ◌≤◌, length, map, ap, arith}
use Rattle.type_table.specs.Seen.{part_of}
use Rattle.type_table.specs.Table.{Part}
use Rattle.type_table.specs.proving.Checks.{texts}
use Rattle.type_table.proofs.Fronts.{seen_at, seen_long, kept_start, kept_more, kept_all}
use Rattle.type_table.proofs.ListFaults.{taken_repeated}
use Rattle.names.specs.proving.Distinct.{item_at}
use Rattle.type_table.specs.declared.table.ListMember.{ListMember}
use Rattle.type_table.specs.FirstInList.{member_places, members_named}
use Rattle.type_table.proofs.FirstFaults.{second_taken}
use Rattle.type_table.proofs.lists.member_names.Goals as goal

pub loop-component-init : goal.loop-component-init
loop-component-init c = kept_start _ (texts c.with_hasher-names.result.keys) (ap texts c.with_hasher-names.ensures.empty)

pub loop-component-preserved : goal.loop-component-preserved
loop-component-preserved c =
    let gs = c.args.given.now in
    let i = c.loop-component.component-index in
    let l : i < length gs = omega arith in
    kept_more _ (texts c.loop-component.names.keys) (texts c.name_once.new.names.keys) i _ (seen_at (λ (p : Part). p.name) part_of gs i c.component-item.result l c.component-item.is) c.loop-component.invariant c.in-Ok.ensures.added c.in-Ok.ensures.fresh

pub returns-in-Err-clause-fault : goal.returns-in-Err-clause-fault
returns-in-Err-clause-fault c =
    let gs = c.args.given.now in
    let i = c.loop-component.component-index in
    let l : i < length gs = omega arith in
    taken_repeated c.args.within.now (map (λ (p : Part). p.name) (map part_of gs)) (texts c.loop-component.names.keys) i _ c.in-Err.fault (seen_at (λ (p : Part). p.name) part_of gs i c.component-item.result l c.component-item.is) c.loop-component.invariant c.in-Err.ensures.fault

pub returns-clause-distinct : goal.returns-clause-distinct
returns-clause-distinct c =
    let gs = c.args.given.now in
    let i = c.loop-component.component-index in
    let l : length gs ≤ i = omega arith in
    (kept_all _ (texts c.loop-component.names.keys) i (seen_long (λ (p : Part). p.name) part_of gs i l) c.loop-component.invariant).1

pub returns-in-Err-clause-first : goal.returns-in-Err-clause-first
returns-in-Err-clause-first c =
    let gs = c.args.given.now in
    let i = c.loop-component.component-index in
    let l : i < length gs = omega arith in
    second_taken c.args.within.now (member_places gs) (members_named gs) (texts c.loop-component.names.keys) i c.component-item.result.name (λ i. Unit {0}) c.in-Err.fault
    (item_at (λ (m : ListMember). m.name) gs i c.component-item.result l c.component-item.is) (seen_at (λ (p : Part). p.name) part_of gs i c.component-item.result l c.component-item.is) c.loop-component.invariant tt c.in-Err.ensures.fault c.in-Err.ensures.at
