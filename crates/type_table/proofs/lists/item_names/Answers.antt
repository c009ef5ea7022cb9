use Rattle.std.proofs.Common.{◌≡◌, ◌+◌, ◌<◌, ◌≤◌, ◌++◌, length, map, sym, subst, ◌∙◌, length-append, arith}
use Rattle.std.proofs.Math.Seq.{take-append_seam}
use Rattle.trees.specs.Types.{item_of}
use Rattle.names.specs.Modules.{AreDifferent}
use Rattle.names.specs.proving.Distinct.{right}
use Rattle.type_table.specs.Items.{WrittenItem}
use Rattle.type_table.specs.proving.Checks.{texts}
use Rattle.type_table.proofs.Fronts.{Kept, seen_at, seen_long, kept_more, kept_all}
use Rattle.type_table.proofs.ListFaults.{taken_repeated}
use Rattle.trees.specs.declared.types.EnumeratedItem.{EnumeratedItem}
use Rattle.names.specs.proving.Distinct.{item_at}
use Rattle.type_table.specs.FirstInList.{item_places}
use Rattle.type_table.proofs.FirstFaults.{right_at, second_taken}
use Rattle.type_table.proofs.lists.item_names.Goals as goal

pub loop-item-init : goal.loop-item-init
loop-item-init c =
    let old = texts c.args.names.now.keys in
    let more = map (λ (i : WrittenItem). i.0) (map item_of c.args.items.now) in
    let z : length old ≡ length old + 0 = omega arith in
    subst (Kept (old ++ more) old) z (record { same = sym (take-append_seam old more); apart = subst AreDifferent (sym (take-append_seam old more)) c.requires.distinct })

pub loop-item-preserved : goal.loop-item-preserved
loop-item-preserved c =
    let old = texts c.args.names.now.keys in
    let gs = c.args.items.now in
    let i = c.loop-item.item-index in
    let l : i < length gs = omega arith in
    let more = map (λ (i : WrittenItem). i.0) (map item_of gs) in
    let here = right old more i ∙ seen_at (λ (i : WrittenItem). i.0) item_of gs i c.item-item.result l c.item-item.is in
    let z : length old + i + 1 ≡ length old + (i + 1) = omega arith in
    subst (Kept (old ++ more) (texts c.name_once.new.names.keys)) z (kept_more (old ++ more) (texts c.loop-item.names.keys) (texts c.name_once.new.names.keys) (length old + i) _ here c.loop-item.invariant c.in-Ok.ensures.added c.in-Ok.ensures.fresh)

pub returns-in-Err-clause-fault : goal.returns-in-Err-clause-fault
returns-in-Err-clause-fault c =
    let old = texts c.args.names.now.keys in
    let gs = c.args.items.now in
    let i = c.loop-item.item-index in
    let l : i < length gs = omega arith in
    let more = map (λ (i : WrittenItem). i.0) (map item_of gs) in
    let here = right old more i ∙ seen_at (λ (i : WrittenItem). i.0) item_of gs i c.item-item.result l c.item-item.is in
    taken_repeated c.args.within.now (old ++ more) (texts c.loop-item.names.keys) (length old + i) _ c.in-Err.fault here c.loop-item.invariant c.in-Err.ensures.fault

pub returns : goal.returns
returns c =
    let old = texts c.args.names.now.keys in
    let gs = c.args.items.now in
    let i = c.loop-item.item-index in
    let l : length gs ≤ i = omega arith in
    let more = map (λ (i : WrittenItem). i.0) (map item_of gs) in
    let m = seen_long (λ (i : WrittenItem). i.0) item_of gs i l in
    let k = kept_all (old ++ more) (texts c.loop-item.names.keys) (length old + i) (omega (arith, m, length-append old more)) c.loop-item.invariant in
    record { added = k.0; distinct = subst AreDifferent (sym k.0) k.1; fault = tt; first = λ before e. tt }

pub returns-in-Err-clause-first : goal.returns-in-Err-clause-first
returns-in-Err-clause-first c = λ before long.
    let old = texts c.args.names.now.keys in
    let gs = c.args.items.now in
    let i = c.loop-item.item-index in
    let l : i < length gs = omega arith in
    let more = map (λ (i : WrittenItem). i.0) (map item_of gs) in
    let here = right old more i ∙ seen_at (λ (i : WrittenItem). i.0) item_of gs i c.item-item.result l c.item-item.is in
    let named = right_at before (item_places gs) (length old) i c.item-item.result.name long (item_at (λ (i : EnumeratedItem). i.name) gs i c.item-item.result l c.item-item.is) in
    second_taken c.args.within.now (before ++ item_places gs) (old ++ more) (texts c.loop-item.names.keys) (length old + i) c.item-item.result.name (λ k. Unit {0}) c.in-Err.fault named here c.loop-item.invariant tt c.in-Err.ensures.fault c.in-Err.ensures.at
