use Rattle.std.proofs.Common.{ℤ, ◌<◌, ◌≤◌, ◌+◌, length, map, take, subst, ap, inl, inr, arith, rules}
use mir.Syntax.{w128}
use mir.Val.{SFits}
use Rattle.std.proofs.lemmas.Int.{to_z-of_z}
use Rattle.trees.specs.Values.{Name, name_at}
use Rattle.trees.specs.Types.{numbered_name, an_integer}
use Rattle.type_table.specs.Table.{simple}
use Rattle.type_table.specs.proving.Checks.{texts, IsNumberFault}
use Rattle.type_table.specs.proving.Sets.{Puts}
use Rattle.names.specs.Modules.{OccursIn}
use Rattle.type_table.proofs.Fronts.{seen_at, seen_long, kept_start, kept_more, kept_all, kept_in_start, kept_in_more, kept_in_all}
use Rattle.type_table.proofs.ListFaults.{kind_taken, kind_numbered}
use Rattle.names.specs.proving.Distinct.{item_at}
use Rattle.trees.specs.declared.types.NamedNumber.{NamedNumber}
use Rattle.type_table.specs.FirstInList.{number_names, numbers_given, numbers_named}
use Rattle.names.specs.Modules.{AreDifferent}
use Rattle.type_table.proofs.FirstFaults.{second_numbered, second_taken}
use Rattle.type_table.proofs.lists.named_numbers.Goals as goal

pub loop-item-init : goal.loop-item-init
loop-item-init c = record {
  names = kept_start _ (texts c.with_hasher-names.result.keys) (ap texts c.with_hasher-names.ensures.empty);
  numbers = kept_in_start _ c.new-numbers.result.keys c.new-numbers.ensures.empty;
}

pub loop-item-preserved : goal.loop-item-preserved
loop-item-preserved c =
    let gs = c.args.given.now in
    let i = c.loop-item.item-index in
    let l : i < length gs = omega arith in
    let f : SFits w128 c.item-item.result.number = search rules in
    let same = to_z-of_z w128 c.item-item.result.number f in
    let ks = c.loop-item.numbers.keys in
    record {
      names = kept_more _ (texts c.loop-item.names.keys) (texts c.name_once.new.names.keys) i _ (seen_at (λ (n : Name × ℤ). n.0) numbered_name gs i c.item-item.result l c.item-item.is) c.loop-item.invariant.names c.in-Ok.ensures.added c.in-Ok.ensures.fresh;
      numbers = kept_in_more _ c.loop-item.numbers.keys c.number_once.new.numbers.keys i _ (seen_at (λ (n : Name × ℤ). n.1) numbered_name gs i c.item-item.result l c.item-item.is) c.loop-item.invariant.numbers (subst (λ z. Puts ks c.number_once.new.numbers.keys z) same c.in-Ok-number_once.ensures.added) (subst (λ z. OccursIn ks z → ⊥) same c.in-Ok-number_once.ensures.fresh);
    }

pub returns-in-Err-clause-fault : goal.returns-in-Err-clause-fault
returns-in-Err-clause-fault c = λ assigns.
    let gs = c.args.given.now in
    let i = c.loop-item.item-index in
    let l : i < length gs = omega arith in
    kind_taken c.args.within.now assigns (simple (an_integer (map numbered_name gs))) (map (λ (n : Name × ℤ). n.0) (map numbered_name gs)) (texts c.loop-item.names.keys) i _ c.in-Err.fault (λ y t. inl t)
    (seen_at (λ (n : Name × ℤ). n.0) numbered_name gs i c.item-item.result l c.item-item.is) c.loop-item.invariant.names c.in-Err.ensures.fault

pub returns-in-Err-number_once-clause-fault : goal.returns-in-Err-number_once-clause-fault
returns-in-Err-number_once-clause-fault c = λ assigns.
    let gs = c.args.given.now in
    let i = c.loop-item.item-index in
    let l : i < length gs = omega arith in
    let f : SFits w128 c.item-item.result.number = search rules in
    let e = subst (λ z. IsNumberFault c.args.within.now (name_at c.item-item.result.name) z c.loop-item.numbers.keys c.in-Err-number_once.fault) (to_z-of_z w128 c.item-item.result.number f) c.in-Err-number_once.ensures.fault in
    kind_numbered c.args.within.now assigns (simple (an_integer (map numbered_name gs))) (map (λ (n : Name × ℤ). n.0) (map numbered_name gs)) (map (λ (n : Name × ℤ). n.1) (map numbered_name gs)) c.loop-item.numbers.keys i _ _ c.in-Err-number_once.fault (λ y t. t)
    (seen_at (λ (n : Name × ℤ). n.0) numbered_name gs i c.item-item.result l c.item-item.is) (seen_at (λ (n : Name × ℤ). n.1) numbered_name gs i c.item-item.result l c.item-item.is) c.loop-item.invariant.numbers e

pub returns-clause-good : goal.returns-clause-good
returns-clause-good c =
    let gs = c.args.given.now in
    let i = c.loop-item.item-index in
    let l : length gs ≤ i = omega arith in
    let n = kept_all _ (texts c.loop-item.names.keys) i (seen_long (λ (n : Name × ℤ). n.0) numbered_name gs i l) c.loop-item.invariant.names in
    (n.1, kept_in_all _ c.loop-item.numbers.keys i (seen_long (λ (n : Name × ℤ). n.1) numbered_name gs i l) c.loop-item.invariant.numbers)

pub returns-in-Err-clause-first : goal.returns-in-Err-clause-first
returns-in-Err-clause-first c =
    let gs = c.args.given.now in
    let i = c.loop-item.item-index in
    let l : i < length gs = omega arith in
    inl (second_taken c.args.within.now (number_names gs) (numbers_named gs) (texts c.loop-item.names.keys) i c.item-item.result.name
    (λ k. AreDifferent (take k (numbers_given gs))) c.in-Err.fault (item_at (λ (n : NamedNumber). n.name) gs i c.item-item.result l c.item-item.is)
    (seen_at (λ (n : Name × ℤ). n.0) numbered_name gs i c.item-item.result l c.item-item.is) c.loop-item.invariant.names c.loop-item.invariant.numbers.apart c.in-Err.ensures.fault c.in-Err.ensures.at)

pub returns-in-Err-number_once-clause-first : goal.returns-in-Err-number_once-clause-first
returns-in-Err-number_once-clause-first c =
    let gs = c.args.given.now in
    let i = c.loop-item.item-index in
    let l : i < length gs = omega arith in
    let f : SFits w128 c.item-item.result.number = search rules in
    let e = subst (λ z. IsNumberFault c.args.within.now (name_at c.item-item.result.name) z c.loop-item.numbers.keys c.in-Err-number_once.fault) (to_z-of_z w128 c.item-item.result.number f) c.in-Err-number_once.ensures.fault in
    let names = kept_more _ (texts c.loop-item.names.keys) (texts c.name_once.new.names.keys) i _ (seen_at (λ (n : Name × ℤ). n.0) numbered_name gs i c.item-item.result l c.item-item.is) c.loop-item.invariant.names c.in-Ok.ensures.added c.in-Ok.ensures.fresh in
    inr (second_numbered c.args.within.now (number_names gs) (numbers_given gs) c.loop-item.numbers.keys i c.item-item.result.name c.item-item.result.number
    (λ k. AreDifferent (take (k + 1) (numbers_named gs))) c.in-Err-number_once.fault (item_at (λ (n : NamedNumber). n.name) gs i c.item-item.result l c.item-item.is)
    (seen_at (λ (n : Name × ℤ). n.1) numbered_name gs i c.item-item.result l c.item-item.is) c.loop-item.invariant.numbers names.apart e c.in-Err-number_once.ensures.at)
