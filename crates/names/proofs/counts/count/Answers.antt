use Rattle.std.proofs.Common.{arith, ◌≡◌, sym, subst, ap, ◌∙◌}
use Rattle.names.specs.First.{IsOneTooMany, name_place}
use Rattle.trees.specs.Modules.{assignment_tree_of as given_of}
use Rattle.names.specs.Faults.{fault_name}
use Rattle.names.specs.Modules.{name_of}
use Rattle.names.specs.declared.fault.Limit.TheVariants as limits
use Rattle.names.proofs.Counting.{past_in}
use Rattle.names.proofs.counts.count.Goals as goal

pub returns-then-counts-eq-MAX_TYPES-clause-at : goal.returns-then-counts-eq-MAX_TYPES-clause-at
returns-then-counts-eq-MAX_TYPES-clause-at c =
    let gs = c.args.givens.now in
    let g = c.given-item.result in
    let n = c.loop-given.counts.types in
    let m = c.loop-given.counts.values in
    let s = c.in_ok-source_location-in-Type.field-0 in
    let e = c.in_ok-source_location-in-Type.ensures in
    let i = c.loop-given.invariant in
    let full : n ≡ 4096 = omega arith in
    let passes = subst (λ z. IsOneTooMany limits.Types n m z) (sym c.in-Type.is) (full, i.few_values) in
    let named : fault_name s ≡ name_of (given_of g) = e.name ∙ c.as_str.ensures.value ∙ sym (ap (λ z. name_of (given_of z)) c.in-Type.is) in
    (e.within, past_in limits.Types c.args.counts.now.types c.args.counts.now.values n m gs c.loop-given.given-index g s c.loop-given-test.true c.given-item.is i.types i.values passes named (e.at ∙ sym (ap name_place c.in-Type.is)))

pub returns-then-counts-eq-MAX_VALUES-clause-at : goal.returns-then-counts-eq-MAX_VALUES-clause-at
returns-then-counts-eq-MAX_VALUES-clause-at c =
    let gs = c.args.givens.now in
    let g = c.given-item.result in
    let n = c.loop-given.counts.types in
    let m = c.loop-given.counts.values in
    let s = c.in_ok-source_location-in-Value.field-0 in
    let e = c.in_ok-source_location-in-Value.ensures in
    let i = c.loop-given.invariant in
    let full : m ≡ 65536 = omega arith in
    let passes = subst (λ z. IsOneTooMany limits.Values n m z) (sym c.in-Value.is) (i.few_types, full) in
    let named : fault_name s ≡ name_of (given_of g) = e.name ∙ c.as_str-then-counts-eq-MAX_VALUES.ensures.value ∙ sym (ap (λ z. name_of (given_of z)) c.in-Value.is) in
    (e.within, past_in limits.Values c.args.counts.now.types c.args.counts.now.values n m gs c.loop-given.given-index g s c.loop-given-test.true c.given-item.is i.types i.values passes named (e.at ∙ sym (ap name_place c.in-Value.is)))
