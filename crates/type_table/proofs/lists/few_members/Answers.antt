use Rattle.std.proofs.Common.{◌≡◌, ◌+◌, ◌<◌, ◌≤◌, length, drop, take, map, ap, inl, inr, arith}
use Rattle.names.specs.declared.fault.Limit.TheVariants as limits
use Rattle.names.specs.proving.Distinct.{drop_at, none_left}
use Rattle.type_table.specs.Lists.{in_root, in_additions, root_count, addition_count}
use Rattle.type_table.specs.Seen.{part_of}
use Rattle.type_table.specs.Table.{members}
use Rattle.type_table.proofs.ListFaults.{kind_limit}
use Rattle.names.specs.proving.Distinct.{item_at}
use Rattle.type_table.specs.declared.table.ListMember.{ListMember}
use Rattle.type_table.specs.FirstInList.{HasFewMembers, IsPastMember, member_places}
use Rattle.type_table.proofs.FirstFaults.{addition_split, passed_at, root_split}
use Rattle.type_table.proofs.lists.few_members.Goals as goal

pub loop-component-preserved : goal.loop-component-preserved
loop-component-preserved c =
    let gs = c.args.given.now in
    let i = c.loop-component.component-index in
    let l : i < length gs = omega arith in
    let g = c.component-item.result in
    let d = drop_at gs i g l c.component-item.is in
    let root : root_count (map part_of (drop i gs)) ≡ in_root g.standing + root_count (map part_of (drop (i + 1) gs)) = ap (λ r. root_count (map part_of r)) d in
    let more : addition_count (map part_of (drop i gs)) ≡ in_additions g.standing + addition_count (map part_of (drop (i + 1) gs)) = ap (λ r. addition_count (map part_of r)) d in
    record {
      root = omega (arith, root, c.count_member.ensures.root, c.loop-component.invariant.root);
      more = omega (arith, more, c.count_member.ensures.more, c.loop-component.invariant.more);
      few_root = omega arith;
      few_more = omega arith;
    }

pub returns-then-counted-gt-MAX_MEMBERS-clause-fault : goal.returns-then-counted-gt-MAX_MEMBERS-clause-fault
returns-then-counted-gt-MAX_MEMBERS-clause-fault c = λ k m.
    let gs = c.args.given.now in
    let i = c.loop-component.component-index in
    let l : i < length gs = omega arith in
    let g = c.component-item.result in
    let root : root_count (map part_of (drop i gs)) ≡ in_root g.standing + root_count (map part_of (drop (i + 1) gs)) = ap (λ r. root_count (map part_of r)) (drop_at gs i g l c.component-item.is) in
    let many : 256 < root_count (map part_of gs) = omega (arith, root, c.count_member.ensures.root, c.loop-component.invariant.root) in
    kind_limit c.args.within.now c.args.assigns.now (members k m (map part_of gs)) limits.Members c.passed.result (inl many) c.passed.ensures.limit

pub returns-then-counted-gt-MAX_ADDITIONS-clause-fault : goal.returns-then-counted-gt-MAX_ADDITIONS-clause-fault
returns-then-counted-gt-MAX_ADDITIONS-clause-fault c = λ k m.
    let gs = c.args.given.now in
    let i = c.loop-component.component-index in
    let l : i < length gs = omega arith in
    let g = c.component-item.result in
    let more : addition_count (map part_of (drop i gs)) ≡ in_additions g.standing + addition_count (map part_of (drop (i + 1) gs)) = ap (λ r. addition_count (map part_of r)) (drop_at gs i g l c.component-item.is) in
    let many : 64 < addition_count (map part_of gs) = omega (arith, more, c.count_member.ensures.more, c.loop-component.invariant.more) in
    kind_limit c.args.within.now c.args.assigns.now (members k m (map part_of gs)) limits.Members c.passed-then-counted-gt-MAX_ADDITIONS.result (inr many) c.passed-then-counted-gt-MAX_ADDITIONS.ensures.limit

pub returns-clause-root : goal.returns-clause-root
returns-clause-root c =
    let gs = c.args.given.now in
    let i = c.loop-component.component-index in
    let l : length gs ≤ i = omega arith in
    let e : root_count (map part_of (drop i gs)) ≡ 0 = ap (λ r. root_count (map part_of r)) (none_left gs i l) in
    let few = c.loop-component.invariant.few_root in
    omega (arith, e, few, c.loop-component.invariant.root)

pub returns-clause-more : goal.returns-clause-more
returns-clause-more c =
    let gs = c.args.given.now in
    let i = c.loop-component.component-index in
    let l : length gs ≤ i = omega arith in
    let e : addition_count (map part_of (drop i gs)) ≡ 0 = ap (λ r. addition_count (map part_of r)) (none_left gs i l) in
    let few = c.loop-component.invariant.few_more in
    omega (arith, e, few, c.loop-component.invariant.more)

pub returns-then-counted-gt-MAX_MEMBERS-clause-first : goal.returns-then-counted-gt-MAX_MEMBERS-clause-first
returns-then-counted-gt-MAX_MEMBERS-clause-first c =
    let gs = c.args.given.now in
    let i = c.loop-component.component-index in
    let l : i < length gs = omega arith in
    let g = c.component-item.result in
    let d = drop_at gs i g l c.component-item.is in
    let root : root_count (map part_of (drop i gs)) ≡ in_root g.standing + root_count (map part_of (drop (i + 1) gs)) = ap (λ r. root_count (map part_of r)) d in
    let more : addition_count (map part_of (drop i gs)) ≡ in_additions g.standing + addition_count (map part_of (drop (i + 1) gs)) = ap (λ r. addition_count (map part_of r)) d in
    let inv = c.loop-component.invariant in
    let few_root = inv.few_root in
    let few_more = inv.few_more in
    let before : HasFewMembers (take i gs) = (omega (arith, few_root, inv.root, root_split i gs), omega (arith, few_more, inv.more, addition_split i gs)) in
    let past : HasFewMembers (take (i + 1) gs) → ⊥ = λ f. (let f0 = f.0 in let f1 = f.1 in absurd (omega (arith, f0, f1, root, more, inv.root, inv.more, c.count_member.ensures.root, c.count_member.ensures.more, root_split (i + 1) gs, addition_split (i + 1) gs))) in
    passed_at limits.Members c.args.within.now c.args.assigns.now (member_places gs) i g.name (IsPastMember gs) c.passed.result
    (item_at (λ (m : ListMember). m.name) gs i g l c.component-item.is) (before, past) c.passed.ensures.limit c.passed.ensures.at

pub returns-then-counted-gt-MAX_ADDITIONS-clause-first : goal.returns-then-counted-gt-MAX_ADDITIONS-clause-first
returns-then-counted-gt-MAX_ADDITIONS-clause-first c =
    let gs = c.args.given.now in
    let i = c.loop-component.component-index in
    let l : i < length gs = omega arith in
    let g = c.component-item.result in
    let d = drop_at gs i g l c.component-item.is in
    let root : root_count (map part_of (drop i gs)) ≡ in_root g.standing + root_count (map part_of (drop (i + 1) gs)) = ap (λ r. root_count (map part_of r)) d in
    let more : addition_count (map part_of (drop i gs)) ≡ in_additions g.standing + addition_count (map part_of (drop (i + 1) gs)) = ap (λ r. addition_count (map part_of r)) d in
    let inv = c.loop-component.invariant in
    let few_root = inv.few_root in
    let few_more = inv.few_more in
    let before : HasFewMembers (take i gs) = (omega (arith, few_root, inv.root, root_split i gs), omega (arith, few_more, inv.more, addition_split i gs)) in
    let past : HasFewMembers (take (i + 1) gs) → ⊥ = λ f. (let f0 = f.0 in let f1 = f.1 in absurd (omega (arith, f0, f1, root, more, inv.root, inv.more, c.count_member.ensures.root, c.count_member.ensures.more, root_split (i + 1) gs, addition_split (i + 1) gs))) in
    passed_at limits.Members c.args.within.now c.args.assigns.now (member_places gs) i g.name (IsPastMember gs) c.passed-then-counted-gt-MAX_ADDITIONS.result
    (item_at (λ (m : ListMember). m.name) gs i g l c.component-item.is) (before, past) c.passed-then-counted-gt-MAX_ADDITIONS.ensures.limit c.passed-then-counted-gt-MAX_ADDITIONS.ensures.at
