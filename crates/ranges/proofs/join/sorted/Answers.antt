-- What holds no number is left out, and the rest is put in order.
use Rattle.std.proofs.Common.{rules, ◌≡◌, subst, map}
use Rattle.std.proofs.lemmas.Fn.{filter_same, All-from_retain, always_returns_same}
use Rattle.std.proofs.lemmas.List.Sorted.{All-permutation, IsPermutation-sym}
use Rattle.asn_base.specs.Seen.{range_of}
use Rattle.asn_base.specs.Typed.{IsInSome}
use Rattle.ranges.specs.Numbers.{HoldsSome}
use Rattle.ranges.proofs.Sorting.{test, key, in_permuted, in_filtered, filtered_in, all_hold, sorted_ascend}
use Rattle.ranges.proofs.join.sorted.Goals as goal

pub returns-clause-members : goal.returns-clause-members
returns-clause-members c z =
    let kept = c.retain.new.self.items in
    let all = c.sort_by_key.new.self.items in
    let from = c.args.ranges.items in
    let same : kept ≡ _ = filter_same _ test _ (λ x b f' k. search rules) _ _ c.retain.ensures.filtered in (
      λ i. in_filtered z from
          (subst (λ xs. IsInSome z (map range_of xs)) same
          (in_permuted z all kept (IsPermutation-sym kept all c.sort_by_key.ensures.permutation) i)),
      λ i. in_permuted z kept all c.sort_by_key.ensures.permutation
          (rw same (filtered_in z from i)),
    )

pub returns-clause-some : goal.returns-clause-some
returns-clause-some c =
    let kept = c.retain.new.self.items in
    let all = c.sort_by_key.new.self.items in
    all_hold all
    (All-permutation (λ r. HoldsSome (range_of r)) kept all c.sort_by_key.ensures.permutation
    (All-from_retain _ (λ r. HoldsSome (range_of r)) _ (λ x b f' k. search rules) _ _ c.retain.ensures.filtered))

pub returns-clause-order : goal.returns-clause-order
returns-clause-order c =
    sorted_ascend c.sort_by_key.new.self.items
    (c.in_ok-sort_by_key.ensures.sorted key (always_returns_same _ (λ a r. r ≡ key a.0.now) _ (λ a r f' k. search rules)))
