use Rattle.std.proofs.Common.{rules, ◌≡◌}
use Rattle.std.proofs.lemmas.Fn.{always_returns_same}
use Rattle.std.proofs.lemmas.List.Sorted.{IsPermutation-sym}
use Rattle.std.proofs.lemmas.Map.Keys.{IsDistinct-IsPermutation}
use Rattle.asn_base.specs.Seen.{item_of}
use Rattle.extensions.specs.proving.Items.{have_one_number}
use Rattle.extensions.proofs.Sorting.{in_permuted, key, ascend, one_number_flips}
use Rattle.extensions.proofs.items.in_order.Goals as goal

pub returns-clause-members : goal.returns-clause-members
returns-clause-members c i =
    let from = c.args.items.items in
    let all = c.sort_by_key.new.self.items in
    let p = c.sort_by_key.ensures.permutation in
    (in_permuted item_of i all from (IsPermutation-sym from all p), in_permuted item_of i from all p)

pub returns-clause-ascend : goal.returns-clause-ascend
returns-clause-ascend c =
    let all = c.sort_by_key.new.self.items in
    ascend all
    (c.in_ok-sort_by_key.ensures.sorted key (always_returns_same _ (λ a r. r ≡ key a.0.now) _ (λ a r f' k. search rules)))
    (IsDistinct-IsPermutation have_one_number one_number_flips c.args.items.items all c.sort_by_key.ensures.permutation c.requires)
