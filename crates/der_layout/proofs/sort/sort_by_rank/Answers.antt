use Rattle.std.proofs.Common.{rules}
use Rattle.std.proofs.lemmas.List.Sorted.{IsNonDecreasingBy-from_sort_by_key}
use Rattle.der_layout.proofs.Ordered.{ranks_from}
use Rattle.der_layout.proofs.sort.sort_by_rank.Goals as goal

pub returns : goal.returns
returns c = λ o. record {
  same = c.sort_by_key.ensures.permutation;
  in_order = ranks_from o c.sort_by_key.new.self.items (IsNonDecreasingBy-from_sort_by_key (λ m. m.rank) c.sort_by_key.new.self.items c.in_ok-sort_by_key.ensures.sorted (λ a r f k. search rules));
}
