-- Keys that were sorted ascend.
use Rattle.std.proofs.Common.{ℕ, List}
use Rattle.std.specs.Ordering.{nat_cmp}
use Rattle.std.specs.List.Sorted.{IsNonDecreasing, IsSorted}
use Rattle.std.proofs.lemmas.List.Sorted.{IsNonDecreasingBy-from_sort}

pub ascending : (ks : List ℕ) → IsSorted nat_cmp ks → IsNonDecreasing ks
ascending ks h = IsNonDecreasingBy-from_sort (λ x. x) ks h
