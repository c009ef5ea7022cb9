use Rattle.std.proofs.Common.{subst}
use Rattle.std.specs.List.Sorted.{IsPermutation}
use Rattle.tag_places.proofs.Sorting.{ascending}
use Rattle.tag_places.proofs.keys.sorted_keys.Goals as goal

pub returns : goal.returns
returns c =
    record {
      ascending = ascending c.sort.new.self.items c.in_ok-sort.ensures.sorted;
      same = subst (λ ks. IsPermutation ks c.sort.new.self.items) c.in_ok-keys.ensures c.in_ok-sort.ensures.permutation;
    }
