use Rattle.std.proofs.Common.{rules, sym, ◌≡◌, true, false, nat_lt}
use Rattle.std.specs.List.Sorted.{IsPartitionPoint}
use Rattle.std.proofs.lemmas.List.Sorted.{IsPartitionPoint-from_clause, IsPartitionedBy-ltb}
use Rattle.tag_places.proofs.Counting.{counted}
use Rattle.tag_places.proofs.places.count_below.Goals as goal

pub returns : goal.returns
returns c = λ up.
    let ks = c.args.keys.now in
    let k = c.args.key in
    let part : IsPartitionPoint (λ y. nat_lt y k ≡ true) (λ y. nat_lt y k ≡ false) ks c.partition_point.result =
    IsPartitionPoint-from_clause (λ y. nat_lt y k) ks c.partition_point.result c.partition_point.ensures.partitioned
    (IsPartitionedBy-ltb (λ x. x) ks k up) (λ a r f' k. search rules) in
    sym (counted ks k c.partition_point.result c.partition_point.ensures.bound part)
