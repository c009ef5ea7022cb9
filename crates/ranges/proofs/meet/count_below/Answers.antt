use Rattle.std.proofs.Common.{rules, ◌≡◌, true, false}
use Rattle.std.proofs.lemmas.List.Sorted.{IsPartitionPoint-from_clause}
use Rattle.std.specs.List.Sorted.{IsPartitionPoint}
use Rattle.ranges.proofs.Searches.{below, partitioned}
use Rattle.ranges.proofs.meet.count_below.Goals as goal

pub returns : goal.returns
returns c =
    let xs = c.args.ranges.now in
    let z = c.args.number in
    let part : IsPartitionPoint (λ y. below z y ≡ true) (λ y. below z y ≡ false) xs c.partition_point.result =
    IsPartitionPoint-from_clause (below z) xs c.partition_point.result c.partition_point.ensures.partitioned
    (partitioned z xs c.requires) (λ a r f' k. search rules) in
    λ k d h l. part.0 k d h l
