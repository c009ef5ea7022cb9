use mir.Syntax.{w128}
use Rattle.std.proofs.Common.{SFits, ◌≡◌, rules, true, false, arith, None}
use Rattle.std.proofs.lemmas.List.Sorted.{IsPartitionPoint-from_clause}
use Rattle.std.proofs.lemmas.Int.{to_z-of_z}
use Rattle.std.specs.List.Sorted.{IsPartitionPoint}
use Rattle.asn_base.specs.declared.constraint.Range.{Range}
use Rattle.ranges.proofs.Searches.{below, partitioned, in_at, searched}
use Rattle.ranges.proofs.set.search.Goals as goal

none : Range
none = record { least = None; greatest = None }

pub returns-then-at-ranges : goal.returns-then-at-ranges
unfolding none
returns-then-at-ranges c =
    let xs = c.args.ranges.now in
    let z = c.args.number in
    let i = c.partition_point-at.result in
    let part : IsPartitionPoint (λ y. below z y ≡ true) (λ y. below z y ≡ false) xs i =
    IsPartitionPoint-from_clause (below z) xs i c.partition_point-at.ensures.partitioned
    (partitioned z xs c.requires) (λ a r f' k. search rules) in
    let fits : SFits w128 z = c.ranges.number in
    let said = simp to_z-of_z at c.holds.ensures in (
      λ h. in_at z xs i none c.if-at-ranges.true (said.0 h),
      λ h. said.1 (searched z xs i none c.requires part h).1,
    )

pub returns : goal.returns
returns c =
    let xs = c.args.ranges.now in
    let z = c.args.number in
    let i = c.partition_point-at.result in
    let part : IsPartitionPoint (λ y. below z y ≡ true) (λ y. below z y ≡ false) xs i =
    IsPartitionPoint-from_clause (below z) xs i c.partition_point-at.ensures.partitioned
    (partitioned z xs c.requires) (λ a r f' k. search rules) in (
      λ h. absurd (grind arith),
      λ h. absurd (let s = searched z xs i none c.requires part h in let a = c.if-at-ranges.false in let b = s.0 in omega arith),
    )
