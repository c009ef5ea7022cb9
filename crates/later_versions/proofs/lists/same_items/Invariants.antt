use Rattle.std.proofs.Common.{◌≡◌, ◌≤◌, length, map}
use Rattle.asn_base.specs.Seen.{item_of}
use Rattle.later_versions.proofs.Fronts.{FrontTo}
use Rattle.later_versions.proofs.lists.same_items.Given as goal

abbrev pub invariant-loop-i : goal.invariant-loop-i
invariant-loop-i l = (l.i ≤ length l.others) × FrontTo (λ i j. i ≡ j) (map item_of l.items) (map item_of l.others) l.i
