-- Ranges in ascending order, none of which touches another, and ranges in trees (X.680, 50 and 51).
use Rattle.std.specs.Prelude.{◌≤ℤ◌, ◌<ℤ◌, List, [], ◌∷◌, ◌++◌, Option, Some, None, IfSome, IsSomeAnd}
use Rattle.std.specs.Global.{Global}
use Rattle.std.specs.List.{AllByRecursion}
use Rattle.std.specs.declared.rc.Rc.{Rc}
use Rattle.asn_base.specs.declared.range_node.Node.{Node}
use Rattle.asn_base.specs.declared.range_node.Node.TheOpen.{Node-F}
use Rattle.asn_base.specs.declared.range_node.Node.TheFolds.{fold-Node}
use Rattle.asn_base.specs.Types.{Range}
use Rattle.asn_base.specs.declared.constraint.Range.{Range as Range'}

abbrev pub range_of : Range' → Range
range_of r = record { least = r.least; greatest = r.greatest }

-- the range contains a number: its least is not above its greatest
abbrev pub HoldsSome : Range → Type 0
HoldsSome r = IfSome r.least (λ l. IfSome r.greatest (λ g. l ≤ℤ g))

-- the first range ends before the second one begins
abbrev pub EndsBefore : Range → Range → Type 0
EndsBefore r s = IsSomeAnd r.greatest (λ g. IsSomeAnd s.least (λ l. g <ℤ l))

-- each range contains a number, and ends before all ranges after it begin
abbrev pub AreApart : List Range → Type 0
AreApart [] = Unit {0}
AreApart (r ∷ rs) = HoldsSome r × AllByRecursion (EndsBefore r) rs × AreApart rs

-- what a part has, and nothing if there is none
abbrev pub part : {A : Type 0} → (A → List Range) → Option A → List Range
part f None = []
part f (Some a) = f a

-- the ranges of one level of a tree, if those of its parts are given
abbrev pub level : Node-F (List Range) → List Range
level n = part (λ r. r.value) n.before ++ (n.range ∷ part (λ r. r.value) n.after)

-- the ranges of a tree in order
abbrev pub in_order : Node → List Range
in_order = fold-Node (List Range) level

-- the ranges of a part of a tree in order
abbrev pub ranges_in : Option (Rc Node Global) → List Range
ranges_in = part (λ r. in_order r.value)
