-- What is returned for ends and ranges (X.680, clauses 50.1, 51.2, 51.4 and 51.5). They are read in a module, for a
-- constraint on a type of kind k.
use Rattle.std.specs.Prelude.{◌≡◌, ◌↔◌, ℤ, List}
use Rattle.asn_base.specs.Schemas.{IsNumber, IsSize}
use Rattle.asn_base.specs.Types.{Range}
use Rattle.asn_base.specs.Typed.{IsInRange, IsInSome}
use Rattle.trees.specs.Values.{Name, Tree}
use Rattle.trees.specs.Constraints.{RangeTree}
use Rattle.names.specs.Modules.{OccursIn}
use Rattle.type_table.specs.Table.{WrittenKind}
use Rattle.resolve.specs.Program.{Program}
use Rattle.range_ends.specs.Ends.{DenotesNumber, HasNoNumber, IsCircularEnd}
use Rattle.range_ends.specs.Ranges.{IsWithinRange, IsWithinOne, IsRange, AreRanges, HasNoEnd, GoesRound, IsReversed}
use Rattle.range_ends.specs.declared.ends.EndFault.{EndFault}
use Rattle.range_ends.specs.declared.ends.EndFault.TheVariants as ends
use Rattle.range_ends.specs.declared.written_ranges.Counted.{Counted}
use Rattle.range_ends.specs.declared.written_ranges.Counted.TheVariants.{Numbers, Sizes}
use Rattle.range_ends.specs.declared.written_ranges.RangeFault.{RangeFault}
use Rattle.range_ends.specs.declared.written_ranges.RangeFault.TheVariants as faults
use Rattle.range_ends.specs.declared.written_ranges.RangesFault.{RangesFault}
use Rattle.range_ends.specs.declared.written_ranges.RangesFault.TheVariants as wrong

-- the notation stands for number z, and for no other
pub record DenotesOnly (p : Program) (k : WrittenKind) (M : Name) (n : Tree) (z : ℤ) : Type 0 where
  pub is_so : DenotesNumber p k M n z
  pub only_one : (w : ℤ) → DenotesNumber p k M n w → w ≡ z

-- why the notation stands for no number
abbrev pub IsEndFault : Program → WrittenKind → Name → Tree → EndFault → Type 0
IsEndFault p k M n ends.NoMeaning = HasNoNumber p k M n
IsEndFault p k M n (ends.Circular v) = IsCircularEnd p k M n v

-- the numbers that may be ends of a range
abbrev pub IsOf : Counted → ℤ → Type 0
IsOf Numbers z = IsNumber z
IsOf Sizes z = IsSize z

-- the range in numbers
pub record IsRangeOf (p : Program) (k : WrittenKind) (M : Name) (of : Counted) (r : RangeTree)
    (s : Range) : Type 0 where
  pub range : IsRange p k M (IsOf of) r
  pub same : (z : ℤ) → (IsInRange z s ↔ (IsOf of z × IsWithinRange p k M r z))

-- the ranges in numbers
pub record AreRangesOf (p : Program) (k : WrittenKind) (M : Name) (of : Counted) (rs : List RangeTree) (ss : List Range)
    : Type 0 where
  pub ranges : AreRanges p k M (IsOf of) rs
  pub same : (z : ℤ) → (IsInSome z ss ↔ (IsOf of z × IsWithinOne p k M rs z))

-- why the range has no meaning
abbrev pub IsRangeFault : Program → WrittenKind → Name → Counted → RangeTree → RangeFault → Type 0
IsRangeFault p k M of r (faults.NoEnd at) = HasNoEnd p k M (IsOf of) r
IsRangeFault p k M of r (faults.Reversed at) = IsReversed p k M (IsOf of) r
IsRangeFault p k M of r (faults.Circular v) = GoesRound p k M v r

-- memory ran out, or one of the ranges has no meaning
abbrev pub AreRangesWrong : Program → WrittenKind → Name → Counted → List RangeTree → RangesFault → Type 0
AreRangesWrong p k M of rs wrong.Memory = Unit {0}
AreRangesWrong p k M of rs (wrong.At f) = (r : RangeTree) × OccursIn rs r × IsRangeFault p k M of r f
