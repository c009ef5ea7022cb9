-- What is returned for the ends of a range.
use Rattle.std.specs.Prelude.{◌≡◌, ◌⊎◌, ℤ, pos, Option, Some, None}
use Rattle.trees.specs.Values.{Name}
use Rattle.trees.specs.Constraints.{EndTree}
use Rattle.type_table.specs.Table.{WrittenKind}
use Rattle.resolve.specs.Program.{Program}
use Rattle.range_ends.specs.Ends.{EndIs, HasNoNumber, IsCircularEnd, notation_of}
use Rattle.range_ends.specs.Answers.{IsOf}
use Rattle.range_ends.specs.declared.written_ranges.Counted.{Counted}
use Rattle.range_ends.specs.declared.written_ranges.Counted.TheVariants.{Numbers, Sizes}
use Rattle.range_ends.specs.declared.written_ranges.RangeFault.{RangeFault}
use Rattle.range_ends.specs.declared.written_ranges.RangeFault.TheVariants as faults

-- the end stands for number z alone, which may be an end
pub record IsBoundOf (p : Program) (k : WrittenKind) (M : Name) (of : Counted) (e : EndTree) (z : ℤ) : Type 0 where
  pub is_so : EndIs p k M e z
  pub only_one : (y : ℤ) → EndIs p k M e y → y ≡ z
  pub such : IsOf of z

abbrev pub IsBoundFault : Program → WrittenKind → Name → Counted → EndTree → RangeFault → Type 0
IsBoundFault p k M of e (faults.NoEnd at) =
    HasNoNumber p k M (notation_of e) ⊎ ((z : ℤ) × EndIs p k M e z × (IsOf of z → ⊥))
IsBoundFault p k M of e (faults.Circular v) = IsCircularEnd p k M (notation_of e) v
IsBoundFault p k M of e (faults.Reversed at) = ⊥

-- the least number that MIN means: none among numbers, 0 among sizes
abbrev pub floor_of : Counted → Option ℤ
floor_of Numbers = None
floor_of Sizes = Some (pos 0)
