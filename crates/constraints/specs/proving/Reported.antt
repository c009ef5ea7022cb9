-- The fault that the parts of a check report first.
use Rattle.std.specs.Prelude.{◌≡◌, ◌⊎◌, ℕ, true, false, List, Some, slice_get}
use Rattle.trees.specs.declared.constraint.RangesSyntax.{RangesSyntax}
use Rattle.trees.specs.Constraints.{ranges_of}
use Rattle.trees.specs.Values.{Name}
use Rattle.names.specs.declared.sources.AssignedAt.{AssignedAt}
use Rattle.type_table.specs.declared.table.TypeNode.{TypeNode}
use Rattle.type_table.specs.Table.{Type', WrittenKind, walk}
use Rattle.resolve.specs.Program.{Program, WrittenProgram}
use Rattle.range_ends.specs.First.{IsFirstWrong}
use Rattle.range_ends.specs.declared.written_ranges.Counted.{Counted}
use Rattle.range_ends.specs.declared.written_ranges.RangeFault.{RangeFault}
use Rattle.constraints.specs.Constraints.{is_marked}
use Rattle.constraints.specs.First.{wrong_of, IsTypeFault, IsFirstFault}
use Rattle.constraints.specs.declared.column.Fault.{Fault}
use Rattle.constraints.specs.declared.column.Fault.TheVariants as faults
use Rattle.constraints.specs.declared.meaning.Rule.TheVariants as rules
use Rattle.constraints.specs.declared.meaning.ConstraintFault.{ConstraintFault}
use Rattle.constraints.specs.declared.meaning.ConstraintFault.TheVariants as wrongs
use Rattle.constraints.specs.proving.Meanings.{ranged}

-- the first fault of ranges, in a constraint at the place
pub data AreRangesWrong (p : Program) (k : WrittenKind) (M : Name) (of : Counted) (place : ℕ) (r : RangesSyntax)
    (w : ConstraintFault)
    : Type 0 where
  no_memory : w ≡ wrongs.Memory → AreRangesWrong p k M of place r w
  marker : is_marked k (ranged of (ranges_of r)) ≡ false →
      w ≡ wrongs.At rules.MarkerPlace place →
      AreRangesWrong p k M of place r w
  range : (f : RangeFault) →
      is_marked k (ranged of (ranges_of r)) ≡ true →
      IsFirstWrong p k M of r.ranges.items f →
      w ≡ wrong_of f →
      AreRangesWrong p k M of place r w

-- this is the type with the number, as it is written
abbrev pub IsWrittenAt : WrittenProgram → ℕ → TypeNode → Type 0
IsWrittenAt p i w = slice_get p.types i ≡ Some w

-- this is the assignment with the number, as it is written
abbrev pub IsAssignedAt : WrittenProgram → ℕ → AssignedAt → Type 0
IsAssignedAt p i g = slice_get p.assignments i ≡ Some g

-- the first fault of the type with the number, as it is written
abbrev pub IsOneFault : WrittenProgram → ℕ → Fault → Type 0
IsOneFault p i f = IsTypeFault p.program p.types i f

-- the first fault of a program, as its types are written
abbrev pub IsFirstOne : WrittenProgram → Fault → Type 0
IsFirstOne p f = IsFirstFault p.program p.types f

-- the first fault of a type, or `Memory`
abbrev pub ReportsTypeFault : WrittenProgram → ℕ → Fault → Type 0
ReportsTypeFault p i f = (f ≡ faults.Memory) ⊎ IsOneFault p i f

-- the first fault of one of these types, or `Memory`
abbrev pub ReportsOne : WrittenProgram → List ℕ → Fault → Type 0
ReportsOne p is f = (f ≡ faults.Memory) ⊎ ((n i : ℕ) × (slice_get is n ≡ Some i) × IsOneFault p i f)

-- the first fault of a program, or `Memory`
abbrev pub ReportsFirstOf : WrittenProgram → Fault → Type 0
ReportsFirstOf p f = (f ≡ faults.Memory) ⊎ IsFirstOne p f

-- type n of these is n steps after the type at which they start
abbrev pub AreTargets : List Type' → ℕ → List ℕ → Type 0
AreTargets ts start is = (n i : ℕ) → slice_get is n ≡ Some i → walk ts n start ≡ Some i
