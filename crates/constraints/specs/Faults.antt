-- What faults of constraints of linked modules mean (X.680, clauses 49 to 52), for a program p. Names are lists of
-- octets.
use Rattle.std.specs.Prelude.{◌≡◌, ℕ, Some, slice_get}
use Rattle.trees.specs.declared.location.SourceLocation.{SourceLocation}
use Rattle.names.specs.Faults.{fault_module, fault_name}
use Rattle.names.specs.Sources.{Value}
use Rattle.resolve.specs.Program.{Program, IsAssignment}
use Rattle.tagging.specs.Faults.{Somewhere}
use Rattle.constraints.specs.Bounded.{HasConstraint, IsUnfitConstraint, IsRound, IsTurnedRound, HasMisplacedMarker, IsReconstrained, IsEmpty}
use Rattle.constraints.specs.declared.fault.BoundFault.{BoundFault}
use Rattle.constraints.specs.declared.fault.BoundFault.TheVariants.{Memory, Circular, Empty, WrongKind, Reconstrained, LowerAboveUpper, MarkerPlace}

-- An end of a range leads to a value that leads back to itself. The value is in the module and under the name that the
-- spot has.
pub record IsEndInCircle (p : Program) (s : SourceLocation) : Type 0 where
  pub number : ℕ
  pub value : Value
  pub there : slice_get p.values number ≡ Some value
  pub is_so : IsAssignment p value.assignment (fault_module s) (fault_name s)
  pub ty : ℕ
  pub round : HasConstraint p ty (IsRound p number)

-- the fault is one of this program, in the module and under the name that it has; `Memory` says nothing
abbrev pub IsRightFault : Program → BoundFault → Type 0
IsRightFault p Memory = Unit {0}
IsRightFault p (Circular s) = IsEndInCircle p s
IsRightFault p (Empty s) = Somewhere p (IsEmpty p) s
IsRightFault p (WrongKind s) = Somewhere p (λ i. HasConstraint p i (IsUnfitConstraint p)) s
IsRightFault p (Reconstrained s) = Somewhere p (IsReconstrained p) s
IsRightFault p (LowerAboveUpper s) = Somewhere p (λ i. HasConstraint p i (IsTurnedRound p)) s
IsRightFault p (MarkerPlace s) = Somewhere p (λ i. HasConstraint p i HasMisplacedMarker) s
