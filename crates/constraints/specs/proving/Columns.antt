-- What the constraints of each type of a program allow, as it is noted for the type (X.680, clauses 49 to 52).
use Rattle.std.specs.Prelude.{◌≡◌, ◌↔◌, ◌⊎◌, ◌<◌, ◌+◌, ℕ, ℤ, List, [], Option, Some, None, true, length, slice_get, IsTrue}
use Rattle.std.specs.Prelude.{false}
use Rattle.asn_base.specs.Types.{Range}
use Rattle.asn_base.specs.Names.{IsMember}
use Rattle.asn_base.specs.Schemas.{is_character}
use Rattle.asn_base.specs.Typed.{IsInSome}
use Rattle.trees.specs.Values.{Name}
use Rattle.trees.specs.Constraints.{ConstraintTree}
use Rattle.trees.specs.Types.{a_restricted_string}
use Rattle.type_table.specs.Table.{Type', WrittenKind, simple, next, walk}
use Rattle.resolve.specs.Program.{Program}
use Rattle.range_ends.specs.Ends.{IsTypeOfKind}
use Rattle.constraints.specs.Constraints.{IsFitting, AllowsNumber, AllowsCharacter, has_marker}
use Rattle.constraints.specs.Allowed.{BearsConstraint, IsCounted, IsInRoot, IsInAlphabet, IsExtensible}
use Rattle.constraints.specs.Bounded.{IsWritten, IsReconstrained, IsEmpty, HasConstraint, IsUnfitConstraint, IsTurnedRound, HasMisplacedMarker, IsRound}
use Rattle.constraints.specs.declared.column.Fault.{Fault}
use Rattle.constraints.specs.declared.column.Fault.TheVariants as faults
use Rattle.constraints.specs.declared.column.BoundTable.{BoundTable}
use Rattle.constraints.specs.declared.column.TableRef.{TableRef}
use Rattle.constraints.specs.declared.column.TableRef.TheVariants.{Owned, Lent}
use Rattle.constraints.specs.declared.limit.Limit.{Limit}
use Rattle.constraints.specs.declared.meaning.ConstraintFault.{ConstraintFault}
use Rattle.constraints.specs.declared.meaning.ConstraintFault.TheVariants as wrongs
use Rattle.constraints.specs.declared.meaning.Rule.{Rule}
use Rattle.constraints.specs.declared.meaning.Rule.TheVariants as rules
use Rattle.constraints.specs.proving.Limits.{LeavesSome}

-- the codes of the allowed characters of one of the four restricted strings; for other types any codes
abbrev pub HasAlphabet : Program → WrittenKind → ℕ → List ℕ → Type 0
HasAlphabet p (simple (a_restricted_string s)) i cs = (c : ℕ) → (IsMember c cs ↔ IsInAlphabet p s i c)
HasAlphabet p k i cs = Unit {0}

-- l is what the constraints of type i, which is of kind k, allow
pub record IsLeft (p : Program) (k : WrittenKind) (i : ℕ) (l : Limit) : Type 0 where
  pub numbers : (z : ℤ) → (IsInSome z l.numbers ↔ IsInRoot p k i z)
  pub codes : HasAlphabet p k i l.codes
  pub extensible : l.extensible ≡ true ↔ IsExtensible p i
  pub some : LeavesSome k l

-- what is required of the constraints of type i and of those of the types that its references and tags lead to
pub record HasGoodConstraints (p : Program) (i : ℕ) : Type 0 where
  pub fitting : (steps j n : ℕ) (k : WrittenKind) (M : Name) (c : ConstraintTree) →
      walk p.types steps i ≡ Some j →
      IsWritten p j n k M c →
      IsFitting p k M c
  pub last : (steps j : ℕ) → walk p.types steps i ≡ Some j → IsReconstrained p j → ⊥

-- l is what the constraints of type i allow, which is something, and these constraints are as required
pub record IsLimitOf (p : Program) (i : ℕ) (l : Limit) : Type 0 where
  pub left : (k : WrittenKind) → IsTypeOfKind p.types i k → IsLeft p k i l
  pub good : HasGoodConstraints p i

-- a limit is noted for type i
abbrev pub IsNoted : List (Option ℕ) → ℕ → Type 0
IsNoted at i = (a : ℕ) × (slice_get at i ≡ Some (Some a))

-- each noted limit is right
pub record AreNoted (p : Program) (at : List (Option ℕ)) (limits : List Limit) : Type 0 where
  pub long : length at ≡ length p.types
  pub each : (i a : ℕ) → slice_get at i ≡ Some (Some a) → (l : Limit) × (slice_get limits a ≡ Some l) × IsLimitOf p i l

-- each type of the list is followed by the type that it is a reference or tag of, unless that has a noted limit
pub record IsTrail (ts : List Type') (at : List (Option ℕ)) (start : ℕ) (v : List ℕ) : Type 0 where
  pub inside : (n i : ℕ) → slice_get v n ≡ Some i → i < length ts
  pub follows : (n i j : ℕ) → slice_get v n ≡ Some i → next ts i ≡ Some j
      → IsNoted at j ⊎ (slice_get v (n + 1) ≡ Some j)
  pub first : IsNoted at start ⊎ (slice_get v 0 ≡ Some start)

-- type i breaks the rule
abbrev pub Breaks : Program → Rule → ℕ → Type 0
Breaks p rules.Empty i = IsEmpty p i
Breaks p rules.WrongKind i = HasConstraint p i (IsUnfitConstraint p)
Breaks p rules.Reconstrained i = IsReconstrained p i
Breaks p rules.LowerAboveUpper i = HasConstraint p i (IsTurnedRound p)
Breaks p rules.MarkerPlace i = HasConstraint p i HasMisplacedMarker

-- an end of a constraint leads to value v, which leads back to itself
abbrev pub IsRoundAt : Program → ℕ → Type 0
IsRoundAt p v = (ty : ℕ) × HasConstraint p ty (IsRound p v)

-- the fault is true of the constraints of a program
abbrev pub IsFault : Program → Fault → Type 0
IsFault p faults.Memory = Unit {0}
IsFault p (faults.Circular v) = IsRoundAt p v × (v < length p.values)
IsFault p (faults.At rule ty at) = (ty < length p.types) × Breaks p rule ty

-- the fault of a program that is this fault of the constraints of type ty
abbrev pub fault_of : ConstraintFault → ℕ → Fault
fault_of wrongs.Memory ty = faults.Memory
fault_of (wrongs.Circular v) ty = faults.Circular v
fault_of (wrongs.At rule at) ty = faults.At rule ty at

abbrev pub number_in : Option (Option ℕ) → Option ℕ
number_in None = None
number_in (Some o) = o

-- the number of the limit that is noted for type i
abbrev pub number_noted : List (Option ℕ) → ℕ → Option ℕ
number_noted at i = number_in (slice_get at i)

abbrev pub noted_in : List Limit → Option (Option ℕ) → Option Limit
noted_in limits None = None
noted_in limits (Some None) = None
noted_in limits (Some (Some a)) = slice_get limits a

-- the limit that is noted for type i
abbrev pub limit_noted : List (Option ℕ) → List Limit → ℕ → Option Limit
limit_noted at limits i = noted_in limits (slice_get at i)

-- a limit is noted for each type
pub record AreAllNoted (p : Program) (at : List (Option ℕ)) (limits : List Limit) : Type 0 where
  pub noted : AreNoted p at limits
  pub all : (i : ℕ) → i < length p.types → IsNoted at i

-- the table that is owned or lent
abbrev pub held : TableRef → BoundTable
held (Owned t) = t
held (Lent t) = t.now

-- the table has a limit for each type
abbrev pub HoldsOf : Program → BoundTable → Type 0
HoldsOf p t = AreAllNoted p t.at.items t.limits.items

-- a type that type i is a reference or tag of has the constraint
pub record BearsTarget (p : Program) (i : ℕ) (M : Name) (c : ConstraintTree) : Type 0 where
  pub target : ℕ
  pub chain : next p.types i ≡ Some target
  pub bears : BearsConstraint p target M c

-- The codes are those of the characters that the constraints of the types which type i leads to allow. This is asked of
-- the four restricted strings; for other types the list may have any codes.
abbrev pub HasTargetCodes : Program → WrittenKind → ℕ → List ℕ → Type 0
HasTargetCodes p (simple (a_restricted_string s)) i cs = (x : ℕ) →
    (IsMember x cs ↔ (IsTrue (is_character s x)
    × ((M : Name) (c : ConstraintTree) → BearsTarget p i M c → AllowsCharacter c x)))
HasTargetCodes p k i cs = Unit {0}

-- l is what the constraints of the types that type i, of kind k, leads to allow
pub record Inherits (p : Program) (i : ℕ) (l : Limit) (k : WrittenKind) : Type 0 where
  pub numbers : (z : ℤ) →
      (IsInSome z l.numbers
      ↔ (IsCounted k z × ((M : Name) (c : ConstraintTree) → BearsTarget p i M c → AllowsNumber p k M c z)))
  pub codes : HasTargetCodes p k i l.codes
  pub extensible : l.extensible ≡ true
      ↔ ((M : Name) × (c : ConstraintTree) × BearsTarget p i M c × (has_marker c ≡ true))

-- l is what the constraints of the types that type i leads to allow, which is something for each of these types, and
-- these constraints are as required
pub record IsStartOf (p : Program) (i : ℕ) (l : Limit) : Type 0 where
  pub inherits : (k : WrittenKind) → IsTypeOfKind p.types i k → Inherits p i l k
  pub limited : (j : ℕ) → next p.types i ≡ Some j → (m : Limit) × IsLimitOf p j m

-- type i is a reference to type j or a tag before it, and has no constraints of its own
pub record IsShared (ts : List Type') (i j : ℕ) : Type 0 where
  pub type : Type'
  pub there : slice_get ts i ≡ Some type
  pub none : type.constraints ≡ []
  pub chain : next ts i ≡ Some j

-- the ranges of the allowed numbers or sizes of a type of kind k; None if an extension marker allows all, or the ranges
-- have all
abbrev pub AreAllowed : WrittenKind → Limit → Option (List Range) → Type 0
AreAllowed k l None =
    (l.extensible ≡ true)
    ⊎ ((l.extensible ≡ false) × ((z : ℤ) → IsCounted k z → IsInSome z l.numbers))
AreAllowed k l (Some v) = (l.extensible ≡ false) × (v ≡ l.numbers)
