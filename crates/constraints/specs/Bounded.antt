-- Programs in which every constraint has a meaning and allows something, and how a type breaks that (X.680, clauses 49
-- to 52).
use Rattle.std.specs.Prelude.{◌≡◌, ◌⊎◌, ◌<◌, ℕ, ℤ, true, false, List, Some, slice_get}
use Rattle.asn_base.specs.Schemas.{IsNumber, IsSize}
use Rattle.trees.specs.Values.{Name}
use Rattle.trees.specs.Constraints.{ConstraintTree, values_in, sizes_in, chars_in}
use Rattle.trees.specs.Types.{a_restricted_string}
use Rattle.names.specs.Modules.{OccursIn}
use Rattle.type_table.specs.Table.{Type', WrittenKind, simple, walk}
use Rattle.resolve.specs.Program.{Program, IsAssignment}
use Rattle.range_ends.specs.Ends.{IsTypeOfKind}
use Rattle.range_ends.specs.Ranges.{HasNoEnd, GoesRound, IsReversed}
use Rattle.range_ends.specs.Characters.{HasNoCharacter, IsTurned}
use Rattle.constraints.specs.Constraints.{takes, is_marked, IsFitting}
use Rattle.constraints.specs.Allowed.{IsInRoot, IsInAlphabet}
use Rattle.constraints.specs.Constraints.{has_marker}

-- constraint n of type i is c, read in module M; k is the kind that the type's references and tags lead to
pub record IsWritten (p : Program) (i n : ℕ) (k : WrittenKind) (M : Name) (c : ConstraintTree) : Type 0 where
  pub type : Type'
  pub assigns : Name
  pub there : slice_get p.types i ≡ Some type
  pub written : slice_get type.constraints n ≡ Some c
  pub kind : IsTypeOfKind p.types i k
  pub is_so : IsAssignment p type.assignment M assigns

-- constraint n of type i is c
pub record IsListed (p : Program) (i n : ℕ) (c : ConstraintTree) : Type 0 where
  pub type : Type'
  pub there : slice_get p.types i ≡ Some type
  pub written : slice_get type.constraints n ≡ Some c

-- A constraint of type i comes after one with an extension marker. The earlier one is on the same type, or on a type
-- that its references and tags lead to.
pub record IsReconstrained (p : Program) (i : ℕ) : Type 0 where
  pub number : ℕ
  pub constraint : ConstraintTree
  pub listed : IsListed p i number constraint
  -- how many references and tags lead from type i to the type on which the earlier one is written
  pub steps : ℕ
  -- the number of that type
  pub target : ℕ
  pub chain : walk p.types steps i ≡ Some target
  pub other : ℕ
  pub earlier : ConstraintTree
  pub stood : IsListed p target other earlier
  pub before : ((steps ≡ 0) × (other < number)) ⊎ (0 < steps)
  pub marked : has_marker earlier ≡ true

-- if the kind is one of four string types, the constraints of type i allow at least one character
abbrev pub HasCharacters : Program → WrittenKind → ℕ → Type 0
HasCharacters p (simple (a_restricted_string s)) i = (c : ℕ) × IsInAlphabet p s i c
HasCharacters p k i = Unit {0}

-- what is required of a program's constraints: each fits its type, none comes after an extensible one, and each type is
-- left something
pub record AreBounded (p : Program) : Type 0 where
  -- each constraint is one that its type takes, and has a meaning
  pub fitting : (i n : ℕ) (k : WrittenKind) (M : Name) (c : ConstraintTree) → IsWritten p i n k M c → IsFitting p k M c
  -- no constraint comes after one with an extension marker (own rule; X.680 allows more)
  pub last : (i : ℕ) → IsReconstrained p i → ⊥
  -- a number or size is in each root, and a character in each alphabet
  pub numbers : (i : ℕ) (k : WrittenKind) → IsTypeOfKind p.types i k → (z : ℤ) × IsInRoot p k i z
  pub characters : (i : ℕ) (k : WrittenKind) → IsTypeOfKind p.types i k → HasCharacters p k i

-- ---- how type i breaks that

-- a constraint of type i has property P, which is about its kind, the module in which it is read, and the constraint
pub record HasConstraint (p : Program) (i : ℕ) (P : WrittenKind → Name → ConstraintTree → Type 0) : Type 0 where
  pub number : ℕ
  pub kind : WrittenKind
  pub within : Name
  pub constraint : ConstraintTree
  pub written : IsWritten p i number kind within constraint
  pub such : P kind within constraint

-- some element of the list has the property
abbrev pub HasSuch : {A : Type 0} → List A → (A → Type 0) → Type 0
HasSuch {A} xs P = (x : A) × OccursIn xs x × P x

-- the type doesn't take the constraint, or an end in it isn't a number, a size or a single character
abbrev pub IsUnfitConstraint : Program → WrittenKind → Name → ConstraintTree → Type 0
IsUnfitConstraint p k M (values_in r) = (takes k (values_in r) ≡ false) ⊎ HasSuch r.ranges (HasNoEnd p k M IsNumber)
IsUnfitConstraint p k M (sizes_in r) = (takes k (sizes_in r) ≡ false) ⊎ HasSuch r.ranges (HasNoEnd p k M IsSize)
IsUnfitConstraint p k M (chars_in xs) = (takes k (chars_in xs) ≡ false) ⊎ HasSuch xs HasNoCharacter

-- an end in the constraint leads into a circle, and value v is the first that is met a second time
abbrev pub IsRound : Program → ℕ → WrittenKind → Name → ConstraintTree → Type 0
IsRound p v k M (values_in r) = HasSuch r.ranges (GoesRound p k M v)
IsRound p v k M (sizes_in r) = HasSuch r.ranges (GoesRound p k M v)
IsRound p v k M (chars_in xs) = ⊥

-- the lower end of a range in the constraint is above the upper one
abbrev pub IsTurnedRound : Program → WrittenKind → Name → ConstraintTree → Type 0
IsTurnedRound p k M (values_in r) = HasSuch r.ranges (IsReversed p k M IsNumber)
IsTurnedRound p k M (sizes_in r) = HasSuch r.ranges (IsReversed p k M IsSize)
IsTurnedRound p k M (chars_in xs) = HasSuch xs IsTurned

-- the constraint has an extension marker at a place that is not allowed (own rule)
abbrev pub HasMisplacedMarker : WrittenKind → Name → ConstraintTree → Type 0
HasMisplacedMarker k M c = is_marked k c ≡ false

-- All constraints of type i, and of the types that its references and tags lead to, have a meaning. Together they allow
-- no number, no size or no character.
pub record IsEmpty (p : Program) (i : ℕ) : Type 0 where
  pub kind : WrittenKind
  pub is : IsTypeOfKind p.types i kind
  pub fitting : (steps j n : ℕ) (M : Name) (c : ConstraintTree) →
      walk p.types steps i ≡ Some j →
      IsWritten p j n kind M c →
      IsFitting p kind M c
  pub nothing : ((z : ℤ) → IsInRoot p kind i z → ⊥) ⊎ (HasCharacters p kind i → ⊥)
