-- What all constraints of a type together allow (X.680, clauses 49.1 and 50.8). They are those that are written on it,
-- and those of the types that its references and tags lead to. The bounds that the packed encoding uses are beside it
-- (X.691, clause 10.3).
use Rattle.std.specs.Prelude.{◌≡◌, ◌⊎◌, ◌↔◌, ℕ, ℤ, true, List, Some, slice_get, IsTrue}
use Rattle.asn_base.specs.declared.strings.StringKind.{StringKind}
use Rattle.asn_base.specs.Schemas.{IsNumber, IsSize, IsLeast, IsGreatest, AreBounds, IsAlphabet, is_character}
use Rattle.asn_base.specs.Names.{IsMember}
use Rattle.asn_base.specs.Types.{Bounds, Constraint}
use Rattle.asn_base.specs.Typed.{IsAllowed as Allows}
use Rattle.trees.specs.Values.{Name}
use Rattle.trees.specs.Constraints.{ConstraintTree}
use Rattle.trees.specs.Types.{an_integer, a_restricted_string}
use Rattle.names.specs.Modules.{OccursIn}
use Rattle.type_table.specs.Table.{Type', WrittenKind, simple, walk}
use Rattle.resolve.specs.Program.{Program, IsAssignment}
use Rattle.constraints.specs.Constraints.{AllowsNumber, AllowsCharacter, has_marker, is_integer, has_size}

-- Type i has constraint c, which is read in module M: it is written on the type, or on one that the type's references
-- and tags lead to.
pub record BearsConstraint (p : Program) (i : ℕ) (M : Name) (c : ConstraintTree) : Type 0 where
  -- how many references and tags lead from type i to the type on which the constraint is written
  pub steps : ℕ
  -- the number of that type
  pub target : ℕ
  pub type : Type'
  -- the name in module M in whose assignment that type is written
  pub assigns : Name
  pub chain : walk p.types steps i ≡ Some target
  pub there : slice_get p.types target ≡ Some type
  pub written : OccursIn type.constraints c
  pub is_so : IsAssignment p type.assignment M assigns

-- the numbers that count for a value of kind k: any number of an INTEGER, and any size, which is not negative
abbrev pub IsCounted : WrittenKind → ℤ → Type 0
IsCounted (simple (an_integer ns)) z = IsNumber z
IsCounted k z = IsSize z

-- number or size z is in the root of type i, whose kind is k: each constraint allows z (X.680, clause 50.8)
pub record IsInRoot (p : Program) (k : WrittenKind) (i : ℕ) (z : ℤ) : Type 0 where
  -- z is a number that an INTEGER may have, or a size, which is not negative
  pub counted : IsCounted k z
  pub allowed : (M : Name) (c : ConstraintTree) → BearsConstraint p i M c → AllowsNumber p k M c z

-- a constraint of type i has an extension marker
pub record IsExtensible (p : Program) (i : ℕ) : Type 0 where
  pub within : Name
  pub constraint : ConstraintTree
  pub bears : BearsConstraint p i within constraint
  pub marked : has_marker constraint ≡ true

-- number or size z is allowed by the written constraints of type i, whose kind is k: it is in the root, or there is an
-- extension marker
abbrev pub IsNumberAllowed : Program → WrittenKind → ℕ → ℤ → Type 0
IsNumberAllowed p k i z = IsInRoot p k i z ⊎ (IsCounted k z × IsExtensible p i)

-- The character with code c is allowed in string type i, whose characters are those of s: each constraint allows it.
pub record IsInAlphabet (p : Program) (s : StringKind) (i : ℕ) (c : ℕ) : Type 0 where
  pub character : IsTrue (is_character s c)
  pub allowed : (M : Name) (t : ConstraintTree) → BearsConstraint p i M t → AllowsCharacter t c

-- The bounds of the numbers or sizes of type i that the packed encoding uses: the least and the greatest of the root,
-- and whether there is an extension marker.
pub record AreVisible (p : Program) (k : WrittenKind) (i : ℕ) (b : Bounds) : Type 0 where
  pub least : IsLeast (IsInRoot p k i) b.least
  pub greatest : IsGreatest (IsInRoot p k i) b.greatest
  pub extensible : b.extensible ≡ true ↔ IsExtensible p i

-- these are the codes of the characters that are allowed in a value of type i, one of four string types
abbrev pub AreCharacters : Program → WrittenKind → ℕ → List ℕ → Type 0
AreCharacters p (simple (a_restricted_string s)) i codes = (c : ℕ) → (IsMember c codes ↔ IsInAlphabet p s i c)
AreCharacters p k i codes = ⊥

-- What a resolved type has for the numbers or sizes of type i, which is of kind k. It says what is allowed, and the
-- bounds that the packed encoding uses, as the types of a schema must.
pub record IsConstraintOf (p : Program) (k : WrittenKind) (i : ℕ) (c : Constraint) : Type 0 where
  -- of an INTEGER, what is allowed and the visible bounds agree, as numbers
  pub numbers : is_integer k ≡ true → AreBounds IsNumber c
  -- of a type that takes SIZE, they agree as sizes
  pub sizes : has_size k ≡ true → AreBounds IsSize c
  -- it allows the same numbers or sizes as the written constraints
  pub allowed : (z : ℤ) → IsCounted k z → (Allows c z ↔ IsNumberAllowed p k i z)
  -- the visible bounds are those of the root, and extensible if a written constraint is
  pub visible : AreVisible p k i c.visible

-- What a resolved type has for the characters of type i, one of four string types, whose characters are those of s. It
-- has the codes of the characters that are allowed in a value, in order, at least one.
pub record AreCodesOf (p : Program) (s : StringKind) (i : ℕ) (codes : List ℕ) : Type 0 where
  pub alphabet : IsAlphabet s codes
  -- they are the codes of the characters that the written constraints allow
  pub same : (c : ℕ) → (IsMember c codes ↔ IsInAlphabet p s i c)

abbrev pub HaveOneAlphabet : Program → WrittenKind → (i j : ℕ) → Type 0
HaveOneAlphabet p (simple (a_restricted_string s)) i j = (c : ℕ) → (IsInAlphabet p s i c ↔ IsInAlphabet p s j c)
HaveOneAlphabet p k i j = Unit {0}

-- the constraints of types i and j, both of kind k, allow the same numbers, sizes and characters
pub record LeaveTheSame (p : Program) (k : WrittenKind) (i j : ℕ) : Type 0 where
  pub root : (z : ℤ) → (IsInRoot p k i z ↔ IsInRoot p k j z)
  pub extensible : IsExtensible p i ↔ IsExtensible p j
  pub alphabet : HaveOneAlphabet p k i j
