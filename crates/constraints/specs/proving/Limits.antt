-- The numbers, sizes and characters that constraints of a type of kind k allow (X.680, clauses 49 to 52).
use Rattle.std.specs.Prelude.{◌≡◌, ◌↔◌, ◌⊎◌, ◌<◌, ℕ, ℤ, List, [], Option, Some, None, true, false, ◌||◌, length, slice_get, IsTrue, pos, if◌then◌else◌}
use Rattle.asn_base.specs.Names.{IsMember}
use Rattle.asn_base.specs.Schemas.{is_character}
use Rattle.asn_base.specs.Types.{Range}
use Rattle.asn_base.specs.Typed.{IsInSome}
use Rattle.trees.specs.Values.{Name}
use Rattle.trees.specs.Constraints.{ConstraintTree}
use Rattle.trees.specs.Types.{a_restricted_string}
use Rattle.type_table.specs.Table.{WrittenKind, simple}
use Rattle.resolve.specs.Program.{Program}
use Rattle.constraints.specs.Constraints.{IsFitting, AllowsNumber, AllowsCharacter, has_marker, has_alphabet, is_integer}
use Rattle.constraints.specs.Allowed.{IsCounted}
use Rattle.constraints.specs.Bounded.{IsRound}
use Rattle.constraints.specs.declared.limit.Limit.{Limit}
use Rattle.constraints.specs.declared.meaning.ConstraintMeaning.{ConstraintMeaning}
use Rattle.constraints.specs.declared.meaning.Rule.TheVariants as rules
use Rattle.constraints.specs.declared.meaning.ConstraintFault.{ConstraintFault}
use Rattle.constraints.specs.declared.meaning.ConstraintFault.TheVariants as wrongs
use Rattle.constraints.specs.proving.Meanings.{BreaksAlone}

-- the codes of the characters of one of the four restricted strings; for other types any codes
abbrev pub HasCodes : WrittenKind → List ℕ → Type 0
HasCodes (simple (a_restricted_string s)) cs = (c : ℕ) → (IsMember c cs ↔ IsTrue (is_character s c))
HasCodes k cs = Unit {0}

abbrev pub floor : WrittenKind → Option ℤ
floor k = if is_integer k then None else Some (pos 0)

-- there are no constraints
pub record IsFirst (k : WrittenKind) (l : Limit) : Type 0 where
  pub numbers : (z : ℤ) → (IsInSome z l.numbers ↔ IsCounted k z)
  pub codes : HasCodes k l.codes
  pub extensible : l.extensible ≡ false

pub record IsSame (l m : Limit) : Type 0 where
  pub numbers : l.numbers ≡ m.numbers
  pub codes : l.codes ≡ m.codes
  pub extensible : l.extensible ≡ m.extensible

abbrev pub InAny : Option (List Range) → ℤ → Type 0
InAny None z = Unit {0}
InAny (Some rs) z = IsInSome z rs

abbrev pub AmongAny : Option (List ℕ) → ℕ → Type 0
AmongAny None c = Unit {0}
AmongAny (Some cs) c = IsMember c cs

-- what is allowed after one more constraint
pub record IsNarrowed (l : Limit) (m : ConstraintMeaning) (n : Limit) : Type 0 where
  pub numbers : (z : ℤ) → (IsInSome z n.numbers ↔ (IsInSome z l.numbers × InAny m.numbers z))
  pub codes : (c : ℕ) → (IsMember c n.codes ↔ (IsMember c l.codes × AmongAny m.codes c))
  pub extensible : n.extensible ≡ (l.extensible || m.marker)

-- one of the first n of constraints cs has a marker
pub record IsMarkedIn (cs : List ConstraintTree) (n : ℕ) : Type 0 where
  pub number : ℕ
  pub constraint : ConstraintTree
  pub before : number < n
  pub there : slice_get cs number ≡ Some constraint
  pub marked : has_marker constraint ≡ true

-- m is what the first n of constraints cs, read in module M, allow of what l allows
pub record Narrows (p : Program) (k : WrittenKind) (M : Name) (cs : List ConstraintTree) (n : ℕ)
    (l m : Limit) : Type 0 where
  pub numbers : (z : ℤ) → IsCounted k z →
      (IsInSome z m.numbers
      ↔ (IsInSome z l.numbers × ((i : ℕ) (c : ConstraintTree) → i < n → slice_get cs i ≡ Some c
      → AllowsNumber p k M c z)))
  pub fewer : (z : ℤ) → IsInSome z m.numbers → IsInSome z l.numbers
  pub codes : (x : ℕ) → x < 128 →
      (IsMember x m.codes
      ↔ (IsMember x l.codes × ((i : ℕ) (c : ConstraintTree) → i < n → slice_get cs i ≡ Some c → AllowsCharacter c x)))
  pub fewer_codes : (x : ℕ) → IsMember x m.codes → IsMember x l.codes
  pub marked : m.extensible ≡ true ↔ ((l.extensible ≡ true) ⊎ IsMarkedIn cs n)
  pub fitting : (i : ℕ) (c : ConstraintTree) → i < n → slice_get cs i ≡ Some c → IsFitting p k M c
  -- no constraint comes after a marker
  pub last : (i : ℕ) → i < n → ((l.extensible ≡ true) ⊎ IsMarkedIn cs i) → ⊥

-- constraint i has property P
abbrev pub HasAt : List ConstraintTree → (ℕ → ConstraintTree → Type 0) → Type 0
HasAt cs P = (i : ℕ) × (c : ConstraintTree) × (slice_get cs i ≡ Some c) × P i c

-- the fault is true of one of constraints cs, read in module M; l is what earlier constraints allow
abbrev pub AreWrong : Program → WrittenKind → Name → List ConstraintTree → Limit → ConstraintFault → Type 0
AreWrong p k M cs l wrongs.Memory = Unit {0}
AreWrong p k M cs l (wrongs.Circular v) = HasAt cs (λ i c. IsRound p v k M c)
AreWrong p k M cs l (wrongs.At rules.Reconstrained at) = HasAt cs (λ i c. (l.extensible ≡ true) ⊎ IsMarkedIn cs i)
AreWrong p k M cs l (wrongs.At rule at) = HasAt cs (λ i c. BreaksAlone p k M c rule)

-- no number or size is allowed, or no character of one of the four restricted strings
abbrev pub LeavesNothing : WrittenKind → Limit → Type 0
LeavesNothing k l = ((z : ℤ) → IsInSome z l.numbers → ⊥) ⊎ ((has_alphabet k ≡ true) × (l.codes ≡ []))

-- the limit l allows a number or size, and a character if the type is one of the four restricted strings
pub record LeavesSome (k : WrittenKind) (l : Limit) : Type 0 where
  pub numbers : 0 < length l.numbers
  pub number : (z : ℤ) × IsInSome z l.numbers
  pub codes : has_alphabet k ≡ true → 0 < length l.codes

-- the constraints cs, read in module M, each have a meaning; together they leave no number, size or character of what l
-- allows
pub record LeavesNone (p : Program) (k : WrittenKind) (M : Name) (cs : List ConstraintTree) (l : Limit) : Type 0 where
  pub limit : Limit
  pub narrows : Narrows p k M cs (length cs) l limit
  pub nothing : LeavesNothing k limit

-- the fault is true of all of these constraints
abbrev pub IsLimitFault : Program → WrittenKind → Name → List ConstraintTree → Limit → ConstraintFault → Type 0
IsLimitFault p k M cs l (wrongs.At rules.Empty at) = LeavesNone p k M cs l
IsLimitFault p k M cs l w = AreWrong p k M cs l w
