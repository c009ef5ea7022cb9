-- What the check of one type returns (X.680, clauses 25, 27, 29 and 31).
use Rattle.std.specs.Prelude.{◌≡◌, ℕ, ◌<◌, ◌≤◌, Bool, true, false, length, List, [], Option, Some, slice_get, All, Result, MatchResult}
use Rattle.trees.specs.declared.types.Keyword.{Keyword}
use Rattle.trees.specs.declared.types.Keyword.TheVariants.{Implicit}
use Rattle.trees.specs.declared.module.TagDefault.{TagDefault}
use Rattle.trees.specs.declared.module.TagDefault.TheVariants.{Automatic}
use Rattle.trees.specs.declared.types.ListKind.{ListKind}
use Rattle.type_table.specs.Table.{Part, Type', WrittenKind, tagged, members, IsWrittenType}
use Rattle.tagging.specs.declared.check.Fault.{Fault}
use Rattle.tagging.specs.declared.check.Fault.TheVariants.{Memory, At}
use Rattle.tagging.specs.Tags.{WrittenTags, TagCount, bears_tag, automatic}
use Rattle.tagging.specs.First.{is_added_member, Distinct}
use Rattle.tagging.specs.Tagged.{Bears, BearTags, Breaks}

-- type i is a list of this kind with these members, in a module with this tag default
pub record IsList (ts : List Type') (i : ℕ) (k : ListKind) (d : TagDefault) (cs : List Part) : Type 0 where
  pub marker : Bool
  pub place : Option (ℕ × ℕ)
  pub is : IsWrittenType ts i (members k marker cs) d place

-- the members are types of the table
abbrev pub AreThere : List Type' → List Part → Type 0
AreThere ts cs = All (λ c. c.ty < length ts) cs

-- what the rules on tags require of a tag with this keyword before type j
abbrev pub SuitsTag : List Type' → Keyword → ℕ → Type 0
SuitsTag ts Implicit j = WrittenTags ts j [] → ⊥
SuitsTag ts k j = Unit {0}

-- what the rules on tags require of a list in a module with this tag default: its additions bear no written tags if its
-- root bears none
abbrev pub SuitsAutomatic : List Type' → List Part → TagDefault → Type 0
SuitsAutomatic ts cs Automatic = Bears ts cs true → Bears ts cs false
SuitsAutomatic ts cs d = Unit {0}

-- what the rules on tags require of a list
pub record SuitsList (ts : List Type') (k : ListKind) (cs : List Part) (d : TagDefault) : Type 0 where
  pub unmixed : SuitsAutomatic ts cs d
  pub bear : BearTags ts k cs
  pub distinct : Distinct ts k cs

-- what the rules on tags require of a type by its kind
abbrev pub Suits : List Type' → WrittenKind → TagDefault → Type 0
Suits ts (tagged t k j) d = SuitsTag ts k j
Suits ts (members k m cs) d = SuitsList ts k cs d
Suits ts k d = Unit {0}

-- at most four tags are written on type i
abbrev pub HasFew : List Type' → ℕ → Type 0
HasFew ts i = (n : ℕ) → TagCount ts i n → n ≤ 4

-- the number of type i's automatic tag, if it has one, is one that a tag can have
abbrev pub IsNumbered : List Type' → ℕ → Type 0
IsNumbered ts i = (n : ℕ) → automatic ts i ≡ Some n → n < 2147483648

-- type i breaks no rule
pub record IsGood (ts : List Type') (i : ℕ) : Type 0 where
  pub few : HasFew ts i
  pub number : IsNumbered ts i
  pub suits : (k : WrittenKind) (d : TagDefault) (p : Option (ℕ × ℕ)) → IsWrittenType ts i k d p → Suits ts k d

-- the fault is one of this table
abbrev pub OccursAt : List Type' → Fault → Type 0
OccursAt ts Memory = Unit {0}
OccursAt ts (At r i at) = Breaks ts r i

-- what a check returns: success if P holds, or a fault of this table
abbrev pub Checked : List Type' → Result (Unit {0}) Fault → Type 0 → Type 0
Checked ts r P = MatchResult r (λ _. P) (OccursAt ts)

-- the member is an addition, or one of the root, as asked, and bears a tag that is written in the list
pub record BearsHere (ts : List Type') (c : Part) (of_additions : Bool) : Type 0 where
  pub is_so : is_added_member c.standing ≡ of_additions
  pub bears : bears_tag (slice_get ts c.ty) ≡ true

-- the member at index n, of the additions or of the root, bears a tag that is written in the list
pub record BearsAt (ts : List Type') (cs : List Part) (of_additions : Bool) (n : ℕ) : Type 0 where
  pub bearing : Bears ts cs of_additions
  pub is : bearing.number ≡ n

-- no member before index n, of the additions or of the root, bears a tag
abbrev pub NoneBears : List Type' → List Part → Bool → ℕ → Type 0
NoneBears ts cs b n = (r : Bears ts cs b) → n ≤ r.number
