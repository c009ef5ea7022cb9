-- What holds of each type of an accepted schema, by its kind (X.680, clauses 20, 22, 25, 27, 29, 31, 41, 51 and 52).
-- The limits are own rules.
use Rattle.std.specs.Prelude.{◌≡◌, ◌⊎◌, ℕ, ◌<◌, ◌≤◌, ℤ, pos, negsuc, ◌≤ℤ◌, ◌<ℤ◌, Bool, true, false, ◌||◌, ◌==◌, List}
use Rattle.std.specs.Prelude.{[], ◌∷◌, ◌++◌, length, map, Option, Some, None, slice_get, IfSome, IsSomeAnd, IsTrue}
use Rattle.std.specs.Char.{is_ascii, is_ascii_digit, is_ascii_alphanumeric, is_ascii_graphic}
use Rattle.std.specs.List.{AllByRecursion}
use Rattle.asn_base.specs.declared.tag.Tag.{Tag}
use Rattle.asn_base.specs.declared.strings.StringKind.{StringKind}
use Rattle.asn_base.specs.declared.strings.StringKind.TheVariants.{Numeric, Printable, Ia5, Visible}
use Rattle.asn_base.specs.Abstract.{AbstractValue}
use Rattle.asn_base.specs.Names.{IsMember, AreDistinct, AreNames}
use Rattle.asn_base.specs.Types.{Range, Constraint, Item, NamedBit, Alternative, Kind, an_integer, an_enumerated}
use Rattle.asn_base.specs.Types.{a_bit_string, a_named_bit_string, an_octet_string, a_utf8_string, a_restricted_string}
use Rattle.asn_base.specs.Types.{a_sequence, a_set, a_sequence_of, a_set_of, a_choice, mandatory, optional, default}
use Rattle.asn_base.specs.Types.{addition, Component, Resolved, Is}
use Rattle.asn_base.specs.Tags.{First, TagBefore, AllTagged, AllHaveDistinctTags, HasFewTags}
use Rattle.asn_base.specs.Typed.{HasNumber, IsInSome, IsOfGroup, IsWithinLimit, IsValue}

-- ---- constraints

-- l is the least of the numbers for which P holds; None says that they have no lower bound
abbrev pub IsLeast : (ℤ → Type 0) → Option ℤ → Type 0
IsLeast P (Some l) = P l × ((z : ℤ) → P z → l ≤ℤ z)
IsLeast P None = (l : ℤ) → ((z : ℤ) → P z → l ≤ℤ z) → ⊥

-- g is the greatest of the numbers for which P holds; None says that they have no upper bound
abbrev pub IsGreatest : (ℤ → Type 0) → Option ℤ → Type 0
IsGreatest P (Some g) = P g × ((z : ℤ) → P z → z ≤ℤ g)
IsGreatest P None = (g : ℤ) → ((z : ℤ) → P z → z ≤ℤ g) → ⊥

-- Constraint c, on the numbers or sizes for which P holds, allows what a root and its marker say, and has the root's
-- bounds (X.680, clauses 51 and 52). The root has the numbers in some ranges, or all of them. Without an extension
-- marker exactly the root is allowed; with one, every number is.
pub record AreBounds (P : ℤ → Type 0) (c : Constraint) : Type 0 where
  -- None says that the root has all numbers for which P holds
  pub root : Option (List Range)
  pub least : IsLeast (λ z. P z × IfSome root (IsInSome z)) c.visible.least
  pub greatest : IsGreatest (λ z. P z × IfSome root (IsInSome z)) c.visible.greatest
  pub not_extensible : c.visible.extensible ≡ false → c.allowed ≡ root
  pub extensible : c.visible.extensible ≡ true → c.allowed ≡ None

-- a constraint on an INTEGER is about every number: this holds of each
abbrev pub IsNumber : ℤ → Type 0
IsNumber z = Unit {0}

-- a constraint on sizes is about numbers that are not negative
abbrev pub IsSize : ℤ → Type 0
IsSize (pos n) = Unit {0}
IsSize (negsuc n) = ⊥

-- ---- alphabets

-- the string type has a character with this code (X.680, clause 41)
abbrev pub is_character : StringKind → ℕ → Bool
is_character Numeric c = is_ascii_digit c || (c == 32)
is_character Printable c =
    is_ascii_alphanumeric c || (c == 32) || (c == 39) || (c == 40) || (c == 41) || (c == 43) || (c == 44)
    || (c == 45) || (c == 46) || (c == 47) || (c == 58) || (c == 61) || (c == 63)
is_character Ia5 c = is_ascii c
is_character Visible c = is_ascii_graphic c || (c == 32)

-- the codes are in ascending order, and none is there twice
abbrev pub CodesAscend : List ℕ → Type 0
CodesAscend [] = Unit {0}
CodesAscend (c ∷ cs) = AllByRecursion (λ d. c < d) cs × CodesAscend cs

-- the codes are those of at least one character of the string type, in ascending order (X.680, clause 41)
pub record IsAlphabet (k : StringKind) (codes : List ℕ) : Type 0 where
  pub some : 1 ≤ length codes
  pub ascend : CodesAscend codes
  pub below_128 : AllByRecursion (λ c. c < 128) codes
  pub are_characters : AllByRecursion (λ c. IsTrue (is_character k c)) codes

-- ---- items and bits

-- the numbers of the items ascend, and none is there twice
abbrev pub NumbersAscend : List Item → Type 0
NumbersAscend [] = Unit {0}
NumbersAscend (i ∷ is) = AllByRecursion (λ j. i.number <ℤ j.number) is × NumbersAscend is

-- The items of an enumeration ascend by number, in the root and in the additions, and no number is there twice (X.680,
-- clause 20). At most 1,024 are in the root, and 64 are additions (own rule).
pub record AreItems (e : Bool) (root more : List Item) : Type 0 where
  pub some : 1 ≤ length root
  pub names : AreNames (map (λ i. i.name) (root ++ more))
  pub limits : AllByRecursion (λ i. IsWithinLimit i.number) (root ++ more)
  pub root_ascends : NumbersAscend root
  pub more_ascend : NumbersAscend more
  -- no addition has the number of a root item
  pub apart : AllByRecursion (λ i. HasNumber root i.number → ⊥) more
  -- without an extension marker there are no additions
  pub marked : e ≡ false → more ≡ []
  pub few_root : length root ≤ 1024
  pub few_more : length more ≤ 64

-- named bits, at least one, each with a name and a place of its own (X.680, clause 22); no place is above 65,535 (own
-- rule)
pub record AreNamedBits (bs : List NamedBit) : Type 0 where
  pub some : 1 ≤ length bs
  pub names : AreNames (map (λ b. b.name) bs)
  pub places : AreDistinct (map (λ b. b.place) bs)
  pub limits : AllByRecursion (λ b. b.place ≤ 65535) bs

-- ---- components and alternatives

-- type t is one of schema s and has a tag of its own: it is no untagged CHOICE
abbrev pub HasTag : List Resolved → ℕ → Type 0
HasTag s t = IsSomeAnd (slice_get s t) (λ r. 0 < length r.tags)

-- the component of a resolved type comes after the extension marker (X.680, clause 25)
abbrev pub is_addition : Component → Bool
is_addition c = elim c.presence [ mandatory ↦ false | optional ↦ false | default d ↦ false | addition o g ↦ true ]

-- the DEFAULT of component c, if it has one, is a value of its type in schema s (X.680, clause 25)
abbrev pub HasValue : List Resolved → Component → Type 0
HasValue s c = (d : AbstractValue) → c.presence ≡ default d → IsValue s c.type d

-- The components in version brackets are adjacent (X.680, clause 25): the component after one in brackets is in the
-- same ones, or no later one is.
abbrev pub GroupsTogether : List Component → Type 0
GroupsTogether [] = Unit {0}
GroupsTogether (c ∷ []) = Unit {0}
GroupsTogether (c ∷ d ∷ cs) =
    ((g : ℕ) → IsOfGroup g c → IsOfGroup g d ⊎ AllByRecursion (λ b. IsOfGroup g b → ⊥) (d ∷ cs))
    × GroupsTogether (d ∷ cs)

-- The components of a SEQUENCE or SET are those of the root, and after the extension marker, if there is one, the
-- additions (X.680, clauses 25 and 27). At most 256 are in the root, and 64 are additions (own rule).
pub record AreListed (s : List Resolved) (e : Bool) (cs : List Component) : Type 0 where
  pub root : List Component
  pub more : List Component
  pub parts : cs ≡ root ++ more
  -- no component of the root is an addition, and each one after the marker is
  pub in_root : AllByRecursion (λ c. is_addition c ≡ false) root
  pub behind : AllByRecursion (λ c. is_addition c ≡ true) more
  -- version brackets hold additions that are adjacent
  pub groups : GroupsTogether more
  -- without an extension marker there are no additions
  pub marked : e ≡ false → more ≡ []
  pub few_root : length root ≤ 256
  pub few_more : length more ≤ 64
  pub names : AreNames (map (λ c. c.name) cs)
  -- the type of each is one of the schema
  pub types : AllByRecursion (λ c. c.type < length s) cs
  pub defaults : AllByRecursion (HasValue s) cs

-- the first tags of the alternatives ascend in the canonical order (X.680, clause 8.6)
abbrev pub TagsAscend : List Resolved → List Alternative → Type 0
TagsAscend s [] = Unit {0}
TagsAscend s (a ∷ as') =
    AllByRecursion (λ b. (g f : Tag) → First s a.type g → First s b.type f → TagBefore g f) as'
    × TagsAscend s as'

-- The alternatives of a CHOICE each have a tag of their own (own rule), and the additions are in the canonical order of
-- their tags (X.680, clause 29). At most 256 are in the root, and 64 are additions (own rule).
pub record AreAlternatives (s : List Resolved) (e : Bool) (root more : List Alternative) : Type 0 where
  pub some : 1 ≤ length root
  pub names : AreNames (map (λ a. a.name) (root ++ more))
  pub types : AllByRecursion (λ a. HasTag s a.type) (root ++ more)
  pub more_ascend : TagsAscend s more
  pub marked : e ≡ false → more ≡ []
  pub few_root : length root ≤ 256
  pub few_more : length more ≤ 64

-- ---- types

-- the elements of a SEQUENCE OF or SET OF are of type u of schema s, and constraint c is one on their number
pub record AreElementsOf (s : List Resolved) (c : Constraint) (u : ℕ) : Type 0 where
  pub bounds : AreBounds IsSize c
  pub type : u < length s

-- what holds of a type of this kind in an accepted schema: its constraints, items, bits, components or alternatives are
-- well formed
abbrev pub IsSound : List Resolved → Kind → Type 0
IsSound s (an_integer c) = AreBounds IsNumber c
IsSound s (an_enumerated root e more) = AreItems e root more
IsSound s (a_bit_string c) = AreBounds IsSize c
IsSound s (a_named_bit_string bs) = AreNamedBits bs
IsSound s (an_octet_string c) = AreBounds IsSize c
IsSound s (a_utf8_string c) = AreBounds IsSize c
IsSound s (a_restricted_string k codes c) = IsAlphabet k codes × AreBounds IsSize c
IsSound s (a_sequence e cs) = AreListed s e cs
IsSound s (a_set e cs) = AreListed s e cs × AllByRecursion (λ c. HasTag s c.type) cs
IsSound s (a_sequence_of c u) = AreElementsOf s c u
IsSound s (a_set_of c u) = AreElementsOf s c u
IsSound s (a_choice root e more) = AreAlternatives s e root more
IsSound s k = Unit {0}

-- the components of a SEQUENCE or SET, and none for another kind
abbrev pub components : Kind → List Component
components (a_sequence e cs) = cs
components (a_set e cs) = cs
components k = []

-- the numbers of the types that a type of this kind contains directly
abbrev pub types_in : Kind → List ℕ
types_in (a_sequence e cs) = map (λ c. c.type) cs
types_in (a_set e cs) = map (λ c. c.type) cs
types_in (a_sequence_of c u) = u ∷ []
types_in (a_set_of c u) = u ∷ []
types_in (a_choice root e more) = map (λ a. a.type) (root ++ more)
types_in k = []

-- type t of schema s is of kind k, or contains a type of kind k at any depth
pub data PathLeadsTo (s : List Resolved) (k : Kind) : ℕ → Type 0 where
  leads_itself : {t : ℕ} {tags : List Tag}
      → Is s t tags k
      → PathLeadsTo s k t
  leads_onward : {t u : ℕ} {tags : List Tag} {m : Kind}
      → Is s t tags m
      → IsMember u (types_in m)
      → PathLeadsTo s k u
      → PathLeadsTo s k t

-- Type t of schema s has a component with a DEFAULT whose type leads back to the kind that contains the component (own
-- rule). The meaning of the DEFAULT would depend on itself.
pub record IsDefaultCircle (s : List Resolved) (t : ℕ) : Type 0 where
  pub tags : List Tag
  pub kind : Kind
  pub is : Is s t tags kind
  pub component : Component
  pub stands : IsMember component (components kind)
  pub value : AbstractValue
  pub has_default : component.presence ≡ default value
  pub back : PathLeadsTo s kind component.type

-- The list of types is an accepted schema: each type is sound and has few tags, first tags are distinct where they must
-- be, and no DEFAULT depends on itself.
pub record IsSchema (s : List Resolved) : Type 0 where
  pub tagged : AllTagged s
  pub distinct_tags : AllHaveDistinctTags s
  pub few_tags : HasFewTags s
  pub sound : (t : ℕ) (tags : List Tag) (k : Kind) → Is s t tags k → IsSound s k
  pub no_circle : (t : ℕ) → IsDefaultCircle s t → ⊥
