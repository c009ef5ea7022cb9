-- The rules that the types of a schema keep, one by one. A schema is a list of types each of which keeps each rule.
use Rattle.std.specs.Prelude.{◌≡◌, ℕ, ◌<◌, ◌≤◌, Bool, true, false, if◌then◌else◌, List, [], ◌∷◌, ◌++◌, length, map}
use Rattle.std.specs.List.{AllByRecursion}
use Rattle.asn_base.specs.declared.tag.Tag.{Tag}
use Rattle.asn_base.specs.declared.rule.SchemaRule.{SchemaRule}
use Rattle.asn_base.specs.declared.rule.SchemaRule.TheVariants as rules
use Rattle.asn_base.specs.declared.rule.SchemaFault.{SchemaFault}
use Rattle.asn_base.specs.declared.rule.SchemaFault.TheVariants as faults
use Rattle.asn_base.specs.Abstract.{AbstractValue}
use Rattle.asn_base.specs.Names.{IsMember, AreDistinct, AreNames}
use Rattle.asn_base.specs.Types.{Item, NamedBit, Kind, an_integer, an_enumerated, a_bit_string, a_named_bit_string}
use Rattle.asn_base.specs.Types.{an_octet_string, a_utf8_string, a_restricted_string, a_sequence, a_set, a_sequence_of}
use Rattle.asn_base.specs.Types.{a_set_of, a_choice, default, Component, Resolved, Is}
use Rattle.asn_base.specs.Tags.{AllApart, RunsApart, IsChoice}
use Rattle.asn_base.specs.Typed.{HasNumber, IsWithinLimit}
use Rattle.asn_base.specs.Schemas.{AreBounds, IsNumber, IsSize, IsAlphabet, NumbersAscend, HasTag, is_addition, HasValue}
use Rattle.asn_base.specs.Schemas.{GroupsTogether, TagsAscend, components, types_in, IsSchema}

-- the components before the first addition: those of the root
abbrev pub root_of : List Component → List Component
root_of [] = []
root_of (c ∷ cs) = if is_addition c then [] else c ∷ root_of cs

-- the components from the first addition on
abbrev pub additions_of : List Component → List Component
additions_of [] = []
additions_of (c ∷ cs) = if is_addition c then c ∷ cs else additions_of cs

-- the identifiers of the items, bits, components or alternatives
abbrev pub names_in : Kind → List (List ℕ)
names_in (an_enumerated root e more) = map (λ i. i.name) (root ++ more)
names_in (a_named_bit_string bs) = map (λ b. b.name) bs
names_in (a_sequence e cs) = map (λ c. c.name) cs
names_in (a_set e cs) = map (λ c. c.name) cs
names_in (a_choice root e more) = map (λ a. a.name) (root ++ more)
names_in k = []

-- the bounds of a constraint are those of its root (X.680, clauses 51 and 52)
abbrev pub HasBounds : Kind → Type 0
HasBounds (an_integer c) = AreBounds IsNumber c
HasBounds (a_bit_string c) = AreBounds IsSize c
HasBounds (an_octet_string c) = AreBounds IsSize c
HasBounds (a_utf8_string c) = AreBounds IsSize c
HasBounds (a_restricted_string k codes c) = AreBounds IsSize c
HasBounds (a_sequence_of c u) = AreBounds IsSize c
HasBounds (a_set_of c u) = AreBounds IsSize c
HasBounds k = Unit {0}

-- the codes are those of characters, in ascending order (X.680, clause 41)
abbrev pub HasAlphabet : Kind → Type 0
HasAlphabet (a_restricted_string k codes c) = IsAlphabet k codes
HasAlphabet k = Unit {0}

-- the numbers of items ascend, in the root and in the additions, and none is there twice (X.680, clause 20)
pub record AreItemNumbers (root more : List Item) : Type 0 where
  pub limits : AllByRecursion (λ i. IsWithinLimit i.number) (root ++ more)
  pub root_ascends : NumbersAscend root
  pub more_ascend : NumbersAscend more
  pub apart : AllByRecursion (λ i. HasNumber root i.number → ⊥) more

-- each named bit has a place of its own (X.680, clause 22), and none is above 65,535 (own rule)
pub record ArePlaces (bs : List NamedBit) : Type 0 where
  pub places : AreDistinct (map (λ b. b.place) bs)
  pub limits : AllByRecursion (λ b. b.place ≤ 65535) bs

abbrev pub HasNumbers : Kind → Type 0
HasNumbers (an_enumerated root e more) = AreItemNumbers root more
HasNumbers (a_named_bit_string bs) = ArePlaces bs
HasNumbers k = Unit {0}

-- at least `least` are in the root, which has at most `most`, and at most 64 are additions (own rule)
pub record AreFew (least most root more : ℕ) : Type 0 where
  pub some : least ≤ root
  pub few_root : root ≤ most
  pub few_more : more ≤ 64

-- how many items, components or alternatives there may be (own rule); and there is one bit, if bits are named
abbrev pub HasFewMembers : Kind → Type 0
HasFewMembers (an_enumerated root e more) = AreFew 1 1024 (length root) (length more)
HasFewMembers (a_named_bit_string bs) = 1 ≤ length bs
HasFewMembers (a_sequence e cs) = AreFew 0 256 (length (root_of cs)) (length (additions_of cs))
HasFewMembers (a_set e cs) = AreFew 0 256 (length (root_of cs)) (length (additions_of cs))
HasFewMembers (a_choice root e more) = AreFew 1 256 (length root) (length more)
HasFewMembers k = Unit {0}

-- additions come last, those in version brackets adjacent, and there are none without a marker (X.680, clause 25)
pub record AreAfterMarker (e : Bool) (cs : List Component) : Type 0 where
  pub behind : AllByRecursion (λ c. is_addition c ≡ true) (additions_of cs)
  pub groups : GroupsTogether (additions_of cs)
  pub marked : e ≡ false → additions_of cs ≡ []

abbrev pub HasMarker : Kind → Type 0
HasMarker (an_enumerated root e more) = e ≡ false → more ≡ []
HasMarker (a_sequence e cs) = AreAfterMarker e cs
HasMarker (a_set e cs) = AreAfterMarker e cs
HasMarker (a_choice root e more) = e ≡ false → more ≡ []
HasMarker k = Unit {0}

-- each component of a SET and each alternative has a tag of its own (own rule)
abbrev pub HasOwnTags : List Resolved → Kind → Type 0
HasOwnTags s (a_set e cs) = AllByRecursion (λ c. HasTag s c.type) cs
HasOwnTags s (a_choice root e more) = AllByRecursion (λ a. HasTag s a.type) (root ++ more)
HasOwnTags s k = Unit {0}

-- the additions of a CHOICE are in the canonical order of their tags (X.680, clause 29)
abbrev pub HasOrder : List Resolved → Kind → Type 0
HasOrder s (a_choice root e more) = TagsAscend s more
HasOrder s k = Unit {0}

-- no tag is a first tag of two components of a SET, or of two alternatives (X.680, clauses 27.3 and 29.3)
abbrev pub HasFirstTagsApart : List Resolved → Kind → Type 0
HasFirstTagsApart s (a_set e cs) = AllApart s (map (λ c. c.type) cs)
HasFirstTagsApart s (a_choice root e more) = AllApart s (map (λ a. a.type) (root ++ more))
HasFirstTagsApart s k = Unit {0}

-- first tags differ in each run of a SEQUENCE (X.680, clause 25.6.1)
abbrev pub HasRunsApart : List Resolved → Kind → Type 0
HasRunsApart s (a_sequence e cs) = RunsApart s cs
HasRunsApart s k = Unit {0}

-- type u of the schema is type t, or contains type t at any depth
pub data Contains (s : List Resolved) (t : ℕ) : ℕ → Type 0 where
  is_itself : Contains s t t
  contains_in : {u v : ℕ} {tags : List Tag} {k : Kind}
      → Is s u tags k
      → IsMember v (types_in k)
      → Contains s t v
      → Contains s t u

-- a component of this kind has a DEFAULT, and its type is type t or contains type t (own rule)
pub record DefaultLeadsTo (s : List Resolved) (k : Kind) (t : ℕ) : Type 0 where
  pub component : Component
  pub stands : IsMember component (components k)
  pub value : AbstractValue
  pub has_default : component.presence ≡ default value
  pub back : Contains s t component.type

-- a type with this number, these tags and this kind keeps the rule
abbrev pub Obeys : List Resolved → SchemaRule → ℕ → List Tag → Kind → Type 0
Obeys s rules.Tagged t tags k = tags ≡ [] → IsChoice k
Obeys s rules.FewTags t tags k = length tags ≤ 6
Obeys s rules.Bounds t tags k = HasBounds k
Obeys s rules.Alphabet t tags k = HasAlphabet k
Obeys s rules.Count t tags k = HasFewMembers k
Obeys s rules.Numbers t tags k = HasNumbers k
Obeys s rules.Names t tags k = AreNames (names_in k)
Obeys s rules.Additions t tags k = HasMarker k
Obeys s rules.Members t tags k = AllByRecursion (λ u. u < length s) (types_in k)
Obeys s rules.OwnTags t tags k = HasOwnTags s k
Obeys s rules.Order t tags k = HasOrder s k
Obeys s rules.FirstTags t tags k = HasFirstTagsApart s k
Obeys s rules.RunTags t tags k = HasRunsApart s k
Obeys s rules.Defaults t tags k = AllByRecursion (HasValue s) (components k)
Obeys s rules.NoCircle t tags k = DefaultLeadsTo s k t → ⊥

-- type t of the list keeps the rule
abbrev pub Keeps : List Resolved → SchemaRule → ℕ → Type 0
Keeps s rule t = (tags : List Tag) (k : Kind) → Is s t tags k → Obeys s rule t tags k

-- the place of a rule in the order in which rules are checked
abbrev pub place_of : SchemaRule → ℕ
place_of rules.Tagged = 0
place_of rules.FewTags = 1
place_of rules.Bounds = 2
place_of rules.Alphabet = 3
place_of rules.Count = 4
place_of rules.Numbers = 5
place_of rules.Names = 6
place_of rules.Additions = 7
place_of rules.Members = 8
place_of rules.OwnTags = 9
place_of rules.Order = 10
place_of rules.FirstTags = 11
place_of rules.RunTags = 12
place_of rules.Defaults = 13
place_of rules.NoCircle = 14

-- all types keep all rules whose places are below n
abbrev pub AllKeep : List Resolved → ℕ → Type 0
AllKeep s n = (rule : SchemaRule) → place_of rule < n → (t : ℕ) → Keeps s rule t

-- type t is the first that breaks the rule: earlier types keep it
pub record IsFirstToBreak (s : List Resolved) (rule : SchemaRule) (t : ℕ) : Type 0 where
  pub broken : Keeps s rule t → ⊥
  pub first : (u : ℕ) → u < t → Keeps s rule u

-- The fault is the first: the type breaks the rule, the types before it keep the rule, and all types keep the rules
-- before. Want of memory can be the fault of any types.
abbrev pub IsFirstFault : List Resolved → SchemaFault → Type 0
IsFirstFault s faults.Memory = Unit {0}
IsFirstFault s (faults.Broken rule t) = IsFirstToBreak s rule t × AllKeep s (place_of rule)

-- the types are no schema, unless there was no memory
abbrev pub IsRefused : List Resolved → SchemaFault → Type 0
IsRefused s faults.Memory = Unit {0}
IsRefused s (faults.Broken rule t) = IsSchema s → ⊥
