-- What is decided about octets that encode a value by the basic rules: whether they do so by the distinguished ones,
-- and if so whether additions were skipped, or else which rule they break, and where.
use Rattle.std.specs.Prelude.{◌≡◌, ℕ, ◌+◌, ◌^◌, ◌<◌, ◌≤◌, ◌++◌, ◌↔◌, Bool, true, false, List, [], ◌∷◌, length, Option, Some, None, slice_get, IfErr, IsTrue, MatchResult, Result, Ok, Err, ◌⊎◌}
use Rattle.asn_base.specs.declared.tag.Tag.{Tag}
use Rattle.asn_base.specs.Abstract.{AbstractValue, Row, row_of_options}
use Rattle.asn_base.specs.Types.{TypeNumber, Kind, Component, Resolved, Is}
use Rattle.asn_base.specs.Typed.{ValueIn, ValueOf, AreComponents, AreElements}
use Rattle.encodings.specs.Header.{Octets, Encodings}
use Rattle.encodings.specs.Orders.{Ascending, InTagOrder}
use Rattle.encodings.specs.Rules.{Basic, Distinguished}
use Rattle.encodings.specs.Encoding.{EncodesTo, ContentsEncode, Members, Elements, IsDefault}
use Rattle.codec_code.specs.declared.step.Step.{Step}
use Rattle.codec_code.specs.declared.step.Step.TheVariants.{SetComponent, Each, EachSorted}
use Rattle.asn_base.specs.declared.schema.TypeId.{TypeId}
use Rattle.codec_code.specs.Routines.{row_of, is_constructed, body, ends, component_in}
use Rattle.views.specs.Tree.{ViewMembers as Members', component_value, placed}
use Rattle.der_check.specs.declared.refusal.Refusal.{Refusal}
use Rattle.der_check.specs.declared.refusal.Refusal.TheVariants.{Broken, Memory}
use Rattle.der_check.specs.declared.rule.Breach.{Breach}
use Rattle.der_check.specs.declared.rule.RuleOfDer.{RuleOfDer}
use Rattle.der_check.specs.declared.rule.RuleOfDer.TheVariants.{OrderOfElements, OrderOfTags}
use Rattle.der_check.specs.Broken.{IsFirst, PrimitiveBreaks, StartsAt, FirstFall, HasMember, HasElement}
use Rattle.der_check.specs.Broken.{Breaks, MemberBreaks}
use Rattle.der_check.specs.Units.{IsUnit, AreUnits}
use Rattle.der_check.specs.Sets.{ReadsComponents, Parted}
use Rattle.der_check.specs.Places.{Has, IsOnly, ArePlaced, Once}

-- octets are refused for a broken rule
abbrev pub IsRefused : Refusal → Type 0
IsRefused (Broken b) = Unit {0}
IsRefused Memory = ⊥

-- P is true of a number of additions, and the answer says whether it is 0; P is true of no number if octets are refused
-- for a broken rule
abbrev pub Decides : (ℕ → Type 0) → Result Bool Refusal → Type 0
Decides P r = MatchResult r (λ b. (j : ℕ) × P j × (IsTrue b ↔ (j ≡ 0))) (λ e. IsRefused e → (j : ℕ) → P j → ⊥)

-- if octets are refused for a broken rule, it is the first one of B, and its offset is that of one of n octets
abbrev pub IsFound : (RuleOfDer → ℕ → Type 0) → ℕ → Refusal → Type 0
IsFound B n (Broken b) = IsFirst B b.rule b.offset × (b.offset < n)
IsFound B n Memory = Unit {0}

abbrev pub Finds : (RuleOfDer → ℕ → Type 0) → ℕ → Result Bool Refusal → Type 0
Finds B n r = IfErr r (IsFound B n)

-- P is decided, and the first rule of B that n octets break is found
abbrev pub Judges : (ℕ → Type 0) → (RuleOfDer → ℕ → Type 0) → ℕ → Result Bool Refusal → Type 0
Judges P B n r = Decides P r × Finds B n r

-- the second refusal is the first one of octets that start at a distance in others
abbrev pub IsMoved : ℕ → Refusal → Refusal → Type 0
IsMoved d (Broken b) (Broken c) = (c.rule ≡ b.rule) × (d + b.offset < 2 ^ 64 → c.offset ≡ d + b.offset)
IsMoved d Memory Memory = Unit {0}
IsMoved d e f = ⊥

-- the last breach is the one at the lower offset: the first one if both are at the same offset, and the second one if
-- that is the only one
abbrev pub IsEarlier : Option Breach → Breach → Breach → Type 0
IsEarlier None b c = c ≡ b
IsEarlier (Some a) b c = ((b.offset < a.offset) × (c ≡ b)) ⊎ ((b.offset < a.offset → ⊥) × (c ≡ a))

-- what the answer about the order of a SET's components says
abbrev pub IsOrder : Result Bool ℕ → Bool → Option Breach → Type 0
IsOrder (Ok b) c o = (c ≡ b) × (o ≡ None)
IsOrder (Err n) c o = o ≡ Some (record { rule = OrderOfTags; offset = n })

-- what is known of components after one more, which is judged so
abbrev pub IsSoFar : Bool → Option Breach → Result Bool Refusal → Bool → Option Breach → Type 0
IsSoFar b o (Ok c) d p = (IsTrue d ↔ (IsTrue b × IsTrue c)) × (p ≡ o)
IsSoFar b o (Err (Broken a)) d p = (c : Breach) × (p ≡ Some c) × IsEarlier o a c
IsSoFar b o (Err Memory) d p = ⊥

-- the refusal of elements that are judged so, of which the one at offset n is out of order
abbrev pub IsWithFall : ℕ → Result Bool Refusal → Refusal → Type 0
IsWithFall n (Ok b) e = e ≡ Broken (record { rule = OrderOfElements; offset = n })
IsWithFall n (Err (Broken b)) e =
    (c : Breach) × (e ≡ Broken c) × IsEarlier (Some (record { rule = OrderOfElements; offset = n })) b c
IsWithFall n (Err Memory) e = e ≡ Memory

-- an encoding starts at offset n of encodings that follow one another, and at no lower one
abbrev pub StartsFirst : Octets → ℕ → Encodings → Type 0
StartsFirst x n ys = StartsAt x n ys × ((m : ℕ) → StartsAt x m ys → n ≤ m)

-- primitive contents octets break a rule at one of them
abbrev pub PrimitiveBreaksBy : Kind → AbstractValue → Octets → Breach → Type 0
PrimitiveBreaksBy k v x b = PrimitiveBreaks k v x b.rule b.offset × (b.offset < length x)

-- one of the encodings ys, in octets o, is the first one out of order R, and starts at offset n
abbrev pub FallsAt : (Octets → Octets → Type 0) → Encodings → Octets → ℕ → Type 0
FallsAt R ys o n = (y : Octets) × FirstFall R ys y n × (n < length o)

-- One of the encodings zs of a SET's components is the first one out of order. It starts at offset n of all encodings
-- ys, in octets o.
abbrev pub ClimbsNot : Encodings → Encodings → Octets → ℕ → Type 0
ClimbsNot zs ys o n = (y : Octets) × (p : ℕ) × FirstFall InTagOrder zs y p × StartsAt y n ys × (n < length o)

-- the values of this many components, in order of definition
abbrev pub components_of : ℕ → Members' → List (Option AbstractValue)
components_of n ms = placed n (λ i. component_value ms i)

-- the form of the header before contents of a kind
abbrev pub form_of : Kind → Bool
form_of k = is_constructed (row_of k)

-- the steps begin with a component of a SET
abbrev pub begins_ranked : List Step → Bool
begins_ranked [] = false
begins_ranked (SetComponent f r ∷ ss) = true
begins_ranked (p ∷ ss) = false

-- the type of the elements that steps begin with, and whether their encodings ascend
abbrev pub element_type : List Step → Option (TypeId × Bool)
element_type [] = None
element_type (Each u ∷ ss) = Some (u, false)
element_type (EachSorted u ∷ ss) = Some (u, true)
element_type (p ∷ ss) = None

-- octets of a message are an encoding of a value of at most n levels by the basic rules
pub record ValueGiven (s : List Resolved) (t : TypeNumber) (n : ℕ) (v : AbstractValue) (o : Octets) : Type 0 where
  pub few : n ≤ 64
  pub value : ValueIn s n t v
  pub count : ℕ
  pub says_it : EncodesTo s Basic t v count o
  pub short : length o ≤ 16777216

-- contents are those of a value of this kind by the basic rules, and these are the steps that read them
pub record ContentsGiven (s : List Resolved) (t : TypeNumber) (n : ℕ) (ss : List Step) (v : AbstractValue) (k : Kind)
    (x : Octets)
    : Type 0 where
  pub few : n ≤ 64
  pub tags : List Tag
  pub is : Is s t tags k
  pub ended : ℕ
  pub steps : ss ≡ body s k ++ ends ended
  pub value : ValueOf s n k v
  pub count : ℕ
  pub holds_it : ContentsEncode s Basic k v count (form_of k) x
  pub short : length x ≤ 16777216

-- the same of elements, with their encodings
pub record ElementsGiven (s : List Resolved) (t : TypeNumber) (n : ℕ) (ws : Row) (xs : Encodings) (o : Octets)
    : Type 0 where
  pub few : n ≤ 64
  pub values : AreElements s n t ws
  pub count : ℕ
  pub says_them : Elements s Basic t ws count xs
  pub units : AreUnits xs o

-- the steps of type t read these components
pub record StepsGiven (s : List Resolved) (t : TypeNumber) (ss : List Step) (cs : List Component) : Type 0 where
  pub reads : ReadsComponents cs 0 ss
  pub placed : (i : ℕ) (c : Component) → slice_get cs i ≡ Some c → component_in s t i ≡ Some c

-- the same of components, with their encodings and those of some additions after them
pub record SequenceGiven (s : List Resolved) (t : TypeNumber) (n : ℕ) (ss : List Step)
    (os : List (Option AbstractValue))
    (cs : List Component) (xs us : Encodings) (o : Octets) : Type 0 where
  pub few : n ≤ 64
  pub steps : StepsGiven s t ss cs
  pub few_places : length os ≤ 320
  pub values : AreComponents s n cs (row_of_options os)
  pub count : ℕ
  pub says_them : Members s Basic cs (row_of_options os) count xs
  pub units : AreUnits (xs ++ us) o

-- the same of a SET, whose encodings are those of components and others
pub record SetGiven (s : List Resolved) (t : TypeNumber) (n : ℕ) (ss : List Step) (os : List (Option AbstractValue))
    (cs : List Component) (xs zs us ys : Encodings) (o : Octets) : Type 0 where
  pub few : n ≤ 64
  pub steps : StepsGiven s t ss cs
  pub few_places : length os ≤ 320
  pub values : AreComponents s n cs (row_of_options os)
  pub count : ℕ
  pub says_them : Members s Basic cs (row_of_options os) count xs
  pub units : AreUnits ys o
  pub parted : Parted s cs ys zs us
  pub places : ArePlaced s ys cs (row_of_options os) xs
  pub once : (x : Octets) → Has x zs → Once x ys

-- the same of the component at place i
pub record MemberGiven (s : List Resolved) (t : TypeNumber) (n : ℕ) (ss : List Step) (v : AbstractValue) (i : ℕ)
    (c : Component)
    (x : Octets) : Type 0 where
  pub all : List Component
  pub steps : StepsGiven s t ss all
  pub is_at : slice_get all i ≡ Some c
  pub given : ValueGiven s c.type n v x

-- octets are an encoding of the component's value by the distinguished rules, and the value isn't the same as its
-- DEFAULT, unless additions were skipped within it (X.690, 11.5)
pub record MemberBy (s : List Resolved) (c : Component) (v : AbstractValue) (x : Octets) (j : ℕ) : Type 0 where
  pub says_it : EncodesTo s Distinguished c.type v j x
  pub no_default : j ≡ 0 → IsDefault s c v → ⊥

-- the same of a component that may be absent
abbrev pub PartGiven : List Resolved → TypeNumber → ℕ → List Step → Option AbstractValue → ℕ → Component → Octets →
    Type 0
PartGiven s t n ss None i c x = Unit {0}
PartGiven s t n ss (Some v) i c x = MemberGiven s t n ss v i c x

abbrev pub PartBy : List Resolved → Component → Option AbstractValue → Octets → ℕ → Type 0
PartBy s c None x j = j ≡ 0
PartBy s c (Some v) x j = MemberBy s c v x j

-- the component's encoding comes first in the octets, and r follows it; r are all the octets if the component is absent
abbrev pub ComesFirst : Option AbstractValue → Octets → Octets → Octets → Type 0
ComesFirst None x r o = o ≡ r
ComesFirst (Some v) x r o = (o ≡ x ++ r) × (length o ≤ 16777216) × ((g : Tag) × IsUnit g x)

-- the component's encoding is among the encodings ys, if the component is present
abbrev pub IsAmong : List Resolved → Component → Option AbstractValue → Octets → Encodings → Octets → Type 0
IsAmong s c None x ys o = Unit {0}
IsAmong s c (Some v) x ys o = AreUnits ys o × IsOnly s c.type ys x

-- the components have these encodings by the distinguished rules, with j unknown additions, those after them included
pub record SequenceBy (s : List Resolved) (os : List (Option AbstractValue)) (cs : List Component) (xs us : Encodings)
    (j : ℕ)
    : Type 0 where
  pub count : ℕ
  pub says_them : Members s Distinguished cs (row_of_options os) count xs
  pub counted : j ≡ count + length us

-- the same of a SET, in order of the components' tags
pub record SetBy (s : List Resolved) (os : List (Option AbstractValue)) (cs : List Component) (xs zs us : Encodings)
    (j : ℕ)
    : Type 0 where
  pub count : ℕ
  pub says_them : Members s Distinguished cs (row_of_options os) count xs
  pub ascend : Ascending InTagOrder zs
  pub counted : j ≡ count + length us

-- the encoding of the component breaks a rule at this offset, if the component is present
abbrev pub PartBreaks : List Resolved → Component → Option AbstractValue → Octets → RuleOfDer → ℕ → Type 0
PartBreaks s c None x r n = ⊥
PartBreaks s c (Some v) x r n = MemberBreaks s c v x r n

-- the same among encodings ys, with the offset in all of these
abbrev pub PartBreaksIn : List Resolved → Component → Option AbstractValue → Octets → Encodings → RuleOfDer → ℕ →
    Type 0
PartBreaksIn s c None x ys r n = ⊥
PartBreaksIn s c (Some v) x ys r n =
    (m : ℕ) × (p : ℕ) × StartsAt x m ys × MemberBreaks s c v x r p × (n ≡ m + p)

-- the encoding of one of the components breaks a rule at this offset of all
pub data SequenceBreaks (s : List Resolved) (cs : List Component) (ws : Row) (xs : Encodings) : RuleOfDer → ℕ →
    Type 0 where
  sequence_breaks : {c : Component} {w : AbstractValue} {x : Octets} {r : RuleOfDer} {m n : ℕ}
      → HasMember cs ws xs c w x m
      → MemberBreaks s c w x r n
      → SequenceBreaks s cs ws xs r (m + n)

-- the same of a SET's components, with encodings zs in the order of the octets, among all encodings ys; or they aren't
-- in the order of their tags
pub data SetBreaks (s : List Resolved) (cs : List Component) (ws : Row) (xs zs ys : Encodings) : RuleOfDer → ℕ →
    Type 0 where
  member_breaks : {c : Component} {w : AbstractValue} {x : Octets} {r : RuleOfDer} {m n p : ℕ}
      → HasMember cs ws xs c w x p
      → StartsAt x m ys
      → MemberBreaks s c w x r n
      → SetBreaks s cs ws xs zs ys r (m + n)
  tag_breaks : {x : Octets} {n p : ℕ}
      → FirstFall InTagOrder zs x p
      → StartsAt x n ys
      → SetBreaks s cs ws xs zs ys OrderOfTags n

-- the encoding of one of the elements breaks a rule at this offset of all
pub data ElementsBreak (s : List Resolved) (u : TypeNumber) (ws : Row) (xs : Encodings) : RuleOfDer → ℕ → Type 0 where
  element_breaks : {w : AbstractValue} {x : Octets} {r : RuleOfDer} {m n : ℕ}
      → HasElement ws xs w x m
      → Breaks s u w x r n
      → ElementsBreak s u ws xs r (m + n)
