-- Tables of types with the tags that are required, and how a type breaks a rule on tags (X.680, clauses 25, 27, 29 and
-- 31, and own rules).
use Rattle.std.specs.Prelude.{◌≡◌, ◌⊎◌, ℕ, ◌<◌, ◌≤◌, Bool, true, false, List, [], Option, Some, slice_get}
use Rattle.asn_base.specs.declared.tag.Tag.{Tag}
use Rattle.trees.specs.declared.types.Keyword.TheVariants.{Implicit}
use Rattle.trees.specs.declared.module.TagDefault.{TagDefault}
use Rattle.trees.specs.declared.module.TagDefault.TheVariants.{Automatic}
use Rattle.trees.specs.declared.types.ListKind.{ListKind}
use Rattle.trees.specs.declared.types.ListKind.TheVariants.{Sequence, Set, Choice}
use Rattle.type_table.specs.Table.{Part, Type', tagged, members, IsWrittenType}
use Rattle.tagging.specs.declared.check.Rule.{Rule}
use Rattle.tagging.specs.declared.check.Rule.TheVariants.{Tags as TagsRule, TagNumber, TagClash, ImplicitChoice, UntaggedChoice, MixedAutomatic}
use Rattle.tagging.specs.Tags.{Label, Tags, WrittenTags, TagCount, bears_tag, automatic, HaveTagNumbers}
use Rattle.tagging.specs.First.{CanBeFirst, is_added_member, Together, Distinct}

-- no SET component and no CHOICE alternative, of the root or an addition, is an untagged CHOICE (own rule); a SEQUENCE
-- component may be one
abbrev pub BearTags : List Type' → ListKind → List Part → Type 0
BearTags ts Sequence cs = Unit {0}
BearTags ts k cs = (n : ℕ) (c : Part) → slice_get cs n ≡ Some c → Tags ts c.ty [] → ⊥

-- a member of this list bears a tag that is written in the list: an addition if `of_additions` is true, else one of the
-- root
pub record Bears (ts : List Type') (cs : List Part) (of_additions : Bool) : Type 0 where
  pub number : ℕ
  pub member : Part
  pub there : slice_get cs number ≡ Some member
  pub is_so : is_added_member member.standing ≡ of_additions
  pub bears : bears_tag (slice_get ts member.ty) ≡ true

-- what the rules on tags require of a table's types
pub record IsTagged (ts : List Type') : Type 0 where
  -- at most four tags are written on a type, through references (own rule: a limit)
  pub few : (i n : ℕ) → TagCount ts i n → n ≤ 4
  -- automatic tags have numbers below 2^31 (own rule: a limit)
  pub numbers : HaveTagNumbers ts
  -- the word IMPLICIT comes before no untagged CHOICE (X.680, clause 31.2)
  pub forms : (i j : ℕ) (t : Tag) (d : TagDefault) (p : Option (ℕ × ℕ)) →
      IsWrittenType ts i (tagged t Implicit j) d p →
      WrittenTags ts j [] → ⊥
  -- a list in an AUTOMATIC module whose additions bear written tags has written tags in its root too (X.680, clauses
  -- 25, 27 and 29)
  pub unmixed : (i : ℕ) (k : ListKind) (m : Bool) (cs : List Part) (p : Option (ℕ × ℕ)) →
      IsWrittenType ts i (members k m cs) Automatic p →
      Bears ts cs true →
      Bears ts cs false
  -- SET components and CHOICE alternatives have a tag of their own (own rule, narrower than X.680)
  pub bear : (i : ℕ) (k : ListKind) (m : Bool) (cs : List Part) (d : TagDefault) (p : Option (ℕ × ℕ)) →
      IsWrittenType ts i (members k m cs) d p →
      BearTags ts k cs
  -- first tags differ where they must (X.680, clauses 25, 27 and 29)
  pub distinct : (i : ℕ) (k : ListKind) (m : Bool) (cs : List Part) (d : TagDefault) (p : Option (ℕ × ℕ)) →
      IsWrittenType ts i (members k m cs) d p →
      Distinct ts k cs

-- exactly one tag can be first in type i
pub record OneFirst (ts : List Type') (i : ℕ) : Type 0 where
  pub tag : Label
  pub is_so : CanBeFirst ts i tag
  pub only : (t : Label) → CanBeFirst ts i t → t ≡ tag

-- each SET component and each CHOICE alternative has exactly one tag that can be first
abbrev pub HaveOneFirst : List Type' → Type 0
HaveOneFirst ts =
    (i : ℕ) (k : ListKind) (m : Bool) (cs : List Part) (d : TagDefault) (p : Option (ℕ × ℕ)) (n : ℕ) (c : Part) →
    IsWrittenType ts i (members k m cs) d p →
    (k ≡ Choice) ⊎ (k ≡ Set) →
    slice_get cs n ≡ Some c →
    OneFirst ts c.ty

-- more than four tags are written on type i
pub record IsOverfull (ts : List Type') (i : ℕ) : Type 0 where
  pub count : ℕ
  pub counts : TagCount ts i count
  pub many : 4 < count

-- the automatic tag of type i has too great a number: 2 to the 31 or more
pub record IsTooGreat (ts : List Type') (i : ℕ) : Type 0 where
  pub number : ℕ
  pub is : automatic ts i ≡ Some number
  pub great : 2147483648 ≤ number

-- type i is tagged with the word IMPLICIT before an untagged CHOICE
pub record IsImplicit (ts : List Type') (i : ℕ) : Type 0 where
  pub tag : Tag
  pub inner : ℕ
  pub default : TagDefault
  pub place : Option (ℕ × ℕ)
  pub is : IsWrittenType ts i (tagged tag Implicit inner) default place
  pub untagged : WrittenTags ts inner []

-- type i is an untagged CHOICE, and directly an alternative of a CHOICE or a component of a SET
pub record IsUntagged (ts : List Type') (i : ℕ) : Type 0 where
  pub list : ℕ
  pub kind : ListKind
  pub marker : Bool
  pub cs : List Part
  pub default : TagDefault
  pub place : Option (ℕ × ℕ)
  pub is : IsWrittenType ts list (members kind marker cs) default place
  pub within : (kind ≡ Choice) ⊎ (kind ≡ Set)
  pub number : ℕ
  pub member : Part
  pub there : slice_get cs number ≡ Some member
  pub at : member.ty ≡ i
  pub untagged : Tags ts i []

-- an encoding can go on with either of the members at p and q, and one tag can be first in both
pub record Clash (ts : List Type') (k : ListKind) (cs : List Part) (p q : ℕ) : Type 0 where
  pub first : Part
  pub second : Part
  pub before : p < q
  pub at_first : slice_get cs p ≡ Some first
  pub at_second : slice_get cs q ≡ Some second
  pub together : Together k cs p q
  pub tag : Label
  pub in_first : CanBeFirst ts first.ty tag
  pub in_second : CanBeFirst ts second.ty tag

-- type i is a list of which two members clash
pub record HasClash (ts : List Type') (i : ℕ) : Type 0 where
  pub kind : ListKind
  pub marker : Bool
  pub cs : List Part
  pub default : TagDefault
  pub place : Option (ℕ × ℕ)
  pub is : IsWrittenType ts i (members kind marker cs) default place
  pub one : ℕ
  pub other : ℕ
  pub clash : Clash ts kind cs one other

-- type i is a list in an AUTOMATIC module of which additions alone bear written tags
pub record IsMixed (ts : List Type') (i : ℕ) : Type 0 where
  pub kind : ListKind
  pub marker : Bool
  pub cs : List Part
  pub place : Option (ℕ × ℕ)
  pub is : IsWrittenType ts i (members kind marker cs) Automatic place
  pub additions : Bears ts cs true
  pub root : Bears ts cs false → ⊥

-- type i breaks this rule
abbrev pub Breaks : List Type' → Rule → ℕ → Type 0
Breaks ts TagsRule i = IsOverfull ts i
Breaks ts TagNumber i = IsTooGreat ts i
Breaks ts TagClash i = HasClash ts i
Breaks ts ImplicitChoice i = IsImplicit ts i
Breaks ts UntaggedChoice i = IsUntagged ts i
Breaks ts MixedAutomatic i = IsMixed ts i
