-- First tags of types, found at the beginning of their routines (X.680, 25.6.1 and 29.3).
use Rattle.std.specs.Prelude.{◌≡◌, List, [], ◌∷◌, Option, Some, None}
use Rattle.asn_base.specs.declared.tag.Tag.{Tag}
use Rattle.asn_base.specs.declared.schema.TypeId.{TypeId}
use Rattle.asn_base.specs.Types.{Resolved}
use Rattle.codec_code.specs.declared.step.Step.{Step}
use Rattle.codec_code.specs.declared.step.Step.TheVariants.{Head, Pick, Call}
use Rattle.asn_base.specs.Order.{tag_at}

-- the tag of the header that a step is
abbrev pub tag_in : Step → Option Tag
tag_in (Head h) = Some h.tag
tag_in p = None

-- the tag of the header that steps begin with
abbrev pub head_tag : List Step → Option Tag
head_tag [] = None
head_tag (p ∷ ss) = tag_in p

-- the step calls a type with this outermost tag
pub data Begins (s : List Resolved) (g : Tag) : Step → Type 0 where
  begins : {t : TypeId} → tag_at s t.index ≡ Some g → Begins s g (Call t)

-- one of the steps calls a type with this outermost tag
pub data AnyBegins (s : List Resolved) (g : Tag) : List Step → Type 0 where
  this_begins : {p : Step} {ss : List Step} → Begins s g p → AnyBegins s g (p ∷ ss)
  later_begins : {p : Step} {ss : List Step} → AnyBegins s g ss → AnyBegins s g (p ∷ ss)

-- the step is a header with this tag, or a choice between calls, one of which is of a type with this outermost tag
abbrev pub BeginsBy : List Resolved → Tag → Step → List Step → Type 0
BeginsBy s g (Head h) ss = h.tag ≡ g
BeginsBy s g (Pick n) ss = AnyBegins s g ss
BeginsBy s g p ss = ⊥

abbrev pub BeginsWith : List Resolved → Tag → List Step → Type 0
BeginsWith s g [] = ⊥
BeginsWith s g (p ∷ ss) = BeginsBy s g p ss
