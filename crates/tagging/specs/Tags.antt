-- The tags of a type: written, automatic and its own, the outermost first (X.680, clauses 8, 25, 27, 29 and 31).
use Rattle.std.specs.Prelude.{◌≡◌, ℕ, zero, suc, ◌<◌, Bool, true, false, not, if◌then◌else◌, List, [], ◌∷◌, Option, Some, None}
use Rattle.std.specs.Prelude.{map, slice_get}
use Rattle.std.specs.List.{list_any}
use Rattle.asn_base.specs.declared.tag.Class.{Class}
use Rattle.asn_base.specs.declared.tag.Class.TheVariants.{Universal, Context}
use Rattle.asn_base.specs.declared.tag.Tag.{Tag}
use Rattle.trees.specs.declared.types.Keyword.{Keyword}
use Rattle.trees.specs.declared.types.Keyword.TheVariants.{Absent, Implicit as ImplicitWord, Explicit as ExplicitWord}
use Rattle.trees.specs.declared.module.TagDefault.{TagDefault}
use Rattle.trees.specs.declared.module.TagDefault.TheVariants.{Explicit as ExplicitTags, Automatic}
use Rattle.trees.specs.declared.types.ElementsKind.{ElementsKind}
use Rattle.trees.specs.declared.types.ElementsKind.TheVariants.{SequenceOf, SetOf}
use Rattle.trees.specs.declared.types.ListKind.TheVariants.{Sequence, Set, Choice}
use Rattle.trees.specs.Types.{universal}
use Rattle.type_table.specs.Table.{Type', WrittenKind, simple, reference, tagged, members, elements, IsWrittenType}
use Rattle.tagging.specs.declared.path.FormedTag.{FormedTag}
use Rattle.tagging.specs.declared.path.TagForm.{TagForm}
use Rattle.tagging.specs.declared.path.TagForm.TheVariants.{Implicit, Explicit}

-- a tag's class and number
abbrev pub Label : Type 0
Label = Class × ℕ

-- the class and the number of this tag
abbrev pub label : Tag → Label
label t = (t.class, t.number)

-- tags, each explicit or implicit, the outermost first
abbrev pub Path : Type 0
Path = List (Label × TagForm)

abbrev pub path_of : List FormedTag → Path
path_of = map (λ x. (label x.tag, x.form))

-- the universal tag with this number
abbrev pub universal_tag : ℕ → Label
universal_tag n = (Universal, n)

-- the form of a tag before a type with these tags; an untagged CHOICE has none (X.680, clause 31.2). The tag's keyword
-- gives the form, or else the module's tag default. A tag without a keyword is explicit before an untagged CHOICE
abbrev pub tag_form : Keyword → TagDefault → Path → TagForm
tag_form ExplicitWord d p = Explicit
tag_form ImplicitWord d p = Implicit
tag_form Absent ExplicitTags p = Explicit
tag_form Absent d [] = Explicit
tag_form Absent d (x ∷ p) = Implicit

-- the universal tag numbers of SEQUENCE OF and SET OF are those of SEQUENCE and SET (X.680, clause 8, table 1)
abbrev pub elements_number : ElementsKind → ℕ
elements_number SequenceOf = 16
elements_number SetOf = 17

-- the tags that a type has by its kind, if it is neither a reference nor a tagged type (X.680, clause 8, table 1)
abbrev pub own : WrittenKind → Option Path
own (simple s) = Some ((universal_tag (universal s), Explicit) ∷ [])
own (members Sequence m cs) = Some ((universal_tag 16, Explicit) ∷ [])
own (members Set m cs) = Some ((universal_tag 17, Explicit) ∷ [])
own (members Choice m cs) = Some []
own (elements y j) = Some ((universal_tag (elements_number y), Explicit) ∷ [])
own k = None

-- the outermost tag
abbrev pub outermost : Path → Option Label
outermost [] = None
outermost (x ∷ p) = Some x.0

-- the tags of type i as its notation gives them, through references
pub data WrittenTags (ts : List Type') : ℕ → Path → Type 0 where
  -- a type that is neither a reference nor tagged has the tags of its kind
  core : {i : ℕ} {k : WrittenKind} {d : TagDefault} {l : Option (ℕ × ℕ)} {p : Path} →
      IsWrittenType ts i k d l →
      own k ≡ Some p →
      WrittenTags ts i p
  -- a reference has the tags of the type that it refers to
  target : {i j : ℕ} {d : TagDefault} {l : Option (ℕ × ℕ)} {p : Path} →
      IsWrittenType ts i (reference j) d l →
      WrittenTags ts j p →
      WrittenTags ts i p
  -- a tagged type has its written tag, and then the tags of the type after that tag
  inside : {i j : ℕ} {t : Tag} {k : Keyword} {d : TagDefault} {l : Option (ℕ × ℕ)} {f : TagForm} {p : Path} →
      IsWrittenType ts i (tagged t k j) d l →
      WrittenTags ts j p →
      f ≡ tag_form k d p →
      WrittenTags ts i ((label t, f) ∷ p)

-- n tags are written on type i, through references
pub data TagCount (ts : List Type') : ℕ → ℕ → Type 0 where
  none_written : {i : ℕ} {k : WrittenKind} {d : TagDefault} {l : Option (ℕ × ℕ)} {p : Path} →
      IsWrittenType ts i k d l →
      own k ≡ Some p →
      TagCount ts i zero
  as_target : {i j n : ℕ} {d : TagDefault} {l : Option (ℕ × ℕ)} →
      IsWrittenType ts i (reference j) d l →
      TagCount ts j n →
      TagCount ts i n
  one_more : {i j n : ℕ} {t : Tag} {k : Keyword} {d : TagDefault} {l : Option (ℕ × ℕ)} →
      IsWrittenType ts i (tagged t k j) d l →
      TagCount ts j n →
      TagCount ts i (suc n)

-- a type of this kind is a tagged type: its notation begins with a tag (X.680, clause 31)
abbrev pub is_tagged : WrittenKind → Bool
is_tagged (tagged t k j) = true
is_tagged k = false

-- the type, if there is one, begins with a written tag; one that a reference leads to does not count (X.680, clauses
-- 25, 27 and 29)
abbrev pub bears_tag : Option Type' → Bool
bears_tag None = false
bears_tag (Some t) = is_tagged t.kind

-- whether a list is tagged automatically: it is in an AUTOMATIC module, and no member, of the root or an addition,
-- bears a tag written in that list. In X.680, clauses 25, 27 and 29, the root alone decides
abbrev pub automatic_kind : List Type' → WrittenKind → TagDefault → Bool
automatic_kind ts (members l m cs) Automatic = not (list_any (λ c. bears_tag (slice_get ts c.ty)) cs)
automatic_kind ts k d = false

-- the type, if there is one, is a list that is tagged automatically
abbrev pub is_automatic : List Type' → Option Type' → Bool
is_automatic ts None = false
is_automatic ts (Some t) = automatic_kind ts t.kind t.default

-- the number of the automatic tag of a member at this place, which is its list and its number there; none if that list
-- is not tagged automatically
abbrev pub automatic_at : List Type' → Option (ℕ × ℕ) → Option ℕ
automatic_at ts None = None
automatic_at ts (Some l) = if is_automatic ts (slice_get ts l.0) then Some l.1 else None

-- the number of the automatic tag of this type, if the type is there and has one
abbrev pub automatic_of : List Type' → Option Type' → Option ℕ
automatic_of ts None = None
automatic_of ts (Some t) = automatic_at ts t.place

-- the number of type i's automatic tag: its place, from 0, in the list that it is a member of. Additions come after the
-- root; version brackets count for nothing
abbrev pub automatic : List Type' → ℕ → Option ℕ
automatic ts i = automatic_of ts (slice_get ts i)

-- the context-specific tag with this number
abbrev pub context_tag : ℕ → Label
context_tag n = (Context, n)

-- the number of an automatic tag is one that a tag can have: it is below 2^31 (own rule: a limit)
abbrev pub HaveTagNumbers : List Type' → Type 0
HaveTagNumbers ts = (i n : ℕ) → automatic ts i ≡ Some n → n < 2147483648

-- the tags of type i: the automatic one, if it has one, is the outermost
pub data Tags (ts : List Type') (i : ℕ) : Path → Type 0 where
  -- a type without an automatic tag has the tags of its notation
  as_written : {p : Path} →
      automatic ts i ≡ None →
      WrittenTags ts i p →
      Tags ts i p
  -- an automatic tag is implicit, and explicit before an untagged CHOICE
  numbered : {n : ℕ} {f : TagForm} {p : Path} →
      automatic ts i ≡ Some n →
      WrittenTags ts i p →
      f ≡ tag_form Absent Automatic p →
      Tags ts i ((context_tag n, f) ∷ p)
