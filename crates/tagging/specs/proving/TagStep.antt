-- One step of the way through references and tags.
use Rattle.std.specs.Prelude.{◌≡◌, ◌<◌, ℕ, suc, Bool, true, false, length, List, [], ◌∷◌, ◌++◌, Option, Some, None}
use Rattle.asn_base.specs.declared.tag.Tag.{Tag}
use Rattle.trees.specs.declared.types.Keyword.{Keyword}
use Rattle.trees.specs.declared.types.Keyword.TheVariants.{Absent, Implicit as ImplicitWord, Explicit as ExplicitWord}
use Rattle.trees.specs.declared.module.TagDefault.{TagDefault}
use Rattle.trees.specs.declared.module.TagDefault.TheVariants.{Explicit as ExplicitTags}
use Rattle.type_table.specs.Table.{Type'}
use Rattle.tagging.specs.declared.path.TagStep.{TagStep}
use Rattle.tagging.specs.declared.path.TagStep.TheVariants.{Ends, Inside}
use Rattle.tagging.specs.declared.path.TagForm.{TagForm}
use Rattle.tagging.specs.declared.path.TagForm.TheVariants.{Implicit, Explicit}
use Rattle.tagging.specs.Tags.{Label, label, Path, tag_form, outermost, WrittenTags, TagCount}

-- the tags of a type that is neither a reference nor tagged, by its universal tag
abbrev pub ending : Option Tag → Path
ending None = []
ending (Some t) = (label t, Explicit) ∷ []

-- after type i's references, tag t is written before type j
pub record IsInside (ts : List Type') (i : ℕ) (t : Tag) (k : Keyword) (d : TagDefault) (j : ℕ) : Type 0 where
  pub there : j < length ts
  pub tags : (p : Path) → WrittenTags ts j p → WrittenTags ts i ((label t, tag_form k d p) ∷ p)
  pub count : (n : ℕ) → TagCount ts j n → TagCount ts i (suc n)

-- what comes after type i's references: no more written tags, or this one
abbrev pub IsStep : List Type' → ℕ → TagStep → Type 0
IsStep ts i (Ends o) = WrittenTags ts i (ending o) × TagCount ts i 0
IsStep ts i (Inside t k d j) = IsInside ts i t k d j

-- the outermost of the tags that type i's notation has
pub record Outermost (ts : List Type') (i : ℕ) (o : Option Label) : Type 0 where
  pub path : Path
  pub written : WrittenTags ts i path
  pub is : o ≡ outermost path

-- the form of a tag; the truth value says whether an untagged CHOICE comes after the tag
abbrev pub form_before : Keyword → TagDefault → Bool → TagForm
form_before ExplicitWord d b = Explicit
form_before ImplicitWord d b = Implicit
form_before Absent ExplicitTags b = Explicit
form_before Absent d true = Explicit
form_before Absent d false = Implicit

-- new is old and then the tags that type i's notation has
pub record Adds (ts : List Type') (i : ℕ) (old new : Path) : Type 0 where
  pub path : Path
  pub written : WrittenTags ts i path
  pub is : new ≡ old ++ path
