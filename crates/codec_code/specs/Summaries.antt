-- What is known of a routine without reading its steps.
use Rattle.std.specs.Prelude.{◌≡◌, ℕ, suc, List, [], ◌∷◌, Some, slice_get}
use Rattle.asn_base.specs.declared.schema.TypeId.{TypeId}
use Rattle.asn_base.specs.Types.{Resolved}
use Rattle.codec_code.specs.declared.summary.Summary.{Summary}
use Rattle.codec_code.specs.declared.summary.Summary.TheVariants as summaries
use Rattle.codec_code.specs.declared.step.Field.{Field as Field'}
use Rattle.codec_code.specs.declared.step.RowKind.TheVariants as rows
use Rattle.codec_code.specs.declared.step.Step.{Step}
use Rattle.codec_code.specs.declared.step.Step.TheVariants.{Head, Leaf, Field, SetComponent, Each, End}
use Rattle.codec_code.specs.Routines.{routine_at}

-- the number of components among the steps
abbrev pub fields_in : List Step → ℕ
fields_in [] = 0
fields_in (Field f ∷ ss) = suc (fields_in ss)
fields_in (SetComponent f r ∷ ss) = suc (fields_in ss)
fields_in (s ∷ ss) = fields_in ss

-- the steps are the components of a SEQUENCE, n in all, and what follows them
pub record AreComponents (ss : List Step) (n : ℕ) : Type 0 where
  pub first : Field'
  pub others : List Step
  pub are : ss ≡ Field first ∷ others
  pub as_many : fields_in ss ≡ n

-- the brief is true of the steps
abbrev pub IsSummary : Summary → List Step → Type 0
IsSummary (summaries.Leaf h k) ss = (ss ≡ Head h ∷ Leaf k ∷ End ∷ []) × (h.row ≡ rows.Leaf)
IsSummary (summaries.Components h n) ss = (rest : List Step) × (ss ≡ Head h ∷ rest) × AreComponents rest n
IsSummary (summaries.Elements h) ss = (t : TypeId) × (rest : List Step) × (ss ≡ Head h ∷ Each t ∷ rest)
IsSummary summaries.Any ss = Unit {0}

-- each brief is true of the routine of the type with its number
abbrev pub AreSummaries : List Resolved → List Summary → Type 0
AreSummaries s bs = (t : ℕ) (b : Summary) → slice_get bs t ≡ Some b → IsSummary b (routine_at s t)
