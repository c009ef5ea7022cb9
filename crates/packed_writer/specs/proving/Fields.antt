-- The fields of steps: of one step and others, of the first steps, and whether they fit a type.
use Rattle.std.proofs.Common.{◌≡◌, ℕ, zero, suc, List, [], ◌∷◌, ◌++◌, take, refl, ap}
use Rattle.std.specs.List.{AllByRecursion}
use Rattle.asn_base.specs.Types.{Resolved}
use Rattle.packed_code.specs.Meaning.{next_fields}
use Rattle.packed_code.specs.declared.step.PackedStep.{PackedStep}
use Rattle.packed_code.specs.declared.step.PackedStep.TheVariants as steps
use Rattle.packed_writer.specs.proving.Values.{FieldFits, FieldsFit, fields_in}

pub fields_append : (st : PackedStep) (ss : List PackedStep)
    → fields_in (st ∷ ss) ≡ fields_in (st ∷ []) ++ fields_in ss
fields_append (steps.Field f) ss = refl
fields_append (steps.Member f) ss = refl
fields_append st ss = refl

pub next_is : (n : ℕ) (ss : List PackedStep) → next_fields n ss ≡ fields_in (take n ss)
next_is zero ss = refl
next_is (suc n) [] = refl
next_is (suc n) (steps.Field f ∷ ss) = ap (λ q. f ∷ q) (next_is n ss)
next_is (suc n) (steps.Member f ∷ ss) = ap (λ q. f ∷ q) (next_is n ss)
next_is (suc n) (st ∷ ss) = next_is n ss

pub fields_fit : (s : List Resolved) (t : ℕ) (ss : List PackedStep) → FieldsFit s t ss
    → AllByRecursion (FieldFits s t) (fields_in ss)
fields_fit s t [] h = tt
fields_fit s t (steps.Field f ∷ ss) h = (h.0, fields_fit s t ss h.1)
fields_fit s t (steps.Member f ∷ ss) h = (h.0, fields_fit s t ss h.1)
fields_fit s t (st ∷ ss) h = fields_fit s t ss h.1
