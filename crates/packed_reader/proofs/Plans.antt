-- The steps of a routine are those of its type.
use Rattle.std.proofs.Common.{arith, ◌≡◌, ℕ, zero, suc, ◌+◌, ◌≤◌, ◌<◌, List, [], ◌∷◌, length, Some, None, slice_get, ap, subst, sym, refl, ◌∙◌, length-append}
use Rattle.packed_code.specs.Routines.{routine_at, routine_of}
use Rattle.packed_reader.specs.declared.plan.Plan.{Plan}
use Rattle.packed_reader.specs.declared.reader.Progress.{Progress}
use Rattle.packed_reader.specs.proving.Code.{Advanced}
use Rattle.packed_reader.specs.proving.Plans.{IsNothing, PlanFits, run_plan}
use Rattle.packed_reader.specs.proving.Running.{RunsValue, run_steps, run_value}
use Rattle.asn_base.specs.Types.{Resolved, TypeNumber}
use Rattle.packed_code.specs.declared.step.PackedStep.{PackedStep}
use Rattle.packed_encodings.specs.Lengths.{Bits}
use Rattle.packed_readings.specs.Outcome.{IsReading, Outcome, found}
use Rattle.packed_writer.specs.proving.Values.{FieldsFit, StepsFit}

pub fields_of_steps : (s : List Resolved) (t : TypeNumber) (ss : List PackedStep) → StepsFit s t ss → FieldsFit s t ss
fields_of_steps s t [] h = tt
fields_of_steps s t (st ∷ ss) h = (h.0, fields_of_steps s t ss h.2)

pub reading_shorter : {X : Type 0} {P : X → Bits → Type 0} {f : Bits → Outcome X} → IsReading P f → (b r : Bits) (v : X) → f b ≡ found v r → length r ≤ length b
reading_shorter law b r v e =
    let s = law.sound b r v e in
    let l = ap length s.2 in
    let a = length-append s.0 r in
    omega (arith, l, a)

-- ---- a routine and its plan

module _ (s : List Resolved) (l t : ℕ) (k n : ℕ) (b : Bits) (ss : List PackedStep) (p q : Plan) where
  abbrev Same : Type 0
  Same = (s : List Resolved) (l : ℕ) (value : RunsValue) (t k n : ℕ) (b : Bits) → run_steps s l value t ss k n b ≡ run_plan s l value t p k n b

  pub as_plan : ss ≡ routine_at s t → Same → p ≡ q → run_steps s l (run_value s l) t (routine_at s t) k n b ≡ run_plan s l (run_value s l) t q k n b
  as_plan e h g = ap (λ z. run_steps s l (run_value s l) t z k n b) (sym e) ∙ h s l (run_value s l) t k n b ∙ ap (λ z. run_plan s l (run_value s l) t z k n b) g

pub fits_as : (s : List Resolved) (t : ℕ) (ss : List PackedStep) (p q : Plan) → ss ≡ routine_at s t → p ≡ q → (StepsFit s t ss → PlanFits s t p) → StepsFit s t (routine_at s t) → PlanFits s t q
fits_as s t ss p q e g h f = subst (PlanFits s t) g (h (subst (StepsFit s t) (sym e) f))

no_steps : (s : List Resolved) (t : ℕ) → slice_get s t ≡ None → routine_at s t ≡ []
no_steps s t e = ap (λ o. elim o as (λ q. List PackedStep) [ None ↦ [] | Some r ↦ routine_of s r.kind ]) e

there : (s : List Resolved) (t : ℕ) → (slice_get s t ≡ None → ⊥) → t < length s
there [] t h = absurd (h refl)
there (r ∷ s) zero h = omega arith
there (r ∷ s) (suc t) h = let i = there s t h in omega (arith, i)

pub type_there : (s : List Resolved) (t : ℕ) (ss : List PackedStep) (p q : Plan) → ss ≡ routine_at s t → p ≡ q → (ss ≡ [] → IsNothing p) → (IsNothing q → ⊥) → t < length s
type_there s t ss p q e g h f = there s t (λ n. f (subst IsNothing g (h (e ∙ no_steps s t n))))

-- what a call leaves after a value that holds no others
pub leaf_went : {X : Type 0} {P : X → Bits → Type 0} {f : Bits → Outcome X} → IsReading P f → (p q : Progress) (b r : Bits) (v : X) → f b ≡ found v r → q.left ≤ p.left → q.skipped ≡ p.skipped → Advanced p b q r
leaf_went law p q b r v e l s =
    let h = reading_shorter law b r v e in
    record { left = l; room = (let k : q.skipped + length r ≤ p.skipped + length b = omega (arith, h, s) in k) }
