-- What a plan of a routine reads.
use Rattle.std.specs.Prelude.{◌≡◌, ℕ, List, take}
use Rattle.asn_base.specs.Types.{Resolved, TypeNumber}
use Rattle.packed_code.specs.declared.step.PackedStep.{PackedStep}
use Rattle.packed_encodings.specs.Computed.{kind_at}
use Rattle.decode_faults.specs.declared.refusal.Refusal.TheVariants as why
use Rattle.packed_reader.specs.declared.plan.Plan.{Plan}
use Rattle.packed_reader.specs.declared.plan.Plan.TheVariants as plans
use Rattle.packed_reader.specs.Readings.{stop, next, plain}
use Rattle.packed_reader.specs.Steps.{call_from}
use Rattle.packed_reader.specs.proving.Running.{Runs, RunsValue, run_chosen, run_each, run_fields, run_leaf}
use Rattle.packed_writer.specs.proving.Values.{FieldsFit, IsList, IsPick}
use Rattle.asn_base.specs.Abstract.{AbstractValue}

abbrev pub run_plan : List Resolved → ℕ → RunsValue → TypeNumber → Plan → Runs AbstractValue
run_plan s l value t (plans.Fields x) k n b = run_fields s l value t x.extensible x.count x.steps.now k n b
run_plan s l value t (plans.List u sorted) k n b = run_each s value t sorted u.index k n b
run_plan s l value t (plans.Choice calls) k n b =
    next (plain (call_from calls.now b)) (λ c r. run_chosen value c k n r)
run_plan s l value t plans.Leaf k n b = run_leaf (kind_at s t) k n b
run_plan s l value t plans.Nothing k n b = stop why.Outside b

-- the calls are the first ones of a CHOICE
pub record AreCalls (s : List Resolved) (t : TypeNumber) (calls : List PackedStep) : Type 0 where
  pub all : List PackedStep
  pub count : ℕ
  pub pick : IsPick s t all
  pub is : calls ≡ take count all

-- the steps of a plan are those of type t
abbrev pub PlanFits : List Resolved → TypeNumber → Plan → Type 0
PlanFits s t (plans.Fields x) = FieldsFit s t x.steps.now
PlanFits s t (plans.List u sorted) = IsList s t
PlanFits s t (plans.Choice calls) = AreCalls s t calls.now
PlanFits s t plans.Leaf = Unit {0}
PlanFits s t plans.Nothing = Unit {0}

abbrev pub IsNothing : Plan → Type 0
IsNothing plans.Nothing = Unit {0}
IsNothing p = ⊥
