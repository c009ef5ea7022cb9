-- What octets answer, as what a cursor takes: values that are read at once.
use Rattle.std.proofs.Common.{◌≡◌, ℕ, Bool, true, false, List, subst}
use Rattle.std.specs.Prelude.{Result, IfOk}
use Rattle.decode_faults.specs.declared.read_fault.ReadFault.{ReadFault}
use Rattle.codec_source.specs.Small.{TakesValue, TakesComponent, TakesElement, TakesChoice, TakesChoiceComponent}
use Rattle.asn_base.specs.declared.schema.TypeId.{TypeId}
use Rattle.codec_code.specs.declared.step.Field.{Field}
use Rattle.codec_code.specs.declared.step.Head.{Head}
use Rattle.codec_code.specs.declared.step.Step.{Step}
use Rattle.encodings.specs.declared.leaf_kind.LeafKind.{LeafKind}
use Rattle.octet_answers.specs.States.{State}
use Rattle.octet_answers.specs.Answers.{Takes}

pub value_as : (r : Result Bool ReadFault) (s a b : State) (t : TypeId) (h : Head) (k : LeafKind)
    → s ≡ a
    → IfOk r (λ yes. yes ≡ true → TakesValue Takes t h k s b)
    → IfOk r (λ yes. yes ≡ true → TakesValue Takes t h k a b)
value_as r s a b t h k e i = subst (λ q. IfOk r (λ yes. yes ≡ true → TakesValue Takes t h k q b)) e i

pub component_as : (r : Result Bool ReadFault) (s a b : State) (f : Field) (h : Head) (k : LeafKind)
    → s ≡ a
    → IfOk r (λ yes. yes ≡ true → TakesComponent Takes f h k s b)
    → IfOk r (λ yes. yes ≡ true → TakesComponent Takes f h k a b)
component_as r s a b f h k e i = subst (λ q. IfOk r (λ yes. yes ≡ true → TakesComponent Takes f h k q b)) e i

pub element_as : (r : Result Bool ReadFault) (s a b : State) (t : TypeId) (sorted : Bool) (h : Head) (k : LeafKind)
    → s ≡ a
    → IfOk r (λ yes. yes ≡ true → TakesElement Takes t sorted h k s b)
    → IfOk r (λ yes. yes ≡ true → TakesElement Takes t sorted h k a b)
element_as r s a b t sorted h k e i = subst (λ q. IfOk r (λ yes. yes ≡ true → TakesElement Takes t sorted h k q b)) e i

pub choice_as : (q : Result Bool ReadFault) (s a b : State) (r : ℕ → List Step) (t : TypeId) (calls : List Step)
    → s ≡ a
    → IfOk q (λ yes. yes ≡ true → TakesChoice r Takes t calls s b)
    → IfOk q (λ yes. yes ≡ true → TakesChoice r Takes t calls a b)
choice_as q s a b r t calls e i = subst (λ j. IfOk q (λ yes. yes ≡ true → TakesChoice r Takes t calls j b)) e i

pub choice_component_as : (q : Result Bool ReadFault) (s a b : State) (r : ℕ → List Step) (f : Field) (calls : List Step)
    → s ≡ a
    → IfOk q (λ yes. yes ≡ true → TakesChoiceComponent r Takes f calls s b)
    → IfOk q (λ yes. yes ≡ true → TakesChoiceComponent r Takes f calls a b)
choice_component_as q s a b r f calls e i = subst (λ j. IfOk q (λ yes. yes ≡ true → TakesChoiceComponent r Takes f calls j b)) e i

pub nothing_as : (r : Result Bool ReadFault) (s a b : State)
    → s ≡ a
    → IfOk r (λ yes. yes ≡ false → b ≡ s)
    → IfOk r (λ yes. yes ≡ false → b ≡ a)
nothing_as r s a b e i = subst (λ q. IfOk r (λ yes. yes ≡ false → b ≡ q)) e i
