-- Components and alternatives that the next tag identifies (X.680, 25.6.1, 27.3 and 29.3).
use Rattle.std.specs.Prelude.{◌≡◌, ℕ, suc, ◌<◌, Bool, true, false, not, ◌||◌, if◌then◌else◌, List, [], ◌∷◌, length}
use Rattle.std.specs.Prelude.{Option, Some, None}
use Rattle.asn_base.specs.declared.tag.Tag.{Tag}
use Rattle.asn_base.specs.declared.schema.TypeId.{TypeId}
use Rattle.asn_base.specs.Types.{Resolved}
use Rattle.asn_base.specs.Tags.{First}
use Rattle.asn_base.specs.Names.{IsMember}
use Rattle.encodings.specs.Header.{Octets}
use Rattle.codec_code.specs.declared.step.Field.{Field as Field'}
use Rattle.codec_code.specs.declared.step.Step.{Step}
use Rattle.codec_code.specs.declared.step.Step.TheVariants.{Field, SetComponent}
use Rattle.codec_code.specs.declared.step.Step.TheVariants.{Call, Rest}
use Rattle.codec_code.specs.Steps.{may_be_absent}
use Rattle.octet_answers.specs.Units.{UnitAt}
use Rattle.octet_answers.specs.States.{State, passing}

-- the component that a step reads
abbrev pub field_in : Step → Option Field'
field_in (Field f) = Some f
field_in (SetComponent f r) = Some f
field_in s = None

-- the step reads a component whose first tag can be g
abbrev pub CanBegin : List Resolved → Tag → Step → Type 0
CanBegin s g p = (f : Field') × (field_in p ≡ Some f) × First s f.ty.index g

-- the first component that these steps read and whose first tag can be g
pub data IsFound (s : List Resolved) (g : Tag) : List Step → Field' → Type 0 where
  found : {p : Step} {ss : List Step} {f : Field'}
      → field_in p ≡ Some f
      → First s f.ty.index g
      → IsFound s g (p ∷ ss) f
  not_yet : {p : Step} {ss : List Step} {f : Field'}
      → (CanBegin s g p → ⊥)
      → IsFound s g ss f
      → IsFound s g (p ∷ ss) f

-- the first alternative, of those that the calls are, whose first tag can be g, with its number
pub data IsChosen (s : List Resolved) (g : Tag) : List Step → ℕ → TypeId → Type 0 where
  chosen : {t : TypeId} {ss : List Step}
      → First s t.index g
      → IsChosen s g (Call t ∷ ss) 0 t
  later : {p : Step} {ss : List Step} {i : ℕ} {t : TypeId}
      → ((u : TypeId) → p ≡ Call u → First s u.index g → ⊥)
      → IsChosen s g ss i t
      → IsChosen s g (p ∷ ss) (suc i) t

-- the step skips additions that the type lacks
abbrev pub is_rest : Step → Bool
is_rest Rest = true
is_rest s = false

-- one of the steps skips additions
abbrev pub is_extensible : List Step → Bool
is_extensible [] = false
is_extensible (p ∷ ss) = is_rest p || is_extensible ss

-- the step reads a component that must be present
abbrev pub must_be_present : Step → Bool
must_be_present (Field f) = not (may_be_absent f.need)
must_be_present (SetComponent f r) = not (may_be_absent f.need)
must_be_present s = false

-- the steps after the last one that reads a component that must be present; `others` if no step does
abbrev pub last_from : List Step → List Step → List Step
last_from others [] = others
last_from others (p ∷ ss) = if must_be_present p then last_from ss ss else last_from others ss

-- the steps after the last component that must be present, or all steps if no component must
abbrev pub last_steps : List Step → List Step
last_steps ss = last_from ss ss

-- each component that must be present was read
pub data AreRead (marks : List ℕ) : List Step → Type 0 where
  are_read : AreRead marks []
  is_read : {p : Step} {ss : List Step}
      → ((f : Field') → field_in p ≡ Some f → may_be_absent f.need ≡ false → IsMember f.place marks)
      → AreRead marks ss
      → AreRead marks (p ∷ ss)

-- Additions that the type lacks are passed, up to a component whose first tag can be the next tag, or to the end of the
-- contents. Each addition is a header and as many octets as it promises, which are not inspected. None is passed in a
-- type that isn't extensible, nor inside 400 levels of headers.
pub data Passes (s : List Resolved) (ss : List Step) (extensible : Bool) : State → Option Field' → State → Type 0 where
  at_end_of_contents : {a : State} → a.here.octets ≡ [] → Passes s ss extensible a None a
  at_component : {a : State} {g : Tag} {c : Bool} {k : ℕ} {x rest : Octets} {f : Field'}
      → UnitAt g c k x rest a.here.octets
      → IsFound s g ss f
      → Passes s ss extensible a (Some f) a
  passes : {a b : State} {g : Tag} {c : Bool} {k : ℕ} {x rest : Octets} {f : Option Field'}
      → extensible ≡ true
      → UnitAt g c k x rest a.here.octets
      → ((f : Field') → IsFound s g ss f → ⊥)
      → length a.outer < 400
      → Passes s ss extensible (passing a k x rest) f b
      → Passes s ss extensible a f b
