-- The meaning of frames.
use Rattle.std.specs.Prelude.{◌≡◌, ℕ, suc, ◌+◌, ◌*◌, ◌⊎◌, List, [], ◌∷◌, length, Bool, true, false, Option, Some}
use Rattle.std.specs.Prelude.{None, Result, IfErr}
use Rattle.asn_base.specs.declared.schema.TypeId.{TypeId}
use Rattle.codec_code.specs.declared.step.Step.{Step}
use Rattle.codec_code.specs.declared.step.Step.TheVariants.{SetComponent}
use Rattle.decode_faults.specs.declared.read_fault.ReadFault.{ReadFault}
use Rattle.decode_faults.specs.declared.read_fault.ReadFault.TheVariants.{Memory}
use Rattle.codec_source.specs.declared.frame.Frame.{Frame}
use Rattle.codec_source.specs.Events.{Event, begins, ends, Question, to_end}
use Rattle.codec_source.specs.Reading.{Does}
use Rattle.codec_source.specs.Stopping.{Stops, StopsThen}

-- P holds if the result is a fault other than `Memory`
abbrev pub IfRefused : {A : Type 0} → Result A ReadFault → Type 0 → Type 0
IfRefused r P = IfErr r (λ e. (e ≡ Memory → ⊥) → P)

-- P holds of the fault if the result is a fault other than `Memory`
abbrev pub IfRefusedWith : {A : Type 0} → Result A ReadFault → (ReadFault → Type 0) → Type 0
IfRefusedWith r P = IfErr r (λ e. (e ≡ Memory → ⊥) → P e)

-- two conditions that hold of the same states
pub record Same {S : Type 0} (P Q : S → Type 0) : Type 0 where
  pub to : (z : S) → P z → Q z
  pub from : (z : S) → Q z → P z

abbrev pub Never : {S : Type 0} → (S → Type 0) → Type 0
Never {S} P = (z : S) → P z → ⊥

module _ {S : Type 0} (r : ℕ → List Step) (takes : S → Event → S → Type 0) where
  -- these steps lead to the end of a value
  abbrev pub Rests : List Step → S → S → Type 0
  Rests ss x z = (y : S) × Does r takes ss x y × takes y ends z

  -- all frames lead on, the last one first
  abbrev pub Goes : List Frame → S → S → Type 0
  Goes [] x z = x ≡ z
  Goes (f ∷ fs) x z = (y : S) × Goes fs x y × Rests f.steps.now y z

  -- these steps lead to the end of a value, and then the frames lead on
  abbrev pub Before : List Step → List Frame → S → S → Type 0
  Before ss fs x z = (y : S) × Rests ss x y × Goes fs y z

  -- a value of the type is read, if there is one, and then these steps lead on
  abbrev pub Then : Option TypeId → List Step → S → S → Type 0
  Then None ss x z = Does r takes ss x z
  Then (Some t) ss x z =
      (a : S) × (b : S) × (c : S) × takes x (begins t) a × Does r takes (r t.index) a b × takes b ends c
      × Does r takes ss c z

  -- a value of the type is read, these steps lead to the end of a value, and then the frames lead on
  abbrev pub ThenBefore : Option TypeId → List Step → List Frame → S → S → Type 0
  ThenBefore t ss fs x z = (y : S) × ((w : S) × Then t ss x w × takes w ends y) × Goes fs y z

module _ {S : Type 0} (r : ℕ → List Step) (takes : S → Event → S → Type 0) (refuses : S → Question → S → Type 0) where
  -- the steps come to a question without an answer, or they lead to the end of their value, which doesn't end
  abbrev pub RestsStop : List Step → S → S → Type 0
  RestsStop ss x z =
      Stops r takes refuses ss x z
      ⊎ ((y : S) × Does r takes ss x y × ((c : S) → takes y ends c → ⊥) × refuses y to_end z)

  -- one of the frames stops, the last one first
  abbrev pub GoesStop : List Frame → S → S → Type 0
  GoesStop [] x z = ⊥
  GoesStop (f ∷ fs) x z = GoesStop fs x z ⊎ ((y : S) × Goes r takes fs x y × RestsStop f.steps.now y z)

  -- these steps stop, or then one of the frames stops
  abbrev pub BeforeStops : List Step → List Frame → S → S → Type 0
  BeforeStops ss fs x z = RestsStop ss x z ⊎ ((y : S) × Rests r takes ss x y × GoesStop fs y z)

  -- a value of the type, if there is one, or then these steps to the end of a value stop
  abbrev pub ThenStops : Option TypeId → List Step → S → S → Type 0
  ThenStops t ss x z =
      StopsThen r takes refuses t ss x z
      ⊎ ((w : S) × Then r takes t ss x w × ((c : S) → takes w ends c → ⊥) × refuses w to_end z)

  -- they stop, or then one of the frames stops
  abbrev pub ThenBeforeStops : Option TypeId → List Step → List Frame → S → S → Type 0
  ThenBeforeStops t ss fs x z =
      ThenStops t ss x z
      ⊎ ((y : S) × ((w : S) × Then r takes t ss x w × takes w ends y) × GoesStop fs y z)

-- the frames lead to the states to which those at the start lead, and stop only where those stop
pub record IsUnderWay {S : Type 0} (r : ℕ → List Step) (takes : S → Event → S → Type 0)
    (refuses : S → Question → S → ReadFault → Type 0) (start : List Frame) (x : S) (frames : List Frame)
    (y : S) : Type 0 where
  pub same : Same (Goes r takes start x) (Goes r takes frames y)
  pub stops : (e : ReadFault) (z : S)
      → GoesStop r takes (λ a q b. refuses a q b e) frames y z
      → GoesStop r takes (λ a q b. refuses a q b e) start x z

-- the number of steps of the frames, and one for each frame
abbrev pub frame_steps : List Frame → ℕ
frame_steps [] = 0
frame_steps (f ∷ fs) = suc (length f.steps.now) + frame_steps fs

abbrev pub weighs : ℕ → ℕ → List Frame → ℕ
weighs l budget fs = budget * (2 + l) + frame_steps fs

-- whether the step is a component of a SET
abbrev pub is_ranked : Step → Bool
is_ranked (SetComponent f r) = true
is_ranked s = false
