-- What octets answer, as what a cursor takes.
use Rattle.std.proofs.Common.{◌≡◌, sym, subst}
use Rattle.std.specs.Prelude.{Result, Ok, Err, OnOk, IfOk}
use Rattle.decode_faults.specs.declared.read_fault.ReadFault.{ReadFault}
use Rattle.codec_source.specs.proving.Frames.{IfRefused, IfRefusedWith}
use Rattle.octet_answers.specs.Unanswered.{Leaves}
use Rattle.codec_source.specs.Events.{Event, Question}
use Rattle.octet_answers.specs.States.{State}
use Rattle.octet_answers.specs.Answers.{Answers, Takes}

abbrev pub Law : Type 0
Law = (a b : State) (e : Event) → Answers a e b → Takes a e b

taken : Law → (s a b : State) (e : Event) → s ≡ a → Answers s e b → Takes a e b
taken law s a b e i h = subst (λ q. Takes q e b) i (law s b e h)

pub takes : {A : Type 0} (law : Law) (r : Result A ReadFault) (s a b : State) (e : Event)
    → s ≡ a
    → OnOk r (Answers s e b)
    → OnOk r (Takes a e b)
takes law (Ok x) s a b e i h = taken law s a b e i h
takes law (Err f) s a b e i h = h

pub takes_one : {A : Type 0} (law : Law) (r : Result A ReadFault) (s a b : State) (e : A → Event)
    → s ≡ a
    → IfOk r (λ x. Answers s (e x) b)
    → IfOk r (λ x. Takes a (e x) b)
takes_one law (Ok x) s a b e i h = taken law s a b (e x) i h
takes_one law (Err f) s a b e i h = h

pub never : {A : Type 0} (r : Result A ReadFault) (s a : State) (e : Event)
    → s ≡ a
    → IfRefused r ((b : State) → Answers s e b → ⊥)
    → IfRefused r ((b : State) → Takes a e b → ⊥)
never (Ok x) s a e i h = h
never (Err f) s a e i h = λ other b t. h other b (subst (λ q. Answers q e b) (sym i) t.answer)

pub never_one : {A B : Type 0} (r : Result A ReadFault) (s a : State) (e : B → Event)
    → s ≡ a
    → IfRefused r ((x : B) (b : State) → Answers s (e x) b → ⊥)
    → IfRefused r ((x : B) (b : State) → Takes a (e x) b → ⊥)
never_one (Ok x) s a e i h = h
never_one (Err f) s a e i h = λ other x b t. h other x b (subst (λ q. Answers q (e x) b) (sym i) t.answer)

pub left_as : {A : Type 0} (r : Result A ReadFault) (s a b : State) (q : Question)
    → s ≡ a
    → IfRefusedWith r (Leaves s q b)
    → IfRefusedWith r (Leaves a q b)
left_as (Ok x) s a b q e h = h
left_as (Err f) s a b q e h = λ other. subst (λ z. Leaves z q b f) e (h other)
