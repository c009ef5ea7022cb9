-- What octets answer, as what a cursor takes that looks for a value.
use Rattle.std.proofs.Common.{◌≡◌, ℕ, List, sym, ap, subst, ◌∙◌}
use Rattle.std.specs.Prelude.{Option, Result, Ok, Err, OnOk, IfOk}
use Rattle.decode_faults.specs.declared.read_fault.ReadFault.{ReadFault}
use Rattle.codec_source.specs.proving.Frames.{IfRefused, IfRefusedWith}
use Rattle.octet_answers.specs.Unanswered.{Leaves}
use Rattle.asn_base.specs.declared.schema.TypeId.{TypeId}
use Rattle.codec_source.specs.Events.{Event, Question, begins}
use Rattle.octet_answers.specs.States.{State}
use Rattle.octet_answers.specs.Answers.{Answers, Takes}
use Rattle.ber_source.specs.proving.Taken.{Law, left_as}
use Rattle.ber_reader.specs.Followed.{Led, led, before_after, found_by, leads_to, Follows, LeavesLed}
use Rattle.ber_reader.specs.Opened.{opens}
use Rattle.ber_reader.specs.Paths.{begun_in}
use Rattle.ber_reader.specs.declared.open.OpenValue.{OpenValue}

taken : Law → (s a b : State) (e : Event) → s ≡ a → Answers s e b → Takes a e b
taken law s a b e i h = subst (λ q. Takes q e b) i (law s b e h)

-- no value begins
abbrev pub IsStill : Event → Type 0
IsStill e = (a : Led) → before_after a e ≡ a.before

one_follows : Law → (s b : State) (p : List OpenValue) (n : Option ℕ) (a : Led) (e : Event) → led s p n ≡ a → IsStill e → Answers s e b → Follows a e (led b p n)
one_follows law s b p n a e i k h = record {
  taken = taken law s a.state b e (ap (λ q. q.state) i) h;
  path = ap (λ q. q.path) i;
  before = ap (λ q. q.before) i ∙ sym (k a);
}

pub follows : {A : Type 0} (law : Law) (r : Result A ReadFault) (s b : State) (p : List OpenValue) (n : Option ℕ) (a : Led) (e : Event) → led s p n ≡ a → IsStill e → OnOk r (Answers s e b) → OnOk r (Follows a e (led b p n))
follows law (Ok x) s b p n a e i k h = one_follows law s b p n a e i k h
follows law (Err f) s b p n a e i k h = h

-- a value begins
pub follows_begun : (law : Law) (s b : State) (p : List OpenValue) (n m : Option ℕ) (a : Led) (t : TypeId) → led s p n ≡ a → m ≡ found_by (leads_to p (opens s.emitted)) (begun_in s.emitted) n → Answers s (begins t) b → Follows a (begins t) (led b p m)
follows_begun law s b p n m a t i e h = record {
  taken = taken law s a.state b (begins t) (ap (λ q. q.state) i) h;
  path = ap (λ q. q.path) i;
  before = e ∙ ap (λ q. before_after q (begins t)) i;
}

pub follows_one : {A : Type 0} (law : Law) (r : Result A ReadFault) (s b : State) (p : List OpenValue) (n : Option ℕ) (a : Led) (e : A → Event) → led s p n ≡ a → ((x : A) → IsStill (e x)) → IfOk r (λ x. Answers s (e x) b) → IfOk r (λ x. Follows a (e x) (led b p n))
follows_one law (Ok x) s b p n a e i k h = one_follows law s b p n a (e x) i (k x) h
follows_one law (Err f) s b p n a e i k h = h

pub never_follows : {A : Type 0} (r : Result A ReadFault) (s : State) (p : List OpenValue) (n : Option ℕ) (a : Led) (e : Event) → led s p n ≡ a → IfRefused r ((b : State) → Answers s e b → ⊥) → IfRefused r ((b : Led) → Follows a e b → ⊥)
never_follows (Ok x) s p n a e i h = h
never_follows (Err f) s p n a e i h = λ other b t. h other b.state (subst (λ q. Answers q.state e b.state) (sym i) t.taken.answer)

pub never_one_follows : {A B : Type 0} (r : Result A ReadFault) (s : State) (p : List OpenValue) (n : Option ℕ) (a : Led) (e : B → Event) → led s p n ≡ a → IfRefused r ((x : B) (b : State) → Answers s (e x) b → ⊥) → IfRefused r ((x : B) (b : Led) → Follows a (e x) b → ⊥)
never_one_follows (Ok x) s p n a e i h = h
never_one_follows (Err f) s p n a e i h = λ other x b t. h other x b.state (subst (λ q. Answers q.state (e x) b.state) (sym i) t.taken.answer)

pub left_follows : {A : Type 0} (r : Result A ReadFault) (s b : State) (p : List OpenValue) (n : Option ℕ) (p' : List OpenValue) (n' : Option ℕ) (a : Led) (q : Question) → led s p n ≡ a → IfRefusedWith r (Leaves s q b) → IfRefusedWith r (LeavesLed a q (led b p' n'))
left_follows r s b p n p' n' a q i h = left_as r s a.state b q (ap (λ z. z.state) i) h
