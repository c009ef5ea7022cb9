-- A cursor gives one answer to each question, and begins no more values than it has room for.
use Rattle.std.specs.Prelude.{◌≡◌, suc, ◌<◌, ◌≤◌, Bool, true, false, List, Option, Some, None}
use Rattle.std.proofs.Common.{refl, sym, ap, subst, ◌∙◌}
use Rattle.std.proofs.Math.Nat.{lt-suc_self, le_refl, le_of_lt}
use Rattle.asn_base.specs.declared.schema.TypeId.{TypeId}
use Rattle.asn_base.specs.Types.{Resolved}
use Rattle.codec_code.specs.declared.step.Field.{Field}
use Rattle.codec_code.specs.declared.step.Step.{Step}
use Rattle.codec_source.specs.Events.{Event, Alike, begins, ends, opens, closes, holds, skips, comes, more, among, picks}
use Rattle.octet_answers.specs.States.{State}
use Rattle.octet_answers.specs.Found.{Passes, at_end_of_contents, at_component, passes}
use Rattle.octet_answers.specs.Answers.{Begins, Answers, Takes, FieldNext, MoreNext, NextInSet}

pub lemma_one_answer : (a b c : State) (e f : Event) → Alike e f → Takes a e b → Takes a f c → (e ≡ f) × (b ≡ c)
lemma_one_answer a b c e f k x y = x.only f c k y.answer

less_budget : (a b : State) (t : TypeId) → Begins a t b → b.budget < a.budget
less_budget a b t x =
    subst (λ q. b.budget < q) (sym x.has_budget) (subst (λ q. q.budget < suc x.left) (sym x.is) (lt-suc_self x.left))

pub begins_less : (a b : State) (t : TypeId) → Takes a (begins t) b → b.budget < a.budget
begins_less a b t x = less_budget a b t x.answer

pass_budget : {s : List Resolved} {ss : List Step} {e : Bool} {a b : State} {f : Option Field}
    → Passes s ss e a f b
    → b.budget ≡ a.budget
pass_budget (at_end_of_contents p) = refl
pass_budget (at_component u i) = refl
pass_budget (passes m u n l q) = pass_budget q

same_budget : (a b : State) → b.budget ≡ a.budget → b.budget ≤ a.budget
same_budget a b e = subst (λ q. b.budget ≤ q) e (le_refl b.budget)

never_more_component : (a b : State) (f : Field) (there : Bool) → FieldNext a f there b → b.budget ≤ a.budget
never_more_component a b f true x = same_budget a b (ap (λ q. q.budget) x.is)
never_more_component a b f false x = same_budget a b (ap (λ q. q.budget) x.is)

never_more_more : (a b : State) (there : Bool) → MoreNext a there b → b.budget ≤ a.budget
never_more_more a b true x = same_budget a b (ap (λ q. q.budget) x.is)
never_more_more a b false x = same_budget a b (ap (λ q. q.budget) x.is)

never_more_among : (a b : State) (ss : List Step) (t : Option TypeId) → NextInSet a ss t b → b.budget ≤ a.budget
never_more_among a b ss (Some t) x = same_budget a b (ap (λ q. q.budget) x.is ∙ pass_budget x.pass)
never_more_among a b ss None x = same_budget a b (pass_budget x.pass)

keeps : (a b : State) (e : Event) → Answers a e b → b.budget ≤ a.budget
keeps a b (begins t) x = le_of_lt (less_budget a b t x)
keeps a b ends x = same_budget a b (ap (λ q. q.budget) x.is)
keeps a b (opens h) x = same_budget a b (ap (λ q. q.budget) x.is)
keeps a b closes x = same_budget a b (ap (λ q. q.budget) x.is)
keeps a b (holds k) x = same_budget a b (ap (λ q. q.budget) x.is)
keeps a b skips x = same_budget a b (pass_budget x.pass)
keeps a b (comes f there) x = never_more_component a b f there x
keeps a b (more t s there) x = never_more_more a b there x
keeps a b (among ss t) x = never_more_among a b ss t x
keeps a b (picks ss t) x = same_budget a b (ap (λ q. q.budget) x.is)

pub never_more : (a b : State) (e : Event) → Takes a e b → b.budget ≤ a.budget
never_more a b e x = keeps a b e x.answer
