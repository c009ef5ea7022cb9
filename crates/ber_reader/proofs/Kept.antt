-- The schema stays the same while a value is read.
use Rattle.std.proofs.Common.{◌≡◌, ℕ, Bool, true, false, List, refl, sym, ap, ◌∙◌}
use Rattle.std.specs.Prelude.{Option, Some, None, Result, Ok, Err, IfErr}
use Rattle.asn_base.specs.declared.schema.TypeId.{TypeId}
use Rattle.asn_base.specs.Types.{Resolved}
use Rattle.codec_code.specs.declared.step.Field.{Field as Field'}
use Rattle.codec_code.specs.declared.step.Step.{Step}
use Rattle.codec_source.specs.Events.{Event, begins, ends, opens, closes, holds, skips, comes, more, among, picks}
use Rattle.codec_source.specs.Reading.{Asks, head, ending, leaf, rest, left_out, field, component, no_component, element, no_element, sorted_element, no_sorted_element, pick, call, Does, finished, goes_on, reads, Reads}
use Rattle.decode_faults.specs.declared.read_fault.ReadFault.{ReadFault}
use Rattle.decode_faults.specs.declared.read_fault.ReadFault.TheVariants.{Memory}
use Rattle.octet_answers.specs.States.{State}
use Rattle.octet_answers.specs.Found.{Passes, at_end_of_contents, at_component, passes}
use Rattle.octet_answers.specs.Answers.{Answers, Takes, FieldNext, MoreNext, NextInSet}

passes_schema : {s : List Resolved} {ss : List Step} {e : Bool} {a b : State} {f : Option Field'} → Passes s ss e a f b → b.schema ≡ a.schema
passes_schema (at_end_of_contents p) = refl
passes_schema (at_component u i) = refl
passes_schema (passes m u n l q) = passes_schema q

comes_schema : (a b : State) (f : Field') (there : Bool) → FieldNext a f there b → b.schema ≡ a.schema
comes_schema a b f true x = ap (λ q. q.schema) x.is
comes_schema a b f false x = ap (λ q. q.schema) x.is

more_schema : (a b : State) (there : Bool) → MoreNext a there b → b.schema ≡ a.schema
more_schema a b true x = ap (λ q. q.schema) x.is
more_schema a b false x = ap (λ q. q.schema) x.is

among_schema : (a b : State) (ss : List Step) (t : Option TypeId) → NextInSet a ss t b → b.schema ≡ a.schema
among_schema a b ss (Some t) x = ap (λ q. q.schema) x.is ∙ passes_schema x.pass
among_schema a b ss None x = passes_schema x.pass

answer_schema : (a b : State) (e : Event) → Answers a e b → b.schema ≡ a.schema
answer_schema a b (begins t) x = ap (λ q. q.schema) x.is
answer_schema a b ends x = ap (λ q. q.schema) x.is
answer_schema a b (opens h) x = ap (λ q. q.schema) x.is
answer_schema a b closes x = ap (λ q. q.schema) x.is
answer_schema a b (holds k) x = ap (λ q. q.schema) x.is
answer_schema a b skips x = passes_schema x.pass
answer_schema a b (comes f there) x = comes_schema a b f there x
answer_schema a b (more t s there) x = more_schema a b there x
answer_schema a b (among ss t) x = among_schema a b ss t x
answer_schema a b (picks ss t) x = ap (λ q. q.schema) x.is

taken_schema : {a b : State} {e : Event} → Takes a e b → b.schema ≡ a.schema
taken_schema {a} {b} {e} x = answer_schema a b e x.answer

asks_schema : {ss following : List Step} {t : Option TypeId} {a b : State} → Asks Takes ss a following t b → b.schema ≡ a.schema
asks_schema (head x) = taken_schema x
asks_schema (ending x) = taken_schema x
asks_schema (leaf x) = taken_schema x
asks_schema (rest x) = taken_schema x
asks_schema (left_out x) = taken_schema x
asks_schema (field x) = taken_schema x
asks_schema (component x) = taken_schema x
asks_schema (no_component x) = taken_schema x
asks_schema (element x) = taken_schema x
asks_schema (no_element x) = taken_schema x
asks_schema (sorted_element x) = taken_schema x
asks_schema (no_sorted_element x) = taken_schema x
asks_schema (pick x) = taken_schema x
asks_schema call = refl

does_schema : {routine : ℕ → List Step} {ss : List Step} {a b : State} → Does routine Takes ss a b → b.schema ≡ a.schema
does_schema finished = refl
does_schema (goes_on x d) = does_schema d ∙ asks_schema x
does_schema (reads x y d z e) = does_schema e ∙ taken_schema z ∙ does_schema d ∙ taken_schema y ∙ asks_schema x

pub reads_schema : {routine : ℕ → List Step} {t : TypeId} {a b : State} → Reads routine Takes t a b → b.schema ≡ a.schema
reads_schema r = taken_schema r.ended ∙ does_schema r.done ∙ taken_schema r.begun

-- ---- what is answered at the end

abbrev fault_in : {A : Type 0} → Result A ReadFault → ReadFault → ReadFault
fault_in (Ok a) d = d
fault_in (Err e) d = e

pub memory_alone : {A : Type 0} (r : Result A ReadFault) (f : ReadFault) → IfErr r (λ e. e ≡ Memory) → (f ≡ Memory → ⊥) → r ≡ Err f → ⊥
memory_alone (Ok a) f h n e = absurd (let g = e in cc)
memory_alone (Err x) f h n e = n (ap (λ q. fault_in q x) (sym e) ∙ h)

pub refused_memory : {A : Type 0} (P : ReadFault → Type 0) (r : Result A ReadFault) → IfErr r (λ e. e ≡ Memory) → IfErr r (λ e. (e ≡ Memory → ⊥) → P e)
refused_memory P (Ok a) h = h
refused_memory P (Err e) h = λ n. absurd (n h)
