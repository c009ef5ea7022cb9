-- A run with a way that is looked for, and the same run without it.
use Rattle.std.proofs.Common.{arith, ◌≡◌, ◌↔◌, IsTrue, ℕ, ◌+◌, ◌==◌, Bool, true, false, List, [], ◌∷◌, ◌++◌, length, map, refl, sym, ap, subst, ◌∙◌, append_assoc, eqb-true}
use Rattle.std.proofs.Math.Bool.{◌&&◌}
use Rattle.std.proofs.lemmas.List.{append-nil}
use Rattle.std.specs.Prelude.{Option, Some, None}
use Rattle.asn_base.specs.declared.schema.TypeId.{TypeId}
use Rattle.asn_base.specs.Types.{Resolved}
use Rattle.codec_code.specs.declared.step.Step.{Step}
use Rattle.codec_code.specs.Routines.{routine_at}
use Rattle.codec_source.specs.Events.{Question, begins, ends}
use Rattle.codec_source.specs.Reading.{Asks, head, ending, leaf, rest, left_out, field, component, no_component, element, no_element, sorted_element, no_sorted_element, pick, call, Does, finished, goes_on, reads, Reads}
use Rattle.codec_source.specs.Stopping.{Stops, unanswered, answered, StopsThen, stops_on, not_begun, stops_within, not_ended, stops_after, StopsReading}
use Rattle.octet_answers.specs.States.{State, Token, begun, front}
use Rattle.octet_answers.specs.Answers.{Takes}
use Rattle.octet_answers.specs.Unanswered.{Leaves}
use Rattle.decode_faults.specs.declared.read_fault.ReadFault.{ReadFault}
use Rattle.ber_reader.specs.Followed.{Led, led, Follows, LeavesLed, before_after, found_by, leads_to, number_or, same_part, same_steps}
use Rattle.ber_reader.specs.Messages.{IsRead, budget_of}
use Rattle.ber_reader.specs.Opened.{on_last, entered, opens}
use Rattle.ber_reader.specs.Paths.{BeginsBefore, Leads, begun_in, no_token, on_path}
use Rattle.ber_reader.specs.declared.open.OpenValue.{OpenValue}
use Rattle.ber_reader.specs.declared.open.Part.{Part}
use Rattle.ber_reader.specs.declared.open.Part.TheVariants.{Component, Alternative, Element}
use Rattle.ber_reader.proofs.Plain.{front_or}
use Rattle.ber_reader.proofs.Budgets.{Between, asks_emitted, begun_both, end_emitted}
use Rattle.ber_reader.proofs.Followed.{opens_last}
use Rattle.ber_reader.proofs.Paths.{IsReached, reached, stepped}

-- the same questions are asked without the way
record Asked (ss following : List Step) (t : Option TypeId) (a b : Led) : Type 0 where
  asks : Asks Takes ss a.state following t b.state
  path : b.path ≡ a.path
  before : b.before ≡ a.before

asked : {ss following : List Step} {t : Option TypeId} {a b : Led} → Asks Follows ss a following t b → Asked ss following t a b
asked (head x) = record { asks = head x.taken; path = x.path; before = x.before }
asked (ending x) = record { asks = ending x.taken; path = x.path; before = x.before }
asked (leaf x) = record { asks = leaf x.taken; path = x.path; before = x.before }
asked (rest x) = record { asks = rest x.taken; path = x.path; before = x.before }
asked (left_out x) = record { asks = left_out x.taken; path = x.path; before = x.before }
asked (field x) = record { asks = field x.taken; path = x.path; before = x.before }
asked (component x) = record { asks = component x.taken; path = x.path; before = x.before }
asked (no_component x) = record { asks = no_component x.taken; path = x.path; before = x.before }
asked (element x) = record { asks = element x.taken; path = x.path; before = x.before }
asked (no_element x) = record { asks = no_element x.taken; path = x.path; before = x.before }
asked (sorted_element x) = record { asks = sorted_element x.taken; path = x.path; before = x.before }
asked (no_sorted_element x) = record { asks = no_sorted_element x.taken; path = x.path; before = x.before }
asked (pick x) = record { asks = pick x.taken; path = x.path; before = x.before }
asked call = record { asks = call; path = refl; before = refl }

-- the same run without the way
pub does_plainly : {r : ℕ → List Step} {ss : List Step} {x z : Led} → Does r Follows ss x z → Does r Takes ss x.state z.state
does_plainly finished = finished
does_plainly (goes_on q d) = goes_on (asked q).asks (does_plainly d)
does_plainly (reads q g i e d) = reads (asked q).asks g.taken (does_plainly i) e.taken (does_plainly d)

pub reads_plainly : {r : ℕ → List Step} {t : TypeId} {x z : Led} → Reads r Follows t x z → Reads r Takes t x.state z.state
reads_plainly h = record { first = h.first.state; last = h.last.state; begun = h.begun.taken; done = does_plainly h.done; ended = h.ended.taken }

-- the same questions are asked with the way
led_asks : {ss following : List Step} {t : Option TypeId} {a b : State} (p : List OpenValue) (n : Option ℕ) → Asks Takes ss a following t b → Asks Follows ss (led a p n) following t (led b p n)
led_asks p n (head x) = head (record { taken = x; path = refl; before = refl })
led_asks p n (ending x) = ending (record { taken = x; path = refl; before = refl })
led_asks p n (leaf x) = leaf (record { taken = x; path = refl; before = refl })
led_asks p n (rest x) = rest (record { taken = x; path = refl; before = refl })
led_asks p n (left_out x) = left_out (record { taken = x; path = refl; before = refl })
led_asks p n (field x) = field (record { taken = x; path = refl; before = refl })
led_asks p n (component x) = component (record { taken = x; path = refl; before = refl })
led_asks p n (no_component x) = no_component (record { taken = x; path = refl; before = refl })
led_asks p n (element x) = element (record { taken = x; path = refl; before = refl })
led_asks p n (no_element x) = no_element (record { taken = x; path = refl; before = refl })
led_asks p n (sorted_element x) = sorted_element (record { taken = x; path = refl; before = refl })
led_asks p n (no_sorted_element x) = no_sorted_element (record { taken = x; path = refl; before = refl })
led_asks p n (pick x) = pick (record { taken = x; path = refl; before = refl })
led_asks p n call = call

led_begins : {a b : State} {t : TypeId} (p : List OpenValue) (n : Option ℕ) → Takes a (begins t) b → Follows (led a p n) (begins t) (led b p (before_after (led a p n) (begins t)))
led_begins p n g = record { taken = g; path = refl; before = refl }

led_ends : {a b : State} (p : List OpenValue) (n : Option ℕ) → Takes a ends b → Follows (led a p n) ends (led b p n)
led_ends p n g = record { taken = g; path = refl; before = refl }

-- the same run with the way
record DoesLed (r : ℕ → List Step) (ss : List Step) (a : State) (p : List OpenValue) (n : Option ℕ) (z : State) : Type 0 where
  before : Option ℕ
  does : Does r Follows ss (led a p n) (led z p before)

does_led : {r : ℕ → List Step} {ss : List Step} {a z : State} (p : List OpenValue) (n : Option ℕ) → Does r Takes ss a z → DoesLed r ss a p n z
does_led p n finished = record { before = n; does = finished }
does_led p n (goes_on q d) =
    let h = does_led p n d in
    record { before = h.before; does = goes_on (led_asks p n q) h.does }
does_led p n (reads {t = t} {y = y} q g i e d) =
    let h = does_led p (before_after (led y p n) (begins t)) i in
    let k = does_led p h.before d in
    record { before = k.before; does = reads (led_asks p n q) (led_begins p n g) h.does (led_ends p h.before e) k.does }

pub record ReadsLed (r : ℕ → List Step) (t : TypeId) (a : State) (p : List OpenValue) (n : Option ℕ) (z : State) : Type 0 where
  pub before : Option ℕ
  pub reads : Reads r Follows t (led a p n) (led z p before)

pub reads_led : {r : ℕ → List Step} {t : TypeId} {a z : State} (p : List OpenValue) (n : Option ℕ) → Reads r Takes t a z → ReadsLed r t a p n z
reads_led {t = t} {a = a} {z = z} p n h =
    let m = before_after (led a p n) (begins t) in
    let i = does_led p m h.done in
    record {
      before = i.before;
      reads = record { first = led h.first p m; last = led h.last p i.before; begun = led_begins p n h.begun; done = i.does; ended = led_ends p i.before h.ended };
    }

-- a run that stops, without the way
module _ (r : ℕ → List Step) (l : Led → Question → Led → Type 0) (m : State → Question → State → Type 0) (plainly : (a : Led) (q : Question) (b : Led) → l a q b → m a.state q b.state) where
  mutual
    stops_plainly : {ss : List Step} {x z : Led} → Stops r Follows l ss x z → Stops r Takes m ss x.state z.state
    stops_plainly {x = x} (unanswered n h) = unanswered (λ f t y q. n f t (led y x.path x.before) (led_asks x.path x.before q)) (plainly _ _ _ h)
    stops_plainly (answered q s) = answered (asked q).asks (then_plainly s)

    then_plainly : {t : Option TypeId} {ss : List Step} {x z : Led} → StopsThen r Follows l t ss x z → StopsThen r Takes m t ss x.state z.state
    then_plainly (stops_on s) = stops_on (stops_plainly s)
    then_plainly {t = Some u} {x = x} (not_begun n h) = not_begun (λ a g. n (led a x.path (before_after x (begins u))) (led_begins x.path x.before g)) (plainly _ _ _ h)
    then_plainly (stops_within g s) = stops_within g.taken (stops_plainly s)
    then_plainly (not_ended {b = b} g d n h) = not_ended g.taken (does_plainly d) (λ c k. n (led c b.path b.before) (led_ends b.path b.before k)) (plainly _ _ _ h)
    then_plainly (stops_after g d i s) = stops_after g.taken (does_plainly d) i.taken (stops_plainly s)

pub stops_reading_plainly : {r : ℕ → List Step} {e : ReadFault} {t : TypeId} {x z : Led} → StopsReading r Follows (λ a q b. LeavesLed a q b e) t x z → StopsReading r Takes (λ a q b. Leaves a q b e) t x.state z.state
stops_reading_plainly {r = r} {e = e} h = then_plainly r (λ a q b. LeavesLed a q b e) (λ a q b. Leaves a q b e) (λ a q b k. k) h

-- ---- whether the way leads there

and_cases : (a b : Bool) → (a && b) ≡ true → (a ≡ true) × (b ≡ true)
and_cases true b e = (refl, e)
and_cases false b e = absurd (cc)

and_both : (a b : Bool) → a ≡ true → b ≡ true → (a && b) ≡ true
and_both true b e f = f
and_both false b e f = absurd (cc)

self : (n : ℕ) → (n == n) ≡ true
self n = search (arith, refl)

no_part : {A : Type 0} → false ≡ true → A
no_part e = absurd (cc)

part_is : (p q : Option Part) → same_part p q ≡ true → p ≡ q
part_is None None e = refl
part_is (Some (Component i)) (Some (Component j)) e = ap (λ k. Some (Component k)) (eqb-true i j e)
part_is (Some (Alternative i)) (Some (Alternative j)) e = ap (λ k. Some (Alternative k)) (eqb-true i j e)
part_is (Some (Element i)) (Some (Element j)) e = ap (λ k. Some (Element k)) (eqb-true i j e)
part_is None (Some (Component j)) e = no_part e
part_is None (Some (Alternative j)) e = no_part e
part_is None (Some (Element j)) e = no_part e
part_is (Some (Component i)) None e = no_part e
part_is (Some (Component i)) (Some (Alternative j)) e = no_part e
part_is (Some (Component i)) (Some (Element j)) e = no_part e
part_is (Some (Alternative i)) None e = no_part e
part_is (Some (Alternative i)) (Some (Component j)) e = no_part e
part_is (Some (Alternative i)) (Some (Element j)) e = no_part e
part_is (Some (Element i)) None e = no_part e
part_is (Some (Element i)) (Some (Component j)) e = no_part e
part_is (Some (Element i)) (Some (Alternative j)) e = no_part e

part_self : (p : Option Part) → same_part p p ≡ true
part_self None = refl
part_self (Some (Component i)) = self i
part_self (Some (Alternative i)) = self i
part_self (Some (Element i)) = self i

abbrev step : TypeId → Option Part → OpenValue
step t p = record { ty = t; part = p; read = 0 }

abbrev made : ℕ → TypeId
made i = record { index = i }

id_of_index : (t u : TypeId) → t.index ≡ u.index → t ≡ u
id_of_index t u e = ap made e

steps_are : (os ps : List OpenValue) → same_steps os ps ≡ true → map on_path os ≡ map on_path ps
steps_are [] [] e = refl
steps_are [] (p ∷ ps) e = no_part e
steps_are (o ∷ os) [] e = no_part e
steps_are (o ∷ os) (p ∷ ps) e =
    let a = and_cases (o.ty.index == p.ty.index) (same_part o.part p.part && same_steps os ps) e in
    let b = and_cases (same_part o.part p.part) (same_steps os ps) a.1 in
    let t = id_of_index o.ty p.ty (eqb-true o.ty.index p.ty.index a.0) in
    ap (λ q. step q o.part ∷ map on_path os) t
    ∙ ap (λ q. step p.ty q ∷ map on_path os) (part_is o.part p.part b.0)
    ∙ ap (λ q. on_path p ∷ q) (steps_are os ps b.1)

abbrev others : List OpenValue → List OpenValue
others [] = []
others (x ∷ xs) = xs

no_steps : {A : Type 0} {x : OpenValue} {xs : List OpenValue} → x ∷ xs ≡ [] → A
no_steps e = absurd (cc)

are_steps : (os ps : List OpenValue) → map on_path os ≡ map on_path ps → same_steps os ps ≡ true
are_steps [] [] e = refl
are_steps [] (p ∷ ps) e = no_steps (sym e)
are_steps (o ∷ os) [] e = no_steps e
are_steps (o ∷ os) (p ∷ ps) e =
    let h : on_path o ≡ on_path p = ap (front_or (on_path o)) e in
    let t = ap (λ q. q.ty.index) h in
    let q = ap (λ z. z.part) h in
    and_both (o.ty.index == p.ty.index) (same_part o.part p.part && same_steps os ps)
    (subst (λ z. (o.ty.index == z) ≡ true) t (self o.ty.index))
    (and_both (same_part o.part p.part) (same_steps os ps) (subst (λ z. same_part o.part z ≡ true) q (part_self o.part)) (are_steps os ps (ap others e)))

pub leads_is : (path os : List OpenValue) → IsTrue (leads_to path os) ↔ Leads path os
leads_is path os = (steps_are (on_last entered os) path, are_steps (on_last entered os) path)

pub same_answer : (b c : Bool) {P : Type 0} → (IsTrue b ↔ P) → (IsTrue c ↔ P) → b ≡ c
same_answer true true h k = refl
same_answer false false h k = refl
same_answer true false h k = sym (k.1 (h.0 refl))
same_answer false true h k = h.1 (k.0 refl)

pub found_is : (path os all : List OpenValue) (b : Bool) (k n : ℕ) (o : Option ℕ) → o ≡ None → (IsTrue b ↔ Leads path os) → os ≡ all → k ≡ n → found_by b k None ≡ found_by (leads_to path all) n o
found_is path os all b k n o e h f g =
    ap (λ q. found_by q k None) (same_answer b (leads_to path os) h (leads_is path os))
    ∙ ap (λ q. found_by (leads_to path q) k None) f
    ∙ ap (λ q. found_by (leads_to path all) q None) g
    ∙ ap (found_by (leads_to path all) n) (sym e)

-- ---- the number of values before the one to which the way leads

-- whatever tokens follow
abbrev IsFound : List OpenValue → List Token → Option ℕ → Type 0
IsFound path emitted (Some n) = (ts : List Token) → BeginsBefore path [] (emitted ++ ts) n
IsFound path emitted None = (ts : List Token) (n : ℕ) → BeginsBefore path (opens emitted) ts n → BeginsBefore path [] (emitted ++ ts) (begun_in emitted + n)

found_stays : (path : List OpenValue) (emitted : List Token) (t : Token) (n : ℕ) → IsFound path emitted (Some n) → IsFound path (emitted ++ t ∷ []) (Some n)
found_stays path emitted t n f = λ ts. subst (λ q. BeginsBefore path [] q n) (sym (append_assoc emitted (t ∷ []) ts)) (f (t ∷ ts))

found_here : (path : List OpenValue) (emitted : List Token) (t : Token) → IsReached (opens emitted) t path → IsFound path emitted None → IsFound path (emitted ++ t ∷ []) (Some (begun_in emitted))
found_here path emitted t r f = λ ts.
    let e : begun_in emitted + 0 ≡ begun_in emitted = omega arith in
    subst (λ q. BeginsBefore path [] q (begun_in emitted)) (sym (append_assoc emitted (t ∷ []) ts))
    (subst (BeginsBefore path [] (emitted ++ t ∷ ts)) e (f (t ∷ ts) 0 (reached t r)))

found_not : (path : List OpenValue) (emitted : List Token) (t : Token) → (IsReached (opens emitted) t path → ⊥) → IsFound path emitted None → IsFound path (emitted ++ t ∷ []) None
found_not path emitted t r f = λ ts n h.
    let k = stepped t r (subst (λ q. BeginsBefore path q ts n) (opens_last emitted t) h) in
    let c = begun_both emitted (t ∷ []) in
    let e : begun_in emitted + (begun_in (t ∷ []) + n) ≡ begun_in (emitted ++ t ∷ []) + n = omega (arith, c) in
    subst (λ q. BeginsBefore path [] q (begun_in (emitted ++ t ∷ []) + n)) (sym (append_assoc emitted (t ∷ []) ts))
    (subst (BeginsBefore path [] (emitted ++ t ∷ ts)) e (f (t ∷ ts) (begun_in (t ∷ []) + n) k))

zero_is_one : {n : ℕ} → n ≡ 0 → n ≡ 1 → ⊥
zero_is_one e f = absurd (omega (arith, e, f))

found_on : (path : List OpenValue) (emitted : List Token) (t : Token) (o : Option ℕ) → begun_in (t ∷ []) ≡ 0 → IsFound path emitted o → IsFound path (emitted ++ t ∷ []) o
found_on path emitted t (Some n) e f = found_stays path emitted t n f
found_on path emitted t None e f = found_not path emitted t (λ r. zero_is_one e r.0) f

-- tokens that begin no value
found_over : (path : List OpenValue) (emitted us : List Token) (o : Option ℕ) → begun_in us ≡ 0 → IsFound path emitted o → IsFound path (emitted ++ us) o
found_over path emitted [] o e f = subst (λ q. IsFound path q o) (sym (append-nil emitted)) f
found_over path emitted (u ∷ us) o e f =
    let c = begun_both (u ∷ []) us in
    let e0 : begun_in (u ∷ []) ≡ 0 = omega (arith, c, e) in
    let e1 : begun_in us ≡ 0 = omega (arith, c, e) in
    subst (λ q. IsFound path q o) (append_assoc emitted (u ∷ []) us) (found_over path (emitted ++ u ∷ []) us o e1 (found_on path emitted u o e0 f))

found_begun : (path : List OpenValue) (emitted : List Token) (t : TypeId) (o : Option ℕ) (b : Bool) → (IsTrue b ↔ Leads path (opens emitted)) → IsFound path emitted o → IsFound path (emitted ++ begun t ∷ []) (found_by b (begun_in emitted) o)
found_begun path emitted t (Some n) b h f = found_stays path emitted (begun t) n f
found_begun path emitted t None true h f = found_here path emitted (begun t) (refl, h.0 refl) f
found_begun path emitted t None false h f = found_not path emitted (begun t) (λ r. no_part (h.1 r.1)) f

-- ---- over a run

record IsKept (a b : Led) : Type 0 where
  path : b.path ≡ a.path
  found : IsFound a.path a.state.emitted a.before → IsFound a.path b.state.emitted b.before

both_kept : {a b c : Led} → IsKept a b → IsKept b c → IsKept a c
both_kept {a} {b} {c} x y = record {
  path = y.path ∙ x.path;
  found = λ f. subst (λ q. IsFound q c.state.emitted c.before) x.path (y.found (subst (λ q. IsFound q b.state.emitted b.before) (sym x.path) (x.found f)));
}

over_kept : {a b : Led} → b.path ≡ a.path → b.before ≡ a.before → Between a.state b.state 0 → IsKept a b
over_kept {a} {b} p e t = record {
  path = p;
  found = λ f. subst (λ q. IsFound a.path q b.before) (sym t.emitted) (subst (IsFound a.path (a.state.emitted ++ t.tokens)) (sym e) (found_over a.path a.state.emitted t.tokens a.before t.count f));
}

asks_kept : {ss following : List Step} {t : Option TypeId} {a b : Led} → Asks Follows ss a following t b → IsKept a b
asks_kept q = let h = asked q in over_kept h.path h.before (asks_emitted h.asks)

begin_kept : {a b : Led} {t : TypeId} → Follows a (begins t) b → IsKept a b
begin_kept {a} {b} {t} g = record {
  path = g.path;
  found = λ f. subst (λ q. IsFound a.path q b.before) (sym (ap (λ q. q.emitted) g.taken.answer.is))
      (subst (IsFound a.path (a.state.emitted ++ begun t ∷ [])) (sym g.before)
      (found_begun a.path a.state.emitted t a.before (leads_to a.path (opens a.state.emitted)) (leads_is a.path (opens a.state.emitted)) f));
}

end_kept : {a b : Led} → Follows a ends b → IsKept a b
end_kept e = over_kept e.path e.before (end_emitted e.taken)

does_kept : {r : ℕ → List Step} {ss : List Step} {a b : Led} → Does r Follows ss a b → IsKept a b
does_kept finished = record { path = refl; found = λ f. f }
does_kept (goes_on q d) = both_kept (asks_kept q) (does_kept d)
does_kept (reads q g i e d) = both_kept (asks_kept q) (both_kept (begin_kept g) (both_kept (does_kept i) (both_kept (end_kept e) (does_kept d))))

reads_kept : {r : ℕ → List Step} {t : TypeId} {a b : Led} → Reads r Follows t a b → IsKept a b
reads_kept h = both_kept (begin_kept h.begun) (both_kept (does_kept h.done) (end_kept h.ended))

found_first : (path : List OpenValue) → IsFound path [] None
found_first path = λ ts n h. let e : n ≡ 0 + n = omega arith in subst (BeginsBefore path [] ts) e h

found_last : (path : List OpenValue) (emitted : List Token) (o : Option ℕ) → IsFound path emitted o → BeginsBefore path [] emitted (number_or (begun_in emitted) o)
found_last path emitted (Some n) f = subst (λ q. BeginsBefore path [] q n) (append-nil emitted) (f [])
found_last path emitted None f =
    let e : begun_in emitted + 0 ≡ begun_in emitted = omega arith in
    subst (λ q. BeginsBefore path [] q (begun_in emitted)) (append-nil emitted) (subst (BeginsBefore path [] (emitted ++ [])) e (f [] 0 no_token))

-- the number after the whole run
pub number_is : {r : ℕ → List Step} {t : TypeId} {a : State} {path : List OpenValue} {z : Led} → a.emitted ≡ [] → Reads r Follows t (led a path None) z → BeginsBefore path [] z.state.emitted (number_or (begun_in z.state.emitted) z.before)
number_is {a = a} {path = path} {z = z} e h =
    found_last path z.state.emitted z.before ((reads_kept h).found (subst (λ q. IsFound path q None) (sym e) (found_first path)))

-- the start, if another number of values may begin
pub starts_with : {s : List Resolved} {o : List ℕ} {p : List OpenValue} {x : Led} {m n : ℕ} → x ≡ led (front s o m) p None → m ≡ n → x ≡ led (front s o n) p None
starts_with {s} {o} {p} e f = e ∙ ap (λ b. led (front s o b) p None) f

-- the run that reads a message to its end, in the cursor's words
pub never_led : {s : List Resolved} {t : TypeId} {o : List ℕ} {p : List OpenValue} {x : Led} → x ≡ led (front s o (budget_of (length o))) p None → ((z : Led) → Reads (λ u. routine_at s u) Follows t x z → ⊥) → IsRead s t o → ⊥
never_led {s} {t} {o} {p} e n q =
    let h = reads_led p None q.reads in
    n _ (subst (λ x. Reads (λ u. routine_at s u) Follows t x (led q.last p h.before)) (sym e) h.reads)

pub only_led : {s : List Resolved} {t : TypeId} {o : List ℕ} {p : List OpenValue} {x w : Led} → x ≡ led (front s o (budget_of (length o))) p None → ((z : Led) → Reads (λ u. routine_at s u) Follows t x z → z ≡ w) → (q : IsRead s t o) → q.last ≡ w.state
only_led {s} {t} {o} {p} e n q =
    let h = reads_led p None q.reads in
    ap (λ z. z.state) (n (led q.last p h.before) (subst (λ x. Reads (λ u. routine_at s u) Follows t x (led q.last p h.before)) (sym e) h.reads))
