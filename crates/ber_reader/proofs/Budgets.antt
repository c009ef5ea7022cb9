-- Two runs of a routine that differ in how many values may begin.
use Rattle.std.proofs.Common.{arith, ◌≡◌, ◌⊎◌, ⊎_elim, inl, inr, ℕ, zero, suc, ◌+◌, ◌<◌, ◌≤◌, Bool, true, false, List, [], ◌∷◌, ◌++◌, length, refl, sym, ap, subst, ◌∙◌, append_assoc}
use Rattle.std.proofs.lemmas.List.{append-nil}
use Rattle.std.specs.Prelude.{Option, Some, None}
use Rattle.asn_base.specs.declared.schema.TypeId.{TypeId}
use Rattle.asn_base.specs.Types.{Resolved}
use Rattle.codec_code.specs.declared.step.Field.{Field as Field'}
use Rattle.codec_code.specs.declared.step.Step.{Step}
use Rattle.codec_code.specs.declared.step.Step.TheVariants.{Call}
use Rattle.codec_source.specs.Events.{Question, to_begin, Event, Alike, begins, ends, opens, closes, holds, skips, comes, more, among, picks, both_end, both_open, both_close, both_hold, both_skip, both_come, both_more, both_among, both_pick}
use Rattle.codec_source.specs.Reading.{Asks, head, ending, leaf, rest, left_out, field, component as component', no_component, element, no_element, sorted_element, no_sorted_element, pick, call, Does, finished, goes_on, reads, Reads}
use Rattle.codec_source.specs.Stopping.{Stops, unanswered, answered, stops_on, not_begun, stops_within, not_ended, stops_after, StopsReading}
use Rattle.octet_answers.specs.States.{State, Token, component, chosen, begun, ended, held, passed, begun_at}
use Rattle.octet_answers.specs.Found.{Passes, at_end_of_contents, at_component, passes}
use Rattle.octet_answers.specs.Answers.{Answers, Takes, IsOther, FieldNext, MoreNext, NextInSet}
use Rattle.ber_reader.specs.Paths.{begun_in}
use Rattle.ber_reader.proofs.Plain.{false_true, none_some, some_same}

pub begun_both : (xs ys : List Token) → begun_in (xs ++ ys) ≡ begun_in xs + begun_in ys
begun_both [] ys = omega arith
begun_both (begun t ∷ xs) ys = let r = begun_both xs ys in omega arith
begun_both (component i ∷ xs) ys = begun_both xs ys
begun_both (chosen i ∷ xs) ys = begun_both xs ys
begun_both (ended ∷ xs) ys = begun_both xs ys
begun_both (held k c x at ∷ xs) ys = begun_both xs ys
begun_both (passed ∷ xs) ys = begun_both xs ys

-- the same state, in which r values may begin
abbrev pub with_budget : State → ℕ → State
with_budget a r = record { schema = a.schema; here = a.here; outer = a.outer; values = a.values; marks = a.marks; emitted = a.emitted; budget = r }

-- the tokens that were added between two states, and how many values began there
pub record Between (a b : State) (n : ℕ) : Type 0 where
  pub tokens : List Token
  pub emitted : b.emitted ≡ a.emitted ++ tokens
  pub count : begun_in tokens ≡ n

nothing_emitted : {a b : State} → b.emitted ≡ a.emitted → Between a b 0
nothing_emitted {a} e = record { tokens = []; emitted = e ∙ sym (append-nil a.emitted); count = refl }

one_emitted : {a b : State} {n : ℕ} (t : Token) → begun_in (t ∷ []) ≡ n → b.emitted ≡ a.emitted ++ t ∷ [] → Between a b n
one_emitted t e b = record { tokens = t ∷ []; emitted = b; count = e }

both_emitted : {a b c : State} {n m : ℕ} → Between a b n → Between b c m → Between a c (n + m)
both_emitted {a} {b} {c} x y = record {
  tokens = x.tokens ++ y.tokens;
  emitted = y.emitted ∙ ap (λ q. q ++ y.tokens) x.emitted ∙ append_assoc a.emitted x.tokens y.tokens;
  count = (let e = begun_both x.tokens y.tokens in let f = x.count in let g = y.count in omega arith);
}

as_many : {a b : State} {n m : ℕ} → n ≡ m → Between a b n → Between a b m
as_many {a} {b} e x = subst (Between a b) e x

-- ---- what is no begin

abbrev IsNoBegin : Event → Type 0
IsNoBegin (begins t) = ⊥
IsNoBegin e = Unit {0}

passes_budget : {s : List Resolved} {ss : List Step} {e : Bool} {a b : State} {f : Option Field'} (r : ℕ) → Passes s ss e a f b → Passes s ss e (with_budget a r) f (with_budget b r)
passes_budget r (at_end_of_contents p) = at_end_of_contents p
passes_budget r (at_component u i) = at_component u i
passes_budget r (passes m u n l q) = passes m u n l (passes_budget r q)

other_budget : {a : State} {f : Field'} (r : ℕ) → (a.here.octets ≡ []) ⊎ IsOther a f → (a.here.octets ≡ []) ⊎ IsOther (with_budget a r) f
other_budget r (inl e) = inl e
other_budget r (inr o) = inr (record { tag = o.tag; constructed = o.constructed; count = o.count; contents = o.contents; rest = o.rest; unit = o.unit; not_first = o.not_first })

comes_budget : (a b : State) (f : Field') (there : Bool) (r : ℕ) → FieldNext a f there b → FieldNext (with_budget a r) f there (with_budget b r)
comes_budget a b f true r x = record { tag = x.tag; constructed = x.constructed; count = x.count; contents = x.contents; rest = x.rest; unit = x.unit; first = x.first; is = ap (λ q. with_budget q r) x.is }
comes_budget a b f false r x = record { may_be = x.may_be; next = other_budget {a = a} r x.next; is = ap (λ q. with_budget q r) x.is }

more_budget : (a b : State) (there : Bool) (r : ℕ) → MoreNext a there b → MoreNext (with_budget a r) there (with_budget b r)
more_budget a b true r x = record { some = x.some; is = ap (λ q. with_budget q r) x.is }
more_budget a b false r x = record { none = x.none; is = ap (λ q. with_budget q r) x.is }

among_budget : (a b : State) (ss : List Step) (t : Option TypeId) (r : ℕ) → NextInSet a ss t b → NextInSet (with_budget a r) ss t (with_budget b r)
among_budget a b ss (Some t) r x = record { field = x.field; next = with_budget x.next r; pass = passes_budget r x.pass; is_type = x.is_type; is_new = x.is_new; is = ap (λ q. with_budget q r) x.is }
among_budget a b ss None r x = record { pass = passes_budget r x.pass; all_read = x.all_read }

-- it is answered the same however many values may begin
answer_budget : (a b : State) (e : Event) (r : ℕ) → IsNoBegin e → Answers a e b → Answers (with_budget a r) e (with_budget b r)
answer_budget a b (begins t) r n x = absurd n
answer_budget a b ends r n x = record { value = x.value; others = x.others; is_open = x.is_open; is = ap (λ q. with_budget q r) x.is }
answer_budget a b (opens h) r n x = record { constructed = x.constructed; count = x.count; contents = x.contents; rest = x.rest; unit = x.unit; form = x.form; few_levels = x.few_levels; is = ap (λ q. with_budget q r) x.is }
answer_budget a b closes r n x = record { open_contents = x.open_contents; others = x.others; none_left = x.none_left; is_open = x.is_open; is = ap (λ q. with_budget q r) x.is }
answer_budget a b (holds k) r n x = record { value = x.value; levels = x.levels; few_levels = x.few_levels; contents = x.contents; is = ap (λ q. with_budget q r) x.is }
answer_budget a b skips r n x = record { value = x.value; others = x.others; is_open = x.is_open; pass = passes_budget r x.pass }
answer_budget a b (comes f there) r n x = comes_budget a b f there r x
answer_budget a b (more t s there) r n x = more_budget a b there r x
answer_budget a b (among ss t) r n x = among_budget a b ss t r x
answer_budget a b (picks ss t) r n x = record { tag = x.tag; constructed = x.constructed; count = x.count; contents = x.contents; rest = x.rest; unit = x.unit; index = x.index; alternative = x.alternative; is = ap (λ q. with_budget q r) x.is }

passes_emitted : {s : List Resolved} {ss : List Step} {e : Bool} {a b : State} {f : Option Field'} → Passes s ss e a f b → Between a b 0
passes_emitted (at_end_of_contents p) = nothing_emitted refl
passes_emitted (at_component u i) = nothing_emitted refl
passes_emitted {a = a} (passes m u n l q) = record {
  tokens = passed ∷ (passes_emitted q).tokens;
  emitted = (passes_emitted q).emitted ∙ append_assoc a.emitted (passed ∷ []) (passes_emitted q).tokens;
  count = (passes_emitted q).count;
}

comes_emitted : (a b : State) (f : Field') (there : Bool) → FieldNext a f there b → Between a b 0
comes_emitted a b f true x = one_emitted (component f.place) refl (ap (λ q. q.emitted) x.is)
comes_emitted a b f false x = nothing_emitted (ap (λ q. q.emitted) x.is)

more_emitted : (a b : State) (there : Bool) → MoreNext a there b → Between a b 0
more_emitted a b true x = nothing_emitted (ap (λ q. q.emitted) x.is)
more_emitted a b false x = nothing_emitted (ap (λ q. q.emitted) x.is)

among_emitted : (a b : State) (ss : List Step) (t : Option TypeId) → NextInSet a ss t b → Between a b 0
among_emitted a b ss (Some t) x = both_emitted (passes_emitted x.pass) (one_emitted (component x.field.place) refl (ap (λ q. q.emitted) x.is))
among_emitted a b ss None x = passes_emitted x.pass

-- and no value begins
answer_emitted : (a b : State) (e : Event) → IsNoBegin e → Answers a e b → Between a b 0
answer_emitted a b (begins t) n x = absurd n
answer_emitted a b ends n x = one_emitted ended refl (ap (λ q. q.emitted) x.is)
answer_emitted a b (opens h) n x = nothing_emitted (ap (λ q. q.emitted) x.is)
answer_emitted a b closes n x = nothing_emitted (ap (λ q. q.emitted) x.is)
answer_emitted a b (holds k) n x = one_emitted (held k a.here.constructed a.here.octets a.here.at) refl (ap (λ q. q.emitted) x.is)
answer_emitted a b skips n x = passes_emitted x.pass
answer_emitted a b (comes f there) n x = comes_emitted a b f there x
answer_emitted a b (more t s there) n x = more_emitted a b there x
answer_emitted a b (among ss t) n x = among_emitted a b ss t x
answer_emitted a b (picks ss t) n x = one_emitted (chosen x.index) refl (ap (λ q. q.emitted) x.is)

taken_emitted : {a b : State} (e : Event) → IsNoBegin e → Takes a e b → Between a b 0
taken_emitted {a} {b} e n x = answer_emitted a b e n x.answer

pub asks_emitted : {ss following : List Step} {t : Option TypeId} {a b : State} → Asks Takes ss a following t b → Between a b 0
asks_emitted (head x) = taken_emitted _ tt x
asks_emitted (ending x) = taken_emitted _ tt x
asks_emitted (leaf x) = taken_emitted _ tt x
asks_emitted (rest x) = taken_emitted _ tt x
asks_emitted (left_out x) = taken_emitted _ tt x
asks_emitted (field x) = taken_emitted _ tt x
asks_emitted (component' x) = taken_emitted _ tt x
asks_emitted (no_component x) = taken_emitted _ tt x
asks_emitted (element x) = taken_emitted _ tt x
asks_emitted (no_element x) = taken_emitted _ tt x
asks_emitted (sorted_element x) = taken_emitted _ tt x
asks_emitted (no_sorted_element x) = taken_emitted _ tt x
asks_emitted (pick x) = taken_emitted _ tt x
asks_emitted call = nothing_emitted refl

pub begin_emitted : {a b : State} {t : TypeId} → Takes a (begins t) b → Between a b 1
begin_emitted {t = t} x = one_emitted (begun t) refl (ap (λ q. q.emitted) x.answer.is)

pub end_emitted : {a b : State} → Takes a ends b → Between a b 0
end_emitted x = one_emitted ended refl (ap (λ q. q.emitted) x.answer.is)

-- ---- the tokens of a run

pub record Longer (a b : State) : Type 0 where
  pub tokens : List Token
  pub emitted : b.emitted ≡ a.emitted ++ tokens

longer : {a b : State} {n : ℕ} → Between a b n → Longer a b
longer x = record { tokens = x.tokens; emitted = x.emitted }

both_longer : {a b c : State} → Longer a b → Longer b c → Longer a c
both_longer {a} x y = record { tokens = x.tokens ++ y.tokens; emitted = y.emitted ∙ ap (λ q. q ++ y.tokens) x.emitted ∙ append_assoc a.emitted x.tokens y.tokens }

does_longer : {r : ℕ → List Step} {ss : List Step} {a b : State} → Does r Takes ss a b → Longer a b
does_longer {a = a} finished = longer (nothing_emitted {a = a} refl)
does_longer (goes_on q d) = both_longer (longer (asks_emitted q)) (does_longer d)
does_longer (reads q g i e d) = both_longer (longer (asks_emitted q)) (both_longer (longer (begin_emitted g)) (both_longer (does_longer i) (both_longer (longer (end_emitted e)) (does_longer d))))

-- ---- what is asked, however many values may begin

abbrev answer : Event → Bool
answer (comes f b) = b
answer (more t s b) = b
answer e = false

abbrev type_of : Event → Option TypeId
type_of (among ss t) = t
type_of (picks ss t) = Some t
type_of e = None

record One (b c : List Step) (t u : Option TypeId) (y z : State) : Type 0 where
  following : b ≡ c
  value : t ≡ u
  state : y ≡ z

one : {a b c : State} {e f : Event} → Alike e f → Takes a e b → Takes a f c → (e ≡ f) × (b ≡ c)
one {c = c} {f = f} l x y = x.only f c l y.answer

one_ask : {ss b c : List Step} {t u : Option TypeId} {x y z : State} → Asks Takes ss x b t y → Asks Takes ss x c u z → One b c t u y z
one_ask (head a) (head b) = record { following = refl; value = refl; state = (one both_open a b).1 }
one_ask (ending a) (ending b) = record { following = refl; value = refl; state = (one both_close a b).1 }
one_ask (leaf a) (leaf b) = record { following = refl; value = refl; state = (one both_hold a b).1 }
one_ask (rest a) (rest b) = record { following = refl; value = refl; state = (one both_skip a b).1 }
one_ask (left_out a) (left_out b) = record { following = refl; value = refl; state = (one both_come a b).1 }
one_ask (left_out a) (field b) = false_true (sym (ap answer (one both_come b a).0))
one_ask (field a) (left_out b) = false_true (sym (ap answer (one both_come a b).0))
one_ask (field a) (field b) = record { following = refl; value = refl; state = (one both_come a b).1 }
one_ask (component' a) (component' b) = let o = one both_among a b in record { following = refl; value = ap type_of o.0; state = o.1 }
one_ask (component' a) (no_component b) = none_some (ap type_of (one both_among b a).0)
one_ask (no_component a) (component' b) = none_some (ap type_of (one both_among a b).0)
one_ask (no_component a) (no_component b) = record { following = refl; value = refl; state = (one both_among a b).1 }
one_ask (element a) (element b) = record { following = refl; value = refl; state = (one both_more a b).1 }
one_ask (element a) (no_element b) = false_true (sym (ap answer (one both_more a b).0))
one_ask (no_element a) (element b) = false_true (sym (ap answer (one both_more b a).0))
one_ask (no_element a) (no_element b) = record { following = refl; value = refl; state = (one both_more a b).1 }
one_ask (sorted_element a) (sorted_element b) = record { following = refl; value = refl; state = (one both_more a b).1 }
one_ask (sorted_element a) (no_sorted_element b) = false_true (sym (ap answer (one both_more a b).0))
one_ask (no_sorted_element a) (sorted_element b) = false_true (sym (ap answer (one both_more b a).0))
one_ask (no_sorted_element a) (no_sorted_element b) = record { following = refl; value = refl; state = (one both_more a b).1 }
one_ask (pick a) (pick b) = let o = one both_pick a b in record { following = refl; value = ap type_of o.0; state = o.1 }
one_ask call call = record { following = refl; value = refl; state = refl }

none_asked : {A : Type 0} {ss b : List Step} {t : Option TypeId} {x y : State} → ss ≡ [] → Asks Takes ss x b t y → A
none_asked {A = A} {b = b} {t = t} {x = x} {y = y} e q = by (subst (λ z. Asks Takes z x b t y) e q)
  where
    by : Asks Takes [] x b t y → A
    by q = elim q [ ]

no_steps : {A : Type 0} {s : Step} {ss : List Step} → s ∷ ss ≡ [] → A
no_steps e = absurd (cc)

module _ (takes : (a b : State) (e : Event) → Answers a e b → Takes a e b) where
  takes_budget : {a b : State} (e : Event) (r : ℕ) → IsNoBegin e → Takes a e b → Takes (with_budget a r) e (with_budget b r)
  takes_budget {a} {b} e r n x = takes (with_budget a r) (with_budget b r) e (answer_budget a b e r n x.answer)

  pub asks_budget : {ss following : List Step} {t : Option TypeId} {a b : State} (r : ℕ) → Asks Takes ss a following t b → Asks Takes ss (with_budget a r) following t (with_budget b r)
  asks_budget r (head x) = head (takes_budget _ r tt x)
  asks_budget r (ending x) = ending (takes_budget _ r tt x)
  asks_budget r (leaf x) = leaf (takes_budget _ r tt x)
  asks_budget r (rest x) = rest (takes_budget _ r tt x)
  asks_budget r (left_out x) = left_out (takes_budget _ r tt x)
  asks_budget r (field x) = field (takes_budget _ r tt x)
  asks_budget r (component' x) = component' (takes_budget _ r tt x)
  asks_budget r (no_component x) = no_component (takes_budget _ r tt x)
  asks_budget r (element x) = element (takes_budget _ r tt x)
  asks_budget r (no_element x) = no_element (takes_budget _ r tt x)
  asks_budget r (sorted_element x) = sorted_element (takes_budget _ r tt x)
  asks_budget r (no_sorted_element x) = no_sorted_element (takes_budget _ r tt x)
  asks_budget r (pick x) = pick (takes_budget _ r tt x)
  asks_budget r call = call

  -- what the one run asks for the other does
  asks_here : {ss qs following : List Step} {t : Option TypeId} {x X y : State} {r : ℕ} → X ≡ with_budget x r → qs ≡ ss → Asks Takes ss x following t y → Asks Takes qs X following t (with_budget y r)
  asks_here {ss} {qs} {following} {t} {x} {X} {y} {r} e f q =
      subst (λ z. Asks Takes qs z following t (with_budget y r)) (sym e) (subst (λ z. Asks Takes z (with_budget x r) following t (with_budget y r)) (sym f) (asks_budget r q))

  -- and what it comes to then
  asks_again : {ss qs b c : List Step} {t u : Option TypeId} {x X y Y : State} {r : ℕ} → X ≡ with_budget x r → qs ≡ ss → Asks Takes ss x b t y → Asks Takes qs X c u Y → One c b u t Y (with_budget y r)
  asks_again e f q p = one_ask p (asks_here e f q)

  -- a value that begins in both
  record Begun (a : State) (X : State) (r : ℕ) : Type 0 where
    left : ℕ
    one_less : r ≡ suc left
    is : X ≡ with_budget a left

  begun_again : {y Y a X : State} {t u : TypeId} {r : ℕ} → Y ≡ with_budget y r → u ≡ t → Takes y (begins t) a → Takes Y (begins u) X → Begun a X r
  begun_again {y} {Y} {a} {X} {t} {u} {r} e f g h = record {
    left = h.answer.left;
    one_less = ap (λ q. q.budget) (sym e) ∙ h.answer.has_budget;
    is = h.answer.is
        ∙ ap (λ q. begun_at q u h.answer.left) e
        ∙ ap (λ q. begun_at (with_budget y r) q h.answer.left) f
        ∙ sym (ap (λ q. with_budget q h.answer.left) g.answer.is);
  }

  -- it may begin
  pub may_begin : {y Y a : State} {t u : TypeId} {r : ℕ} (l : ℕ) → Y ≡ with_budget y r → u ≡ t → r ≡ suc l → Takes y (begins t) a → Takes Y (begins u) (begun_at Y u l)
  may_begin {y} {Y} {a} {t} {u} l e f k g = takes Y (begun_at Y u l) (begins u) (record {
    left = l;
    has_budget = ap (λ q. q.budget) e ∙ k;
    few_levels = subst (λ q. length q < 64) (sym (ap (λ q. q.values) e)) g.answer.few_levels;
    is = refl;
  })

  -- a value that ends in both
  pub ended_here : {b c Y : State} {l : ℕ} → Y ≡ with_budget b l → Takes b ends c → Takes Y ends (with_budget c l)
  ended_here {b} {c} {Y} {l} e x = subst (λ q. Takes q ends (with_budget c l)) (sym e) (takes_budget ends l tt x)

  ended_again : {b c Y Z : State} {l : ℕ} → Y ≡ with_budget b l → Takes b ends c → Takes Y ends Z → Z ≡ with_budget c l
  ended_again e x y = (one both_end y (ended_here e x)).1

  module _ (routine : ℕ → List Step) where
    same_routine : {t u : TypeId} → u ≡ t → routine u.index ≡ routine t.index
    same_routine e = ap (λ q. routine q.index) e

    -- ---- both come to an end

    -- the one that may begin fewer comes to the same state, in which fewer may begin yet
    record Ahead (x z : State) (r : ℕ) (Z : State) : Type 0 where
      left : ℕ
      is : Z ≡ with_budget z left
      began : ℕ
      between : Between x z began
      sum : began + left ≡ r

    ahead_on : {x y z Z : State} {r : ℕ} → Between x y 0 → Ahead y z r Z → Ahead x z r Z
    ahead_on {x} {z = z} b h = record { left = h.left; is = h.is; began = h.began; between = as_many {a = x} {b = z} (let e : 0 + h.began ≡ h.began = omega arith in e) (both_emitted b h.between); sum = h.sum }

    both_do : {ss qs : List Step} {x z X Z : State} (r : ℕ) → X ≡ with_budget x r → qs ≡ ss → Does routine Takes ss x z → Does routine Takes qs X Z → Ahead x z r Z
    both_do {x = x} r e f finished finished = record { left = r; is = e; began = 0; between = nothing_emitted {a = x} refl; sum = (let z : 0 + r ≡ r = omega arith in z) }
    both_do r e f finished (goes_on q d) = none_asked f q
    both_do r e f finished (reads q g i n d) = none_asked f q
    both_do r e f (goes_on q d) finished = none_asked (sym f) q
    both_do r e f (reads q g i n d) finished = none_asked (sym f) q
    both_do r e f (goes_on q d) (goes_on p h) = let o = asks_again e f q p in ahead_on (asks_emitted q) (both_do r o.state o.following d h)
    both_do r e f (goes_on q d) (reads p g i n h) = none_some (sym (asks_again e f q p).value)
    both_do r e f (reads q g i n d) (goes_on p h) = none_some (asks_again e f q p).value
    both_do r e f (reads q g i n d) (reads p g' i' n' h) =
        let o = asks_again e f q p in
        let t = some_same o.value in
        let b = begun_again o.state t g g' in
        let w = both_do b.left b.is (same_routine t) i i' in
        let c = both_do w.left (ended_again w.is n n') o.following d h in
        record {
          left = c.left;
          is = c.is;
          began = 0 + (1 + (w.began + (0 + c.began)));
          between = both_emitted (asks_emitted q) (both_emitted (begin_emitted g) (both_emitted w.between (both_emitted (end_emitted n) c.between)));
          sum = (let u = b.one_less in let v = w.sum in let y = c.sum in omega arith);
        }

    -- ---- the run in which fewer values may begin stops

    module _ (leaves : State → Question → State → Type 0) where
      -- it stops before a value that begins in the other one
      pub record Cut (x z : State) (r : ℕ) (w : State) : Type 0 where
        pub at : State
        pub type : TypeId
        pub tokens : List Token
        pub emitted : at.emitted ≡ x.emitted ++ tokens
        pub count : begun_in tokens ≡ r
        pub following : List Token
        pub whole : z.emitted ≡ at.emitted ++ begun type ∷ following
        pub left : leaves at (to_begin type) w

      cut_after : {x y b z w : State} {n l r : ℕ} → Between x y n → n + l ≡ r → Longer b z → Cut y b l w → Cut x z r w
      cut_after {x} {y} {b} {z} m e k c = record {
        at = c.at;
        type = c.type;
        tokens = m.tokens ++ c.tokens;
        emitted = c.emitted ∙ ap (λ q. q ++ c.tokens) m.emitted ∙ append_assoc x.emitted m.tokens c.tokens;
        count = (let f = begun_both m.tokens c.tokens in let g = m.count in let h = c.count in omega arith);
        following = c.following ++ k.tokens;
        whole = k.emitted ∙ ap (λ q. q ++ k.tokens) c.whole ∙ append_assoc c.at.emitted (begun c.type ∷ c.following) k.tokens;
        left = c.left;
      }

      cut_here : {x y Y a z w : State} {t u : TypeId} {r : ℕ} → Between x y 0 → Y ≡ with_budget y r → r ≡ 0 → Takes y (begins t) a → Longer a z → u ≡ t → leaves Y (to_begin u) w → Cut x z r w
      cut_here {x} {y} {Y} {a} {z} {w} {t} {u} {r} m e f g k i l = record {
        at = Y;
        type = t;
        tokens = m.tokens;
        emitted = ap (λ q. q.emitted) e ∙ m.emitted;
        count = m.count ∙ sym f;
        following = k.tokens;
        whole = k.emitted ∙ ap (λ q. q ++ k.tokens) (ap (λ q. q.emitted) g.answer.is) ∙ append_assoc y.emitted (begun t ∷ []) k.tokens ∙ ap (λ q. q ++ begun t ∷ k.tokens) (sym (ap (λ q. q.emitted) e));
        left = subst (λ q. leaves Y (to_begin q) w) i l;
      }

      zero_or : (r : ℕ) → (r ≡ 0) ⊎ ((l : ℕ) × (r ≡ suc l))
      zero_or zero = inl refl
      zero_or (suc l) = inr (l, refl)

      rest_longer : {ss : List Step} {b c z : State} → Takes b ends c → Does routine Takes ss c z → Longer b z
      rest_longer n d = both_longer (longer (end_emitted n)) (does_longer d)

      cut : {ss qs : List Step} {x z X w : State} (r : ℕ) → X ≡ with_budget x r → qs ≡ ss → Does routine Takes ss x z → Stops routine Takes leaves qs X w → Cut x z r w
      cut r e f finished (unanswered n l) = no_steps f
      cut r e f finished (answered p s) = none_asked f p
      cut r e f (goes_on q d) (unanswered n l) = absurd (n _ _ _ (asks_here e f q))
      cut r e f (reads q g i h d) (unanswered n l) = absurd (n _ _ _ (asks_here e f q))
      cut r e f (goes_on q d) (answered p (stops_on s)) =
          let o = asks_again e f q p in
          cut_after (asks_emitted q) (let z : 0 + r ≡ r = omega arith in z) (longer (nothing_emitted refl)) (cut r o.state o.following d s)
      cut r e f (goes_on q d) (answered p (not_begun n l)) = none_some (sym (asks_again e f q p).value)
      cut r e f (goes_on q d) (answered p (stops_within b s)) = none_some (sym (asks_again e f q p).value)
      cut r e f (goes_on q d) (answered p (not_ended b v n l)) = none_some (sym (asks_again e f q p).value)
      cut r e f (goes_on q d) (answered p (stops_after b v n s)) = none_some (sym (asks_again e f q p).value)
      cut r e f (reads q g i h d) (answered p (stops_on s)) = none_some (asks_again e f q p).value
      cut r e f (reads q g i h d) (answered p (not_begun n l)) =
          let o = asks_again e f q p in
          ⊎_elim
          (λ z. cut_here (asks_emitted q) o.state z g (both_longer (does_longer i) (rest_longer h d)) (some_same o.value) l)
          (λ m. absurd (n _ (may_begin m.0 o.state (some_same o.value) m.1 g)))
          (zero_or r)
      cut r e f (reads q g i h d) (answered p (stops_within b s)) =
          let o = asks_again e f q p in
          let t = some_same o.value in
          let m = begun_again o.state t g b in
          cut_after (both_emitted (asks_emitted q) (begin_emitted g)) (let u = m.one_less in omega arith) (rest_longer h d) (cut m.left m.is (same_routine t) i s)
      cut r e f (reads q g i h d) (answered p (not_ended b v n l)) =
          let o = asks_again e f q p in
          let t = some_same o.value in
          let m = begun_again o.state t g b in
          let w = both_do m.left m.is (same_routine t) i v in
          absurd (n _ (ended_here w.is h))
      cut r e f (reads q g i h d) (answered p (stops_after b v n s)) =
          let o = asks_again e f q p in
          let t = some_same o.value in
          let m = begun_again o.state t g b in
          let w = both_do m.left m.is (same_routine t) i v in
          cut_after (both_emitted (asks_emitted q) (both_emitted (begin_emitted g) (both_emitted w.between (end_emitted h)))) (let u = m.one_less in let y = w.sum in omega arith) (longer (nothing_emitted refl))
          (cut w.left (ended_again w.is h n) o.following d s)

    -- ---- a whole value

    whole : {t : TypeId} {x z : State} → Reads routine Takes t x z → Does routine Takes (Call t ∷ []) x z
    whole r = reads call r.begun r.done r.ended finished

    -- if fewer values may begin than do, it isn't read
    pub as_many_may : {t : TypeId} {x z Z : State} (r : ℕ) → Reads routine Takes t x z → Reads routine Takes t (with_budget x r) Z → x.emitted ≡ [] → begun_in z.emitted ≤ r
    as_many_may {z = z} r d h e =
        let w = both_do r refl refl (whole d) (whole h) in
        let b = w.between in
        let f : z.emitted ≡ b.tokens = b.emitted ∙ ap (λ q. q ++ b.tokens) e in
        let g = ap begun_in f in
        let c = b.count in
        let s = w.sum in
        omega arith

    pub cut_reading : (leaves : State → Question → State → Type 0) {t : TypeId} {x z w : State} (r : ℕ) → Reads routine Takes t x z → StopsReading routine Takes leaves t (with_budget x r) w → Cut leaves x z r w
    cut_reading leaves r d h = cut leaves r refl refl (whole d) (answered call h)
