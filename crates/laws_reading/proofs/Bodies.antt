-- What octets say is read: contents of each kind.
use Rattle.std.proofs.Common.{arith, ◌≡◌, ℕ, zero, suc, ◌+◌, ◌<◌, ◌≤◌, ◌⊎◌, inl, inr, ⊎_elim, Bool, true, false, List, [], ◌∷◌, ◌++◌, length, take, drop, map, ◌-◌, refl, sym, ap, subst, ◌∙◌, append_assoc, length-append}
use Rattle.std.proofs.lemmas.List.{append-nil}
use Rattle.std.proofs.lemmas.List.Folds.{concat-append}
use Rattle.std.proofs.Math.Seq.{take-append_seam}
use Rattle.std.specs.Prelude.{Some, None, slice_get, cond, not, ◌||◌}
use Rattle.std.specs.List.{concat, AllByRecursion}
use Rattle.asn_base.specs.declared.tag.Tag.{Tag}
use Rattle.asn_base.specs.declared.schema.TypeId.{TypeId}
use Rattle.asn_base.specs.Abstract.{AbstractValue}
use Rattle.asn_base.specs.Types.{TypeNumber, Kind, Alternative, Component, Resolved, Is, a_sequence, a_choice}
use Rattle.asn_base.specs.Tags.{First, IsChoice, is_mandatory, AreApart, AllApart, RunsApart, first_run}
use Rattle.encodings.specs.Rules.{Basic}
use Rattle.encodings.specs.Contents.{Contents}
use Rattle.encodings.specs.Levels.{leaf_levels}
use Rattle.encodings.specs.Encoding.{Unknown, no_unknown, unknown, any_mandatory, last_run}
use Rattle.encodings.specs.declared.leaf_kind.LeafKind.{LeafKind}
use Rattle.codec_code.specs.declared.step.RowKind.{RowKind}
use Rattle.codec_code.specs.declared.step.Step.{Step}
use Rattle.codec_code.specs.declared.step.Step.TheVariants.{Leaf, Each, EachSorted, Call}
use Rattle.codec_code.specs.Routines.{routine_at, id_of, heads, row_of, body, ends, fields_from, field_of, need_of, rest_if, calls}
use Rattle.codec_code.specs.Steps.{may_be_absent}
use Rattle.encodings.specs.Leaves.{plain}
use Rattle.primitive_reader.specs.Leaves.{Suits}
use Rattle.codec_source.specs.Events.{Event, holds, more, comes, picks, skips}
use Rattle.codec_source.specs.Reading.{Asks, leaf, element, no_element, sorted_element, no_sorted_element, field, left_out, pick, rest, Does, goes_on, reads}
use Rattle.octet_answers.specs.Units.{UnitAt}
use Rattle.octet_answers.specs.States.{State, held_at, with_token, component, chosen, passing}
use Rattle.octet_answers.specs.Found.{found, not_yet, IsChosen, chosen as chosen', later, last_steps, Passes, at_end_of_contents, passes}
use Rattle.octet_answers.specs.Answers.{Answers, Takes, AreContents, IsOther}
use Rattle.laws_reading.proofs.Runs.{routine_is}
use Rattle.laws_reading.proofs.Leaves.{Moves}
use Rattle.laws_reading.proofs.Skipped.{NoneFound, NoneFirst, some_must, none_must, all_last, heads_last, tail_plain, NoneMust, need_is}
use Rattle.laws_reading.proofs.Sets.{no_tail}
use Rattle.laws_reading.proofs.Saids.{drop_front}
use Rattle.laws_reading.proofs.Readers.{Fronted, front_some, unit_at, Past, stayed, past_both, Ready, Reader, BodyReader, IsInnermost}
use Rattle.encodings.specs.proving.LastRuns.{in_last, last_later}

none_some : {A : Type 0} {x : A} → None ≡ Some x → ⊥
none_some e = cc

some_same : {A : Type 0} {x y : A} → Some x ≡ Some y → x ≡ y
some_same e = cc

-- ---- leaves

pub primitive_writer : (c : Bool) (lk : LeafKind) (k : Kind) (w : AbstractValue) (levels : ℕ) (y : List ℕ) → Moves k (plain lk) → Suits lk w → (p : Contents Basic k w c y) → leaf_levels p ≤ levels → AreContents c lk w levels y
primitive_writer false lk k w levels y move suits p l = record { contents = (move w false y p).0; suits = suits }
primitive_writer true lk k w levels y move suits p l = let q = move w true y p in let e = q.1 in record { contents = q.0; suits = suits; few = omega arith }

budget_of : (n : ℕ) → n ≤ 400 → (l : ℕ) × (l + n ≡ 400)
budget_of n h = (400 - n, omega arith)

module _ (s : List Resolved) (tk : (a b : State) (e : Event) → Answers a e b → Takes a e b) where
  pub leaf_reader : (t : TypeNumber) (lk : LeafKind) (k : Kind) {w : AbstractValue} {c : Bool} {y : List ℕ} {n : ℕ}
      → body s k ≡ Leaf lk ∷ []
      → Moves k (plain lk)
      → Suits lk w
      → (IsChoice k → ⊥)
      → (p : Contents Basic k w c y)
      → BodyReader s tk t k c y n (leaf_levels p) 0
  leaf_reader t lk k {w} {c} {y} steps move suits never p x rest' r l e i f =
      let g = f never in
      let free = budget_of (length x.outer) (let q = r.levels in omega arith) in
      let all : x.here.octets ≡ y = e ∙ ap (λ q. y ++ q) g.end ∙ append-nil y in
      let con = primitive_writer c lk k w free.0 y move suits p (let q = r.levels in let z = free.1 in omega arith) in
      let con2 = subst (λ q. AreContents q lk w free.0 x.here.octets) (sym g.form) (subst (λ q. AreContents c lk w free.0 q) (sym all) con) in
      let z = held_at x lk in
      let h = tk x z (holds lk) (record { value = w; levels = free.0; few_levels = free.1; contents = con2; is = refl }) in
      record {
        state = z;
        leads = λ j v d. subst (λ q. Does (λ a. routine_at s a) Takes (q ++ ends j) x v) (sym steps) (goes_on (leaf h) d);
        more = [];
        past = record { octets = sym g.end; form = refl; from = refl; outer = refl; values = refl; schema = refl; marks = sym (append-nil x.marks); budget = omega arith };
        none = λ q. refl;
      }

  -- ---- SEQUENCE OF and SET OF

  -- encodings of elements
  pub data AreReaders (u : TypeNumber) (n l : ℕ) : List (List ℕ) → ℕ → Type 0 where
    no_reader : AreReaders u n l [] 0
    one_reader : {x : List ℕ} {xs : List (List ℕ)} {j m : ℕ} → Reader s tk u x n l j → AreReaders u n l xs m → AreReaders u n l (x ∷ xs) (j + m)

  -- the questions about elements of a list
  record AsksMore (p : Step) (u : TypeNumber) (sorted : Bool) : Type 0 where
    some : (ss : List Step) (x y : State) → Takes x (more (id_of u) sorted true) y → Asks Takes (p ∷ ss) x (p ∷ ss) (Some (id_of u)) y
    none : (ss : List Step) (x y : State) → Takes x (more (id_of u) sorted false) y → Asks Takes (p ∷ ss) x ss None y

  record EachTo (p : Step) (x : State) (m : ℕ) : Type 0 where
    state : State
    leads : (tail : List Step) (z : State) → Does (λ u. routine_at s u) Takes tail state z → Does (λ u. routine_at s u) Takes (p ∷ tail) x z
    past : Past x state [] [] m

  each_to : {u : TypeNumber} {n l m : ℕ} {xs : List (List ℕ)} (p : Step) (sorted : Bool) → AsksMore p u sorted → AreReaders u n l xs m → (x : State) → Ready s tk x n l m → length (concat xs) ≤ 16777216 → x.here.octets ≡ concat xs → EachTo p x m
  each_to {u = u} p sorted a no_reader x r q e = record {
    state = x;
    leads = λ tail z d. goes_on (a.none tail x x (tk x x (more (id_of u) sorted false) (record { none = e; is = refl }))) d;
    past = stayed x x [] e refl refl refl refl refl refl refl;
  }
  each_to {u = u} {n = n} {l = l} p sorted a (one_reader {x = o} {xs = xs} {j = j} {m = m} one all) x r q e =
      let len = length-append o (concat xs) in
      let size = front_some one.front in
      let ahead = ap length e in
      let v = one.goes x (concat xs) (record { schema = r.schema; values = r.values; levels = r.levels; budget = (let z = r.budget in omega arith) }) (omega arith) e in
      let p1 = v.past in
      let y = v.state in
      let w = each_to p sorted a all y (record { schema = p1.schema ∙ r.schema; values = (let z = r.values in let b = ap length p1.values in omega arith); levels = (let z = r.levels in let b = ap length p1.outer in omega arith); budget = (let z = r.budget in let b = p1.budget in omega arith) }) (omega arith) p1.octets in
      record {
        state = w.state;
        leads = λ tail z d. reads (a.some tail x x (tk x x (more (id_of u) sorted true) (record { some = omega arith; is = refl }))) v.reads.begun v.reads.done v.reads.ended (w.leads tail z d);
        past = past_both p1 w.past;
      }

  pub each_reader : {u : TypeNumber} {n l m : ℕ} {xs : List (List ℕ)} (t : TypeNumber) (k : Kind) → body s k ≡ Each (id_of u) ∷ [] → (IsChoice k → ⊥) → AreReaders u n l xs m → BodyReader s tk t k true (concat xs) n l m
  each_reader {u = u} {m = m} {xs = xs} t k steps never all x rest' r l e i f =
      let g = f never in
      let w = each_to (Each (id_of u)) false (record { some = λ ss a b q. element q; none = λ ss a b q. no_element q }) all x r l (e ∙ ap (λ q. concat xs ++ q) g.end ∙ append-nil (concat xs)) in
      let p = w.past in
      record {
        state = w.state;
        leads = λ j v d. subst (λ q. Does (λ a. routine_at s a) Takes (q ++ ends j) x v) (sym steps) (w.leads (ends j) v d);
        more = [];
        past = subst (λ q. Past x w.state q [] m) (sym g.end) p;
        none = λ q. refl;
      }

  pub sorted_reader : {u : TypeNumber} {n l m : ℕ} {xs : List (List ℕ)} (t : TypeNumber) (k : Kind) → body s k ≡ EachSorted (id_of u) ∷ [] → (IsChoice k → ⊥) → AreReaders u n l xs m → BodyReader s tk t k true (concat xs) n l m
  sorted_reader {u = u} {m = m} {xs = xs} t k steps never all x rest' r l e i f =
      let g = f never in
      let w = each_to (EachSorted (id_of u)) true (record { some = λ ss a b q. sorted_element q; none = λ ss a b q. no_sorted_element q }) all x r l (e ∙ ap (λ q. concat xs ++ q) g.end ∙ append-nil (concat xs)) in
      let p = w.past in
      record {
        state = w.state;
        leads = λ j v d. subst (λ q. Does (λ a. routine_at s a) Takes (q ++ ends j) x v) (sym steps) (w.leads (ends j) v d);
        more = [];
        past = subst (λ q. Past x w.state q [] m) (sym g.end) p;
        none = λ q. refl;
      }

  -- ---- CHOICE

  others_apart : {g : Tag} (a : Alternative) (as' : List Alternative) (i : ℕ) (b : Alternative) → AllByRecursion (AreApart s a.type) (map (λ c. c.type) as') → slice_get as' i ≡ Some b → First s b.type g → First s a.type g → ⊥
  others_apart a [] i b all e f h = none_some e
  others_apart {g} a (c ∷ as') zero b all e f h = all.0 g h (subst (λ q. First s q.type g) (sym (some_same e)) f)
  others_apart a (c ∷ as') (suc i) b all e f h = others_apart a as' i b all.1 e f h

  call_same : {t u : TypeId} → Call t ≡ Call u → t ≡ u
  call_same e = cc

  chosen_at : {g : Tag} (as' : List Alternative) (i : ℕ) (b : Alternative) → AllApart s (map (λ c. c.type) as') → slice_get as' i ≡ Some b → First s b.type g → IsChosen s g (calls as') i (id_of b.type)
  chosen_at [] i b all e f = absurd (none_some e)
  chosen_at {g} (a ∷ as') zero b all e f =
      let same = some_same e in
      subst (λ q. IsChosen s g (calls (a ∷ as')) zero (id_of q.type)) same (chosen' (subst (λ q. First s q.type g) (sym same) f))
  chosen_at {g} (a ∷ as') (suc i) b all e f = later (λ u q h. others_apart a as' i b all.0 e f (subst (λ z. First s z.index g) (sym (call_same q)) h)) (chosen_at as' i b all.1 e f)

  calls_length : (as' : List Alternative) → length (calls as') ≡ length as'
  calls_length [] = refl
  calls_length (a ∷ as') = ap suc (calls_length as')

  pub choice_reader : {o : List ℕ} {n l m : ℕ} (t : TypeNumber) (root others : List Alternative) (e' : Bool) (i : ℕ) (b : Alternative)
      → AllApart s (map (λ a. a.type) (root ++ others))
      → slice_get (root ++ others) i ≡ Some b
      → Reader s tk b.type o n l m
      → BodyReader s tk t (a_choice root e' others) true o n l m
  choice_reader {o = o} t root others e' i b apart comes' one x rest' r l e inner f =
      let as' = root ++ others in
      let len = calls_length as' in
      let y = with_token x (chosen i) in
      let unit = unit_at one.front rest' x.here.octets e l in
      let v = one.goes y rest' (record { schema = r.schema; values = r.values; levels = r.levels; budget = r.budget }) l e in
      let p = v.past in
      let alt = chosen_at as' i b apart comes' one.first in
      let take_is : (j : ℕ) → take (length as') (calls as' ++ ends j) ≡ calls as' = λ j. ap (λ w. take w (calls as' ++ ends j)) (sym len) ∙ take-append_seam (calls as') (ends j) in
      let drop_is : (j : ℕ) → drop (length as') (calls as' ++ ends j) ≡ ends j = λ j. ap (λ w. drop w (calls as' ++ ends j)) (sym len) ∙ drop_front (calls as') (ends j) in
      record {
        state = v.state;
        leads = λ j z d.
            reads (pick (tk x y (picks (take (length as') (calls as' ++ ends j)) (id_of b.type)) (record {
              tag = one.tag;
              constructed = one.front.constructed;
              count = length one.front.header;
              contents = one.front.contents;
              rest = rest';
              unit = unit;
              index = i;
              alternative = subst (λ q. IsChosen q one.tag (take (length as') (calls as' ++ ends j)) i (id_of b.type)) (sym r.schema) (subst (λ q. IsChosen s one.tag q i (id_of b.type)) (sym (take_is j)) alt);
              is = refl;
            }))) v.reads.begun v.reads.done v.reads.ended (subst (λ q. Does (λ a. routine_at s a) Takes q v.state z) (sym (drop_is j)) d);
        more = [];
        past = record { octets = p.octets; form = p.form; from = p.from; outer = p.outer; values = p.values; schema = p.schema; marks = p.marks; budget = p.budget };
        none = λ q. refl;
      }

  -- ---- SEQUENCE

  -- encodings of components in order of definition
  pub data AreFields (n l : ℕ) : List Component → List (List ℕ) → ℕ → Type 0 where
    no_fields : AreFields n l [] [] 0
    absent_one : {c : Component} {cs : List Component} {xs : List (List ℕ)} {m : ℕ} → is_mandatory c ≡ false → AreFields n l cs xs m → AreFields n l (c ∷ cs) xs m
    present_one : {c : Component} {cs : List Component} {x : List ℕ} {xs : List (List ℕ)} {j m : ℕ} → Reader s tk c.type x n l j → AreFields n l cs xs m → AreFields n l (c ∷ cs) (x ∷ xs) (j + m)

  -- an encoding that begins with no first tag of some components
  pub record Foreign (known : List Component) (u : List ℕ) : Type 0 where
    pub tag : Tag
    pub front : Fronted tag u
    pub is_none : NoneFirst s tag known

  pub foreigners : {known : List Component} {k : ℕ} {us : List (List ℕ)} → Unknown s known k us → AllByRecursion (Foreign known) us
  foreigners no_unknown = tt
  foreigners (unknown {g = g} {c = c} {h = h} x hd b f u) = (record { tag = g; front = record { constructed = c; header = h; contents = x; is_header = hd; whole = refl }; is_none = f }, foreigners u)

  foreign_later : (c : Component) (cs : List Component) (us : List (List ℕ)) → AllByRecursion (Foreign (last_run (c ∷ cs))) us → AllByRecursion (Foreign (last_run cs)) us
  foreign_later c cs [] a = tt
  foreign_later c cs (u ∷ us) a =
      let f = a.0 in
      (record { tag = f.tag; front = f.front; is_none = last_later (λ m. First s m.type f.tag → ⊥) c cs f.is_none }, foreign_later c cs us a.1)

  run_more : (P : Component → Type 0) (c : Component) (cs : List Component) → AllByRecursion P (first_run (c ∷ cs)) → P c
  run_more P c cs a = by (is_mandatory c) a
    where
      by : (m : Bool) → AllByRecursion P (cond m (c ∷ []) (c ∷ first_run cs)) → P c
      by true a = a.0
      by false a = a.0

  run_rest : (P : Component → Type 0) (c : Component) (cs : List Component) → is_mandatory c ≡ false → AllByRecursion P (first_run (c ∷ cs)) → AllByRecursion P (first_run cs)
  run_rest P c cs f a = (subst (λ m. AllByRecursion P (cond m (c ∷ []) (c ∷ first_run cs))) f a).1

  -- an encoding of another type is at the front
  record Other (t : ℕ) (o : List ℕ) : Type 0 where
    tag : Tag
    constructed : Bool
    count : ℕ
    contents : List ℕ
    rest : List ℕ
    unit : UnitAt tag constructed count contents rest o
    not_first : First s t tag → ⊥

  first_other : {t : ℕ} {g : Tag} {y : List ℕ} (front : Fronted g y) (rest' o : List ℕ) → o ≡ y ++ rest' → length o ≤ 16777216 → (First s t g → ⊥) → Other t o
  first_other {g = g} {y = y} f rest' o e l n = record {
    tag = g;
    constructed = f.constructed;
    count = length f.header;
    contents = f.contents;
    rest = rest';
    unit = unit_at f rest' o e (let a = ap length e in let b = length-append y rest' in omega arith);
    not_first = n;
  }

  not_next : {n l m : ℕ} {cs : List Component} {xs : List (List ℕ)} (t : ℕ) (us : List (List ℕ)) (o : List ℕ)
      → AllByRecursion (λ d. AreApart s t d.type) (first_run cs)
      → (any_mandatory cs ≡ false → AllByRecursion (λ u. (g : Tag) × Fronted g u × (First s t g → ⊥)) us)
      → AreFields n l cs xs m
      → o ≡ concat (xs ++ us)
      → length o ≤ 16777216
      → (o ≡ []) ⊎ Other t o
  not_next t [] o apart out no_fields e l = inl e
  not_next t (u ∷ us) o apart out no_fields e l = let f = (out refl).0 in inr (first_other f.1 (concat us) o e l f.2)
  not_next {cs = c ∷ cs} t us o apart out (absent_one m ms) e l =
      not_next t us o (run_rest (λ d. AreApart s t d.type) c cs m apart) (λ z. out (ap (λ q. q || any_mandatory cs) m ∙ z)) ms e l
  not_next {cs = c ∷ cs} t us o apart out (present_one {xs = xs} a ms) e l =
      inr (first_other a.front (concat (xs ++ us)) o e l (λ h. run_more (λ d. AreApart s t d.type) c cs apart a.tag h a.first))

  strangers : (c : Component) (cs : List Component) (us : List (List ℕ)) → is_mandatory c ≡ false → any_mandatory cs ≡ false → AllByRecursion (Foreign (last_run (c ∷ cs))) us → AllByRecursion (λ u. (g : Tag) × Fronted g u × (First s c.type g → ⊥)) us
  strangers c cs [] m e a = tt
  strangers c cs (u ∷ us) m e a =
      let f = a.0 in
      ((f.tag, f.front, λ g. in_last (λ d. First s d.type f.tag → ⊥) c cs e m f.is_none g), strangers c cs us m e a.1)

  pub record FieldsTo (i : ℕ) (cs : List Component) (x : State) (rest' : List ℕ) (m : ℕ) : Type 0 where
    pub state : State
    pub leads : (tail : List Step) (z : State) → Does (λ a. routine_at s a) Takes tail state z → Does (λ a. routine_at s a) Takes (fields_from i cs ++ tail) x z
    pub past : Past x state rest' [] m

  may_be : (c : Component) → is_mandatory c ≡ false → may_be_absent (need_of c.presence) ≡ true
  may_be c e = need_is c.presence ∙ ap not e

  pub fields_to : {n l m : ℕ} {cs : List Component} {xs : List (List ℕ)} (i : ℕ) (us : List (List ℕ))
      → AreFields n l cs xs m
      → RunsApart s cs
      → AllByRecursion (Foreign (last_run cs)) us
      → (x : State)
      → Ready s tk x n l m
      → length (concat (xs ++ us)) ≤ 16777216
      → x.here.octets ≡ concat (xs ++ us)
      → FieldsTo i cs x (concat us) m
  fields_to i us no_fields apart out x r q e = record { state = x; leads = λ tail z d. d; past = stayed x x (concat us) e refl refl refl refl refl refl refl }
  fields_to {cs = c ∷ cs} i us (absent_one mm ms) apart out x r q e =
      let w = fields_to (suc i) us ms apart.1 (foreign_later c cs us out) x r q e in
      let next = not_next c.type us x.here.octets (apart.0 mm) (λ z. strangers c cs us mm z out) ms e (let a = ap length e in omega arith) in
      let next2 : (x.here.octets ≡ []) ⊎ IsOther x (field_of i c) = ⊎_elim (λ a. inl a) (λ a. inr (record { tag = a.tag; constructed = a.constructed; count = a.count; contents = a.contents; rest = a.rest; unit = a.unit; not_first = λ h. a.not_first (subst (λ b. First b c.type a.tag) r.schema h) })) next in
      record {
        state = w.state;
        leads = λ tail z d. goes_on (left_out (tk x x (comes (field_of i c) false) (record { may_be = may_be c mm; next = next2; is = refl }))) (w.leads tail z d);
        past = w.past;
      }
  fields_to {n = n} {l = l} {cs = c ∷ cs} i us (present_one {x = o} {xs = xs} {j = j} {m = m} one ms) apart out x r q e =
      let rest' = concat (xs ++ us) in
      let len = length-append o rest' in
      let y = with_token x (component i) in
      let v = one.goes y rest' (record { schema = r.schema; values = r.values; levels = r.levels; budget = (let a = r.budget in omega arith) }) (omega arith) e in
      let p = v.past in
      let b = v.state in
      let w = fields_to (suc i) us ms apart.1 (foreign_later c cs us out) b (record { schema = p.schema ∙ r.schema; values = (let a = r.values in let h = ap length p.values in omega arith); levels = (let a = r.levels in let h = ap length p.outer in omega arith); budget = (let a = r.budget in let h = p.budget in omega arith) }) (omega arith) p.octets in
      let ask = tk x y (comes (field_of i c) true) (record {
        tag = one.tag;
        constructed = one.front.constructed;
        count = length one.front.header;
        contents = one.front.contents;
        rest = rest';
        unit = unit_at one.front rest' x.here.octets e (omega arith);
        first = subst (λ a. First a c.type one.tag) (sym r.schema) one.first;
        is = refl;
      }) in
      record {
        state = w.state;
        leads = λ tail z d. reads (field ask) v.reads.begun v.reads.done v.reads.ended (w.leads tail z d);
        past = past_both {x = x} {y = b} (record { octets = p.octets; form = p.form; from = p.from; outer = p.outer; values = p.values; schema = p.schema; marks = p.marks; budget = p.budget }) w.past;
      }

  -- ---- additions that the type lacks

  pub record PassedTo (ss : List Step) (x : State) : Type 0 where
    pub state : State
    pub pass : Passes s ss true x None state
    pub past : Past x state [] [] 0

  pub passed_to : (known : List Component) (us : List (List ℕ)) (ss : List Step) → ((g : Tag) → NoneFirst s g known → NoneFound s g ss) → AllByRecursion (Foreign known) us → (x : State) → (1 ≤ length us → length x.outer < 400) → length (concat us) ≤ 16777216 → x.here.octets ≡ concat us → PassedTo ss x
  passed_to known [] ss none a x few l e = record { state = x; pass = at_end_of_contents e; past = stayed x x [] e refl refl refl refl refl refl refl }
  passed_to known (u ∷ us) ss none a x few l e =
      let f = a.0 in
      let g = f.front in
      let len = length-append u (concat us) in
      let y = passing x (length g.header) g.contents (concat us) in
      let w = passed_to known us ss none a.1 y (λ h. few (omega arith)) (omega arith) refl in
      let p = w.past in
      record {
        state = w.state;
        pass = passes refl (unit_at g (concat us) x.here.octets e (omega arith)) (none f.tag f.is_none) (few (omega arith)) w.pass;
        past = record { octets = p.octets; form = p.form; from = p.from; outer = p.outer; values = p.values; schema = p.schema; marks = p.marks; budget = p.budget };
      }

  found_none : {g : Tag} (i : ℕ) (cs : List Component) (tail : List Step) → NoneFirst s g cs → NoneFound s g tail → NoneFound s g (fields_from i cs ++ tail)
  found_none i [] tail a n f q = n f q
  found_none {g} i (c ∷ cs) tail a n f (found e h) = a.0 (subst (λ q. First s q.ty.index g) (sym (some_same e)) h)
  found_none i (c ∷ cs) tail a n f (not_yet b q) = found_none (suc i) cs tail a.1 n f q

  found_heads : {g : Tag} (gs : List Tag) (k : RowKind) (tail : List Step) → NoneFound s g tail → NoneFound s g (heads gs k ++ tail)
  found_heads [] k tail n f q = n f q
  found_heads (h ∷ []) k tail n f (found e i) = none_some e
  found_heads (h ∷ []) k tail n f (not_yet b q) = n f q
  found_heads (h ∷ j ∷ gs) k tail n f (found e i) = none_some e
  found_heads (h ∷ j ∷ gs) k tail n f (not_yet b q) = found_heads (j ∷ gs) k tail n f q

  found_last : {g : Tag} (gs : List Tag) (k : RowKind) (cs : List Component) (tail : List Step) → NoneMust tail → NoneFound s g tail → NoneFirst s g (last_run cs) → NoneFound s g (last_steps (heads gs k ++ (fields_from 0 cs ++ tail)))
  found_last {g} gs k cs tail p n a = by (any_mandatory cs) refl
    where
      by : (t : Bool) → any_mandatory cs ≡ t → NoneFound s g (last_steps (heads gs k ++ (fields_from 0 cs ++ tail)))
      by true e =
          let whole = heads gs k ++ (fields_from 0 cs ++ tail) in
          let r = some_must cs 0 whole tail p e in
          subst (NoneFound s g) (sym (heads_last gs k whole (fields_from 0 cs ++ tail) ∙ r.1)) (found_none r.0 (last_run cs) tail a n)
      by false e =
          let whole = heads gs k ++ (fields_from 0 cs ++ tail) in
          let f = heads_last gs k whole (fields_from 0 cs ++ tail) ∙ none_must cs 0 whole tail p e in
          subst (NoneFound s g) (sym f) (found_heads gs k (fields_from 0 cs ++ tail) (found_none 0 cs tail (subst (NoneFirst s g) (all_last cs e) a) n))

  -- the additions after the components of a SEQUENCE
  pub record RestTo (e : Bool) (x : State) : Type 0 where
    pub state : State
    pub leads : (j : ℕ) (z : State) → Does (λ a. routine_at s a) Takes (ends j) state z → Does (λ a. routine_at s a) Takes (rest_if e ++ ends j) x z
    pub past : Past x state [] [] 0

  pub rest_to : {tags : List Tag} {us : List (List ℕ)} (cs : List Component) (t : TypeNumber) (k : Kind) (e : Bool)
      → Is s t tags k
      → body s k ≡ fields_from 0 cs ++ rest_if e
      → (e ≡ false → us ≡ [])
      → AllByRecursion (Foreign (last_run cs)) us
      → (x : State)
      → IsInnermost s tk t x
      → x.schema ≡ s
      → (1 ≤ length us → length x.outer < 400)
      → length (concat us) ≤ 16777216
      → x.here.octets ≡ concat us
      → RestTo e x
  rest_to cs t k false i same_body none a x inner same few l o = record { state = x; leads = λ j z d. d; past = stayed x x [] (o ∙ ap concat (none refl)) refl refl refl refl refl refl refl }
  rest_to {tags} {us} cs t k true i same_body none a x inner same few l o =
      let tail = rest_if true ++ ends (length tags) in
      let steps : routine_at s t ≡ heads tags (row_of k) ++ (fields_from 0 cs ++ tail) = routine_is s t tags k i ∙ ap (λ w. heads tags (row_of k) ++ (w ++ ends (length tags))) same_body ∙ ap (λ w. heads tags (row_of k) ++ w) (append_assoc (fields_from 0 cs) (rest_if true) (ends (length tags))) in
      let w = passed_to (last_run cs) us (last_steps (heads tags (row_of k) ++ (fields_from 0 cs ++ tail))) (λ g n. found_last tags (row_of k) cs tail (tail_plain true (length tags)) (λ f q. no_tail true (length tags) q) n) a x few l o in
      let pass = subst (λ q. Passes q (last_steps (routine_at q t)) true x None w.state) (sym same) (subst (λ q. Passes s (last_steps q) true x None w.state) (sym steps) w.pass) in
      let ask = tk x w.state skips (record { value = id_of t; others = inner.0; is_open = inner.1; pass = pass }) in
      record { state = w.state; leads = λ j z d. goes_on (rest ask) d; past = w.past }

  pub sequence_reader : {tags : List Tag} {cs : List Component} {us xs : List (List ℕ)} {n l m : ℕ} (t : TypeNumber) (e : Bool)
      → Is s t tags (a_sequence e cs)
      → RunsApart s cs
      → AreFields n l cs xs m
      → (e ≡ false → us ≡ [])
      → AllByRecursion (Foreign (last_run cs)) us
      → (1 ≤ length us → 1 ≤ l)
      → BodyReader s tk t (a_sequence e cs) true (concat (xs ++ us)) n l m
  sequence_reader {cs = cs} {us = us} {xs = xs} {m = m} t e i apart fs none a few x rest' r l o inner f =
      let g = f (λ q. q) in
      let all = o ∙ ap (λ q. concat (xs ++ us) ++ q) g.end ∙ append-nil (concat (xs ++ us)) in
      let w = fields_to 0 us fs apart a x r l all in
      let p = w.past in
      let len = ap length (concat-append xs us) in
      let len2 = length-append (concat xs) (concat us) in
      let v = rest_to cs t (a_sequence e cs) e i refl none a w.state (inner.0, p.values ∙ inner.1) (p.schema ∙ r.schema) (λ h. (let b = few h in let q = r.levels in let z = ap length p.outer in omega arith)) (omega arith) p.octets in
      record {
        state = v.state;
        leads = λ j z d. subst (λ q. Does (λ b. routine_at s b) Takes q x z) (sym (append_assoc (fields_from 0 cs) (rest_if e) (ends j))) (w.leads (rest_if e ++ ends j) z (v.leads j z d));
        more = [];
        past = subst (λ q. Past x v.state q [] m) (sym g.end) (subst (λ q. Past x v.state [] [] q) (let q : m + 0 ≡ m = omega arith in q) (past_both p v.past));
        none = λ q. absurd q;
      }
