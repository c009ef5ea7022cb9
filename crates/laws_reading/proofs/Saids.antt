-- What a routine reads, the octets say.
use Rattle.std.proofs.Common.{arith, ◌≡◌, ℕ, zero, suc, ◌+◌, ◌<◌, ◌≤◌, ⊎_elim, Bool, true, false, List, [], ◌∷◌, ◌++◌, length, take, drop, refl, sym, ap, subst, ◌∙◌, append_assoc, length-append}
use Rattle.std.proofs.lemmas.List.{append-nil}
use Rattle.std.proofs.lemmas.List.Folds.{concat-append}
use Rattle.std.proofs.Math.Seq.{take-append_seam}
use Rattle.std.specs.Prelude.{Some, None, slice_get, replicate}
use Rattle.std.specs.List.{concat, AllByRecursion}
use Rattle.std.specs.Int.Digits.{AllBelowBase}
use Rattle.asn_base.specs.declared.tag.Tag.{Tag}
use Rattle.asn_base.specs.declared.schema.TypeId.{TypeId}
use Rattle.asn_base.specs.Abstract.{AbstractValue, fields, list, alternative, Row, end, absent, present}
use Rattle.asn_base.specs.Names.{IsMember}
use Rattle.asn_base.specs.Types.{TypeNumber, Alternative, any_number, any_size, Kind, a_boolean, an_integer, an_enumerated, a_bit_string, a_named_bit_string, an_octet_string, a_null, an_object_identifier, a_relative_oid, a_utf8_string, a_restricted_string, a_sequence, a_set, a_sequence_of, a_set_of, a_choice, Component, Resolved, Is}
use Rattle.asn_base.specs.Tags.{IsChoice, is_mandatory}
use Rattle.asn_base.specs.Schemas.{IsSchema, IsSound, HasTag}
use Rattle.encodings.specs.Rules.{Basic}
use Rattle.encodings.specs.Header.{Header}
use Rattle.encodings.specs.Encoding.{Framed, bare, innermost, outer, says, ContentsEncode, leaf, sequence, set, sequence_of, set_of, choice, Members, no_member, left_out, member, Elements, no_element, element, last_run, no_unknown}
use Rattle.encodings.specs.Levels.{inner_levels, member_levels, element_levels}
use Rattle.encodings.specs.declared.leaf_kind.LeafKind.{LeafKind}
use Rattle.encodings.specs.declared.leaf_kind.LeafKind.TheVariants as leaves
use Rattle.codec_code.specs.declared.step.Head.{Head as Head'}
use Rattle.codec_code.specs.declared.step.Step.{Step}
use Rattle.codec_code.specs.declared.step.Step.TheVariants.{Head, Leaf, Each, EachSorted, Pick}
use Rattle.codec_code.specs.Routines.{routine_at, id_of, heads, row_of, is_constructed, body, ends, fields_from, field_of, ranked_from, rest_if, calls}
use Rattle.encodings.specs.Leaves.{plain}
use Rattle.codec_source.specs.Reading.{Reads, element as element', no_element as no_element', sorted_element, no_sorted_element}
use Rattle.octet_answers.specs.States.{State, Token, component, chosen, begun, ended, held, passed, at_end, following, front}
use Rattle.octet_answers.specs.Found.{IsChosen, chosen as chosen', later, last_steps, Passes}
use Rattle.octet_answers.specs.Answers.{Takes, Begins, Ends, Opens}
use Rattle.laws_reading.proofs.Places.{places_emitted}
use Rattle.laws_reading.specs.TokensShow.{skipped_in, TokensShow, shows, ShowsOf, shows_leaf, shows_sequence, shows_set, shows_sequence_of, shows_set_of, shows_choice, ShowsFields, no_field, absent_field, present_field, ShowsElements, no_element_shown, element_shown}
use Rattle.laws_reading.specs.Saying.{StartsWithEncoding}
use Rattle.laws_reading.proofs.Along.{emitted_both, emitted_closed, emitted_value, passed_both, passed_times, Along, stays, both, along_as, last_same, below_contents, framed, marks_closed, along_value}
use Rattle.laws_reading.proofs.Runs.{Runs, run_on, run_value, RunsValue, bounded, head_run, end_run, leaf_run, rest_run, FieldRun, run_absent, run_present, field_run, pick_run, nothing_run, routine_is}
use Rattle.laws_reading.proofs.Values.{Fine, fine_after, ValueRead, Below, Then, outer_same, same_state}
use Rattle.laws_reading.proofs.Leaves.{Moves, itself, to_integer, to_enumerated, to_bits, to_named_bits, to_octets, to_utf8, to_restricted, leaf_read}
use Rattle.laws_reading.proofs.Skipped.{skipped, UnknownRead, unknown_read, nothing_unknown, none_last, tail_plain, may_lack, unknown_of}
use Rattle.laws_reading.proofs.Partly.{IsPresentAt, all_there}
use Rattle.laws_reading.proofs.Sets.{marks_of, SetRead, set_end, Steps, set_loop, found_at, none_ranked, set_extensible, after_ranked, must_be_read, none_to_skip}

pub record MembersRead (s : List Resolved) (i : ℕ) (cs : List Component) (a b : State) : Type 0 where
  pub row : Row
  pub count : ℕ
  pub encodings : List (List ℕ)
  pub members : Members s Basic cs row count encodings
  pub few : member_levels members + length a.outer ≤ 400
  pub along : Along a b (concat encodings)
  pub marks : b.marks ≡ a.marks
  pub tokens : List Token
  pub emitted : b.emitted ≡ a.emitted ++ tokens
  pub shown : ShowsFields s i cs row tokens
  pub counted : skipped_in tokens ≡ count

pub record ElementsRead (s : List Resolved) (u : TypeNumber) (a b : State) : Type 0 where
  pub row : Row
  pub count : ℕ
  pub encodings : List (List ℕ)
  pub elements : Elements s Basic u row count encodings
  pub few : element_levels elements + length a.outer ≤ 400
  pub along : Along a b (concat encodings)
  pub marks : b.marks ≡ a.marks
  pub tokens : List Token
  pub emitted : b.emitted ≡ a.emitted ++ tokens
  pub shown : ShowsElements s u row tokens
  pub counted : skipped_in tokens ≡ count

pub record BodyRead (s : List Resolved) (k : Kind) (a b : State) : Type 0 where
  pub value : AbstractValue
  pub count : ℕ
  pub form : Bool
  pub octets : List ℕ
  pub holds : ContentsEncode s Basic k value count form octets
  pub few : inner_levels holds + length a.outer ≤ 400
  pub same_form : (is_constructed (row_of k) ≡ true → a.here.constructed ≡ true) → form ≡ a.here.constructed
  pub along : Along a b octets
  pub tokens : List Token
  pub emitted : b.emitted ≡ a.emitted ++ tokens
  pub shown : ShowsOf s k value tokens
  pub counted : skipped_in tokens ≡ count
  pub more : List ℕ
  pub marks : b.marks ≡ a.marks ++ more
  pub none : IsChoice k → more ≡ []

pub record CoreRead (s : List Resolved) (tags : List Tag) (k : Kind) (a b : State) : Type 0 where
  pub value : AbstractValue
  pub count : ℕ
  pub form : Bool
  pub inside : List ℕ
  pub octets : List ℕ
  pub holds : ContentsEncode s Basic k value count form inside
  pub frame : Framed Basic tags form inside octets
  pub few : length tags + inner_levels holds + length a.outer ≤ 400
  pub along : Along a b octets
  pub marks : b.marks ≡ a.marks
  pub tokens : List Token
  pub emitted : b.emitted ≡ a.emitted ++ tokens
  pub shown : ShowsOf s k value tokens
  pub counted : skipped_in tokens ≡ count

-- ---- components in order

present_first : {s : List Resolved} {i : ℕ} {c : Component} {cs : List Component} {x y d b : State}
    → Along x y []
    → y.marks ≡ x.marks
    → y.emitted ≡ x.emitted ++ component i ∷ []
    → ValueRead s c.type y d
    → MembersRead s (suc i) cs d b
    → MembersRead s i (c ∷ cs) x b
present_first {i = i} {x = x} {y = y} {d = d} al m t v r =
    let e = outer_same al in
    let f = outer_same v.along in
    let g = v.few in
    let h = r.few in
    record {
      row = present v.value r.row;
      count = v.count + r.count;
      encodings = v.octets ∷ r.encodings;
      members = member v.is_encoded tt r.members;
      few = omega arith;
      along = both al (both v.along r.along);
      marks = r.marks ∙ v.marks ∙ m;
      tokens = component i ∷ (v.tokens ++ r.tokens);
      emitted = emitted_both x.emitted (component i ∷ []) (v.tokens ++ r.tokens) t (emitted_both y.emitted v.tokens r.tokens v.emitted r.emitted);
      shown = present_field v.shown r.shown refl;
      counted = (let z = passed_both v.tokens r.tokens in let p = v.counted in let q = r.counted in omega arith);
    }

absent_first : {s : List Resolved} {i : ℕ} {c : Component} {cs : List Component} {x y b : State}
    → is_mandatory c ≡ false
    → Along x y []
    → y.marks ≡ x.marks
    → y.emitted ≡ x.emitted
    → MembersRead s (suc i) cs y b
    → MembersRead s i (c ∷ cs) x b
absent_first l al m t r =
    let e = outer_same al in
    let h = r.few in
    record {
      row = absent r.row;
      count = r.count;
      encodings = r.encodings;
      members = left_out l r.members;
      few = omega arith;
      along = both al r.along;
      marks = r.marks ∙ m;
      tokens = r.tokens;
      emitted = r.emitted ∙ ap (λ q. q ++ r.tokens) t;
      shown = absent_field r.shown;
      counted = r.counted;
    }

pub fields_read : {s : List Resolved} {n : ℕ} → Below s n → (i : ℕ) (cs : List Component) (tail : List Step) {x z : State}
    → AllByRecursion (λ c. c.type < length s) cs
    → Fine s x
    → Runs s n (fields_from i cs ++ tail) x z
    → Then s n (MembersRead s i cs x) tail z
fields_read ih i [] tail {x = x} all f d = record {
  state = x;
  read = record { row = end; count = 0; encodings = []; members = no_member; few = (let q = f.deep in omega arith); along = stays x x refl refl refl refl; marks = refl; tokens = []; emitted = sym (append-nil x.emitted); shown = no_field; counted = refl };
  rest = d;
}
fields_read {s} {n} ih i (c ∷ cs) tail {x = x} {z = z} all f d = by (field_run s d) (λ y g r. fields_read ih (suc i) cs tail {x = y} {z = z} all.1 g r)
  where
    by : FieldRun s n (field_of i c) (fields_from (suc i) cs ++ tail) x z → ((y : State) → Fine s y → Runs s n (fields_from (suc i) cs ++ tail) y z → Then s n (MembersRead s (suc i) cs y) tail z) → Then s n (MembersRead s i (c ∷ cs) x) tail z
    by (run_absent {y = y} q r) rest =
        let al = same_state x y q.is in
        let t = rest y (fine_after f al) r in
        record { state = t.state; read = absent_first (may_lack c q.may_be) al (ap (λ w. w.marks) q.is) (ap (λ w. w.emitted) q.is) t.read; rest = t.rest }
    by (run_present {y = y} {c = e} q v r) rest =
        let al = stays x y (ap (λ w. w.here) q.is) (ap (λ w. w.outer) q.is) (ap (λ w. w.values) q.is) (ap (λ w. w.schema) q.is) in
        let fy = fine_after f al in
        let w = ih c.type y e all.0 fy v in
        let t = rest e (fine_after fy w.along) r in
        record { state = t.state; read = present_first al (ap (λ w. w.marks) q.is) (ap (λ w. w.emitted) q.is) w t.read; rest = t.rest }

-- ---- elements

one_more : {s : List Resolved} {u : TypeNumber} {x y d b : State}
    → Along x y []
    → y.marks ≡ x.marks
    → y.emitted ≡ x.emitted
    → ValueRead s u y d
    → ElementsRead s u d b
    → ElementsRead s u x b
one_more {x = x} al m t v r =
    let e = outer_same al in
    let f = outer_same v.along in
    let g = v.few in
    let h = r.few in
    record {
      row = present v.value r.row;
      count = v.count + r.count;
      encodings = v.octets ∷ r.encodings;
      elements = element v.is_encoded r.elements;
      few = omega arith;
      along = both al (both v.along r.along);
      marks = r.marks ∙ v.marks ∙ m;
      tokens = v.tokens ++ r.tokens;
      emitted = emitted_both x.emitted v.tokens r.tokens (v.emitted ∙ ap (λ q. q ++ v.tokens) t) r.emitted;
      shown = element_shown v.shown r.shown refl;
      counted = (let z = passed_both v.tokens r.tokens in let p = v.counted in let q = r.counted in omega arith);
    }

no_more : {s : List Resolved} {u : TypeNumber} {x y : State} → Fine s x → y ≡ x → ElementsRead s u x y
no_more {x = x} {y = y} f e = record { row = end; count = 0; encodings = []; elements = no_element; few = (let q = f.deep in omega arith); along = same_state x y e; marks = ap (λ q. q.marks) e; tokens = []; emitted = ap (λ q. q.emitted) e ∙ sym (append-nil x.emitted); shown = no_element_shown; counted = refl }

pub each_read : {s : List Resolved} {n : ℕ} → Below s n → (u : TypeNumber) (tail : List Step) {x z : State}
    → u < length s
    → Fine s x
    → Runs s n (Each (id_of u) ∷ tail) x z
    → Then s n (ElementsRead s u x) tail z
each_read ih u tail {x = x} l f (run_on {y = y} (no_element' t) d) = record { state = y; read = no_more f t.answer.is; rest = d }
each_read ih u tail {x = x} l f (run_value {m = m} {y = y} {a = a} {b = b} {c = c} lt (element' t) g r e d) =
    let al = same_state x y t.answer.is in
    let fy = fine_after f al in
    let v = ih u y c l fy (record { depth = m; less = lt; first = a; last = b; begun = g.answer; run = r; ended = e.answer }) in
    let w = each_read ih u tail l (fine_after fy v.along) d in
    record { state = w.state; read = one_more al (ap (λ q. q.marks) t.answer.is) (ap (λ q. q.emitted) t.answer.is) v w.read; rest = w.rest }

pub each_sorted_read : {s : List Resolved} {n : ℕ} → Below s n → (u : TypeNumber) (tail : List Step) {x z : State}
    → u < length s
    → Fine s x
    → Runs s n (EachSorted (id_of u) ∷ tail) x z
    → Then s n (ElementsRead s u x) tail z
each_sorted_read ih u tail {x = x} l f (run_on {y = y} (no_sorted_element t) d) = record { state = y; read = no_more f t.answer.is; rest = d }
each_sorted_read ih u tail {x = x} l f (run_value {m = m} {y = y} {a = a} {b = b} {c = c} lt (sorted_element t) g r e d) =
    let al = same_state x y t.answer.is in
    let fy = fine_after f al in
    let v = ih u y c l fy (record { depth = m; less = lt; first = a; last = b; begun = g.answer; run = r; ended = e.answer }) in
    let w = each_sorted_read ih u tail l (fine_after fy v.along) d in
    record { state = w.state; read = one_more al (ap (λ q. q.marks) t.answer.is) (ap (λ q. q.emitted) t.answer.is) v w.read; rest = w.rest }

elements_body : {s : List Resolved} {n : ℕ} {u : TypeNumber} {x z : State} {tail : List Step} (k : Kind)
    → is_constructed (row_of k) ≡ true
    → (IsChoice k → ⊥)
    → (r : Then s n (ElementsRead s u x) tail z)
    → (h : ContentsEncode s Basic k (list r.read.row) r.read.count true (concat r.read.encodings))
    → inner_levels h ≡ element_levels r.read.elements
    → ShowsOf s k (list r.read.row) r.read.tokens
    → Then s n (BodyRead s k x) tail z
elements_body {x = x} k form never r h e w =
    let f = r.read.few in
    record {
      state = r.state;
      read = record { value = list r.read.row; count = r.read.count; form = true; octets = concat r.read.encodings; holds = h; few = omega arith; same_form = λ p. sym (p form); along = r.read.along; tokens = r.read.tokens; emitted = r.read.emitted; shown = w; counted = r.read.counted; more = []; marks = r.read.marks ∙ sym (append-nil x.marks); none = λ c. refl };
      rest = r.rest;
    }

-- ---- leaves

pub leaf_body : {s : List Resolved} {n : ℕ} (lk : LeafKind) (k : Kind) → body s k ≡ Leaf lk ∷ [] → Moves (plain lk) k → (tail : List Step) {x z : State}
    → Runs s n (Leaf lk ∷ tail) x z
    → Then s n (BodyRead s k x) tail z
leaf_body {s} lk k steps move tail {x = x} d =
    let r = leaf_run s d in
    let h = r.1 in
    let l = leaf_read x.here.constructed lk k h.value h.levels x.here.octets move h.contents in
    let a = l.few in
    let b = h.few_levels in
    let w : r.0.here ≡ at_end x.here = ap (λ q. q.here) h.is in
    record {
      state = r.0;
      read = record {
        value = h.value;
        count = 0;
        form = x.here.constructed;
        octets = x.here.octets;
        holds = leaf l.contents;
        few = omega arith;
        same_form = λ p. refl;
        along = record {
          octets = sym (append-nil x.here.octets) ∙ ap (λ q. x.here.octets ++ q) (sym (ap (λ q. q.octets) w));
          form = ap (λ q. q.constructed) w;
          from = ap (λ q. q.from) w;
          outer = ap (λ q. q.outer) h.is;
          values = ap (λ q. q.values) h.is;
          schema = ap (λ q. q.schema) h.is;
          ends = ap (λ q. q.at + length q.octets) w ∙ (let y : (x.here.at + length x.here.octets) + 0 ≡ x.here.at + length x.here.octets = omega arith in y);
        };
        tokens = held lk x.here.constructed x.here.octets x.here.at ∷ [];
        emitted = ap (λ q. q.emitted) h.is;
        shown = shows_leaf h.levels (omega arith) steps h.contents;
        counted = refl;
        more = [];
        marks = ap (λ q. q.marks) h.is ∙ sym (append-nil x.marks);
        none = λ c. refl;
      };
      rest = r.2;
    }

-- ---- SEQUENCE

sequence_body : {s : List Resolved} {e : Bool} {cs : List Component} {x y z : State} → MembersRead s 0 cs x y → UnknownRead s (last_run cs) e y z → BodyRead s (a_sequence e cs) x z
sequence_body {x = x} m u =
    let a = m.few in
    let b = u.few in
    let c = outer_same m.along in
    record {
      value = fields m.row;
      count = m.count + u.count;
      form = true;
      octets = concat (m.encodings ++ u.encodings);
      holds = sequence m.members u.unknown;
      few = omega arith;
      same_form = λ p. sym (p refl);
      along = along_as (sym (concat-append m.encodings u.encodings)) (both m.along u.along);
      tokens = m.tokens ++ replicate u.count passed;
      emitted = emitted_both x.emitted m.tokens (replicate u.count passed) m.emitted u.emitted;
      shown = shows_sequence u.count m.shown refl;
      counted = (let z = passed_both m.tokens (replicate u.count passed) in let p = m.counted in let q = passed_times u.count in omega arith);
      more = [];
      marks = u.marks ∙ m.marks ∙ sym (append-nil x.marks);
      none = λ c. absurd c;
    }

-- the additions after the components of the innermost value
rest_read : {s : List Resolved} {n t : ℕ} {tags : List Tag} {cs : List Component} {x z : State} (e : Bool) (m : ℕ) (vs : List TypeId)
    → Is s t tags (a_sequence e cs)
    → Fine s x
    → x.values ≡ vs ++ id_of t ∷ []
    → Runs s n (rest_if e ++ ends m) x z
    → Then s n (UnknownRead s (last_run cs) e x) (ends m) z
rest_read {cs = cs} {x = x} false m vs i f v d = record { state = x; read = nothing_unknown (last_run cs) x f.deep; rest = d }
rest_read {s} {t = t} {tags = tags} {cs = cs} {x = x} true m vs i f v d =
    let r = rest_run s d in
    let q = r.1 in
    let k = a_sequence true cs in
    let tail = rest_if true ++ ends (length tags) in
    let same : q.value ≡ id_of t = (last_same q.others vs q.value (id_of t) (sym q.is_open ∙ v)).1 in
    let steps : routine_at s q.value.index ≡ heads tags (row_of k) ++ (fields_from 0 cs ++ tail) = ap (λ w. routine_at s w.index) same ∙ routine_is s t tags k i ∙ ap (λ w. heads tags (row_of k) ++ w) (append_assoc (fields_from 0 cs) (rest_if true) (ends (length tags))) in
    let p = subst (λ w. Passes w (last_steps (routine_at w q.value.index)) true x None r.0) f.schema q.pass in
    let p2 = subst (λ w. Passes s (last_steps w) true x None r.0) steps p in
    let u = skipped (last_run cs) (λ g n. none_last tags (row_of k) cs tail (tail_plain true (length tags)) n) f.below p2 in
    record { state = r.0; read = unknown_read f.deep u; rest = r.2 }

-- ---- CHOICE

-- the alternative that was chosen
pub record Chosen (as' : List Alternative) (i : ℕ) (t : TypeId) : Type 0 where
  pub alternative : Alternative
  pub comes : slice_get as' i ≡ Some alternative
  pub type : t ≡ id_of alternative.type

pub chosen_is : {s : List Resolved} {g : Tag} {t : TypeId} (as' : List Alternative) (i : ℕ) → IsChosen s g (calls as') i t → Chosen as' i t
chosen_is [] i q = elim q [ ]
chosen_is (a ∷ as') zero (chosen' f) = record { alternative = a; comes = refl; type = refl }
chosen_is (a ∷ as') (suc i) (later n q) =
    let r = chosen_is as' i q in
    record { alternative = r.alternative; comes = r.comes; type = r.type }

pub drop_front : {A : Type 0} (xs ys : List A) → drop (length xs) (xs ++ ys) ≡ ys
drop_front [] ys = refl
drop_front (x ∷ xs) ys = drop_front xs ys

calls_length : (as' : List Alternative) → length (calls as') ≡ length as'
calls_length [] = refl
calls_length (a ∷ as') = ap suc (calls_length as')

at_place : (P : Alternative → Type 0) (qs : List Alternative) (j : ℕ) (b : Alternative) → AllByRecursion P qs → slice_get qs j ≡ Some b → P b
at_place P [] j b a e = absurd (let f : None ≡ Some b = e in cc)
at_place P (q ∷ qs) zero b a e = subst P (let f : Some q ≡ Some b = e in cc) a.0
at_place P (q ∷ qs) (suc j) b a e = at_place P qs j b a.1 e

choice_body : {s : List Resolved} {n : ℕ} → Below s n → (m : ℕ) (root more : List Alternative) (e : Bool) {x z : State}
    → AllByRecursion (λ a. a.type < length s) (root ++ more)
    → Fine s x
    → Runs s n (Pick (length (root ++ more)) ∷ (calls (root ++ more) ++ ends m)) x z
    → Then s n (BodyRead s (a_choice root e more) x) (ends m) z
choice_body {s} {n} ih m root more e {x = x} {z = z} all f d =
    let as' = root ++ more in
    let p = pick_run s d in
    let q = p.chooses in
    let len = calls_length as' in
    let front : take (length as') (calls as' ++ ends m) ≡ calls as' = ap (λ w. take w (calls as' ++ ends m)) (sym len) ∙ take-append_seam (calls as') (ends m) in
    let following : drop (length as') (calls as' ++ ends m) ≡ ends m = ap (λ w. drop w (calls as' ++ ends m)) (sym len) ∙ drop_front (calls as') (ends m) in
    let c = chosen_is as' q.index (subst (λ w. IsChosen x.schema q.tag w q.index p.type) front q.alternative) in
    let al = stays x p.next (ap (λ w. w.here) q.is) (ap (λ w. w.outer) q.is) (ap (λ w. w.values) q.is) (ap (λ w. w.schema) q.is) in
    let fy = fine_after f al in
    let v = ih c.alternative.type p.next p.following (at_place (λ a. a.type < length s) as' q.index c.alternative all c.comes) fy (subst (λ w. RunsValue s n w p.next p.following) c.type p.value) in
    let g = v.few in
    let h = outer_same al in
    record {
      state = p.following;
      read = record {
        value = alternative q.index v.value;
        count = v.count;
        form = true;
        octets = v.octets;
        holds = choice c.comes v.is_encoded;
        few = omega arith;
        same_form = λ w. sym (w refl);
        along = both al v.along;
        tokens = chosen q.index ∷ v.tokens;
        emitted = emitted_both x.emitted (chosen q.index ∷ []) v.tokens (ap (λ w. w.emitted) q.is) v.emitted;
        shown = shows_choice c.comes v.shown;
        counted = v.counted;
        more = [];
        marks = v.marks ∙ ap (λ w. w.marks) q.is ∙ sym (append-nil x.marks);
        none = λ w. refl;
      };
      rest = subst (λ w. Runs s n w p.following z) following p.rest;
    }

-- ---- headers

-- within contents no component of a SET was read yet
abbrev pub IsFresh : Kind → State → Type 0
IsFresh k x = (IsChoice k → ⊥) → x.here.from ≡ length x.marks

abbrev pub BodyOf : List Resolved → ℕ → Kind → (State → Type 0) → Type 0
BodyOf s n k P = (m : ℕ) (x z : State) → Fine s x → P x → IsFresh k x → Runs s n (body s k ++ ends m) x z → Then s n (BodyRead s k x) (ends m) z

-- what holds of a state holds of those with as many open values
abbrev pub Keeps : (State → Type 0) → Type 0
Keeps P = (x y : State) → y.values ≡ x.values → P x → P y

opened_fine : {s : List Resolved} {a d : State} {h : Head'} → Fine s a → Opens a h d → Fine s d
opened_fine {a = a} f o =
    let e = ap (λ q. length q.outer) o.is in
    let l = length-append a.outer (following a.here o.count o.contents o.rest ∷ []) in
    let m = o.few_levels in
    record {
      schema = ap (λ q. q.schema) o.is ∙ f.schema;
      below = subst (λ q. AllBelowBase 256 q) (sym (ap (λ q. q.here.octets) o.is)) (below_contents o.unit f.below);
      deep = omega arith;
    }

opened_deeper : {a d : State} {h : Head'} → Opens a h d → length d.outer ≡ suc (length a.outer)
opened_deeper {a = a} o =
    let e = ap (λ q. length q.outer) o.is in
    let l = length-append a.outer (following a.here o.count o.contents o.rest ∷ []) in
    omega arith

one_frame : {s : List Resolved} {n : ℕ} {k : Kind} {P : State → Type 0} (g : Tag) (m : ℕ) → Keeps P → BodyOf s n k P → {x z : State}
    → Fine s x
    → P x
    → Runs s n (Head (record { tag = g; constructed = is_constructed (row_of k); row = row_of k }) ∷ (body s k ++ ends (suc m))) x z
    → Then s n (CoreRead s (g ∷ []) k x) (ends m) z
one_frame {s} {k = k} g m keep f {x = x} {z = z} fine p d =
    let h = head_run s d in
    let o = h.1 in
    let fresh : h.0.here.from ≡ length h.0.marks = ap (λ q. q.here.from) o.is ∙ sym (ap (λ q. length q.marks) o.is) in
    let r = f (suc m) h.0 z (opened_fine fine o) (keep x h.0 (ap (λ q. q.values) o.is) p) (λ q. fresh) h.2 in
    let b = r.read in
    let c = end_run s r.rest in
    let e = framed o b.along c.1 in
    let form : b.form ≡ o.constructed = b.same_form (λ q. ap (λ w. w.here.constructed) o.is ∙ o.form q) ∙ ap (λ w. w.here.constructed) o.is in
    let l = b.few in
    let deeper = opened_deeper o in
    record {
      state = c.0;
      read = record {
        value = b.value;
        count = b.count;
        form = b.form;
        inside = b.octets;
        octets = e.header ++ b.octets;
        holds = b.holds;
        frame = innermost (record { header = subst (λ q. Header g q (length b.octets) e.header) (sym form) e.is_header; fewest = tt });
        few = omega arith;
        along = e.along;
        marks = marks_closed b.more o b.along c.1 b.marks;
        tokens = b.tokens;
        emitted = emitted_closed b.tokens o c.1 b.emitted;
        shown = b.shown;
        counted = b.counted;
      };
      rest = c.2;
    }

pub core_read : {s : List Resolved} {n : ℕ} {k : Kind} {P : State → Type 0} (tags : List Tag) → (tags ≡ [] → IsChoice k) → Keeps P → BodyOf s n k P → (m : ℕ) {x z : State}
    → Fine s x
    → P x
    → Runs s n (heads tags (row_of k) ++ (body s k ++ ends (length tags + m))) x z
    → Then s n (CoreRead s tags k x) (ends m) z
core_read {s} {n} {k = k} [] bare' keep f m {x = x} {z = z} fine p d =
    let e : 0 + m ≡ m = omega arith in
    let r = f m x z fine p (λ q. absurd (q (bare' refl))) (subst (λ q. Runs s n (body s k ++ ends q) x z) e d) in
    let b = r.read in
    let l = b.few in
    record {
      state = r.state;
      read = record {
        value = b.value;
        count = b.count;
        form = b.form;
        inside = b.octets;
        octets = b.octets;
        holds = b.holds;
        frame = bare;
        few = omega arith;
        along = b.along;
        marks = b.marks ∙ ap (λ q. x.marks ++ q) (b.none (bare' refl)) ∙ append-nil x.marks;
        tokens = b.tokens;
        emitted = b.emitted;
        shown = b.shown;
        counted = b.counted;
      };
      rest = r.rest;
    }
core_read {s} {n} {k = k} (g ∷ []) bare' keep f m {x = x} {z = z} fine p d =
    let e : 1 + m ≡ suc m = omega arith in
    one_frame g m keep f fine p (subst (λ q. Runs s n (Head (record { tag = g; constructed = is_constructed (row_of k); row = row_of k }) ∷ (body s k ++ ends q)) x z) e d)
core_read {s} {n} {k = k} (g ∷ g' ∷ gs) bare' keep f m {x = x} {z = z} fine p d =
    let h = head_run s d in
    let o = h.1 in
    let e : length (g ∷ g' ∷ gs) + m ≡ length (g' ∷ gs) + suc m = omega arith in
    let d2 = subst (λ q. Runs s n (heads (g' ∷ gs) (row_of k) ++ (body s k ++ ends q)) h.0 z) e h.2 in
    let r = core_read (g' ∷ gs) (λ q. absurd (let w = ap length q in omega arith)) keep f (suc m) (opened_fine fine o) (keep x h.0 (ap (λ q. q.values) o.is) p) d2 in
    let b = r.read in
    let c = end_run s r.rest in
    let w = framed o b.along c.1 in
    let form : o.constructed ≡ true = o.form refl in
    let l = b.few in
    let deeper = opened_deeper o in
    record {
      state = c.0;
      read = record {
        value = b.value;
        count = b.count;
        form = b.form;
        inside = b.inside;
        octets = w.header ++ b.octets;
        holds = b.holds;
        frame = outer b.frame (record { header = subst (λ q. Header g q (length b.octets) w.header) form w.is_header; fewest = tt });
        few = omega arith;
        along = w.along;
        marks = marks_closed [] o b.along c.1 (b.marks ∙ sym (append-nil h.0.marks));
        tokens = b.tokens;
        emitted = emitted_closed b.tokens o c.1 b.emitted;
        shown = b.shown;
        counted = b.counted;
      };
      rest = c.2;
    }

-- ---- values

-- the type is the innermost open one
abbrev pub IsInnermost : TypeNumber → State → Type 0
IsInnermost t x = (vs : List TypeId) × (x.values ≡ vs ++ id_of t ∷ [])

innermost_kept : (t : TypeNumber) → Keeps (IsInnermost t)
innermost_kept t x y e p = (p.0, e ∙ p.1)

-- ---- SET

set_read : {s : List Resolved} {e : Bool} {cs : List Component} {x b : State}
    → length x.outer ≤ 400
    → (r : SetRead s cs e x b)
    → ((i : ℕ) (c : Component) → slice_get cs i ≡ Some c → is_mandatory c ≡ true → IsPresentAt r.row i)
    → BodyRead s (a_set e cs) x b
set_read {e = e} {x = x} l r h =
    let m = all_there r.partly h in
    let q = m.1 in
    let f = r.few in
    let u = unknown_of e (length x.outer) r.unknown r.only r.few_unknown l in
    let g = u.1 in
    record {
      value = fields r.row;
      count = r.count + r.skipped_count;
      form = true;
      octets = concat r.encodings;
      holds = set m.0 r.permutes tt u.0 r.merges;
      few = omega arith;
      same_form = λ p. sym (p refl);
      along = r.along;
      tokens = r.tokens;
      emitted = r.emitted;
      shown = shows_set r.shown;
      counted = r.counted;
      more = r.more;
      marks = r.marks;
      none = λ c. absurd c;
    }

-- nothing is left to skip
rest_after : {s : List Resolved} {n : ℕ} {b z : State} (P : State → Type 0) (e : Bool) (m : ℕ) → P b → b.here.octets ≡ [] → Runs s n (rest_if e ++ ends m) b z → Then s n P (ends m) z
rest_after {b = b} P false m p o d = record { state = b; read = p; rest = d }
rest_after {s} {b = b} P true m p o d =
    let r = rest_run s d in
    record { state = r.0; read = subst P (sym (none_to_skip r.1.pass o)) p; rest = r.2 }

empty_set : {s : List Resolved} {n : ℕ} {x z : State} (e : Bool) (m : ℕ) → Fine s x → Runs s n (rest_if e ++ ends m) x z → Then s n (BodyRead s (a_set e []) x) (ends m) z
empty_set {x = x} false m f d = record { state = x; read = set_read f.deep (set_end f.deep (record { count = 0; encodings = []; unknown = no_unknown; along = stays x x refl refl refl refl; marks = refl; emitted = sym (append-nil x.emitted); few = λ l. absurd (omega arith); only = λ l. absurd (omega arith) })) (λ i c g. absurd (let w : None ≡ Some c = g in cc)); rest = d }
empty_set {s} {x = x} true m f d =
    let r = rest_run s d in
    let u = skipped [] (λ g n. tt) f.below (subst (λ w. Passes w (last_steps (routine_at w r.1.value.index)) true x None r.0) f.schema r.1.pass) in
    record { state = r.0; read = set_read f.deep (set_end f.deep u) (λ i c g. absurd (let w : None ≡ Some c = g in cc)); rest = r.2 }

steps_of : (s : List Resolved) (all cs : List Component) (e : Bool) (m : ℕ) → Steps s cs e (ranked_from s all 0 cs ++ (rest_if e ++ ends m))
steps_of s all cs e m = record {
  found_in = λ g f i. found_at all e m 0 cs i;
  none_in = λ g n. none_ranked all 0 cs (rest_if e ++ ends m) n;
  extensible = set_extensible s all e m 0 cs;
}

drop_length : {A : Type 0} (xs : List A) → drop (length xs) xs ≡ []
drop_length [] = refl
drop_length (x ∷ xs) = drop_length xs

member_at : (j : ℕ) {xs : List ℕ} → IsMember (0 + j) xs → IsMember j xs
member_at j {xs} m = subst (λ q. IsMember q xs) (let z : 0 + j ≡ j = omega arith in z) m

no_member' : {i : ℕ} → IsMember i [] → ⊥
no_member' m = elim m [ ]

set_body : {s : List Resolved} {n t : ℕ} {tags : List Tag} → Below s n → (m : ℕ) (e : Bool) (cs : List Component) {x z : State}
    → Is s t tags (a_set e cs)
    → AllByRecursion (λ c. c.type < length s) cs
    → Fine s x
    → x.here.from ≡ length x.marks
    → Runs s n (body s (a_set e cs) ++ ends m) x z
    → Then s n (BodyRead s (a_set e cs) x) (ends m) z
set_body {s} {n} ih m e [] {x = x} {z = z} i all f w d = empty_set e m f d
set_body {s} {n} ih m e (c ∷ cs) {x = x} {z = z} i all f w d =
    let tail = rest_if e ++ ends m in
    let ranked = ranked_from s (c ∷ cs) 0 (c ∷ cs) in
    let d2 = subst (λ q. Runs s n q x z) (append_assoc ranked (rest_if e) (ends m)) d in
    let r = set_loop ih all (steps_of s (c ∷ cs) (c ∷ cs) e m) f (omega arith) d2 in
    let none : marks_of x ≡ [] = ap (λ q. drop q x.marks) w ∙ drop_length x.marks in
    let b = set_read f.deep r.read (λ j d g h. ⊎_elim (λ q. absurd (no_member' (subst (λ y. IsMember j y) none q))) (λ q. q) (r.read.marked j (member_at j (must_be_read s (c ∷ cs) tail 0 (c ∷ cs) j d r.all_read g h)))) in
    rest_after (BodyRead s (a_set e (c ∷ cs)) x) e m b r.none_left (subst (λ q. Runs s n q r.state z) (after_ranked s (c ∷ cs) e m 0 (c ∷ cs)) r.rest)

tagged_there : (s : List Resolved) (t : ℕ) → HasTag s t → t < length s
tagged_there [] t h = absurd h
tagged_there (r ∷ s) zero h = omega arith
tagged_there (r ∷ s) (suc t) h = let q = tagged_there s t h in omega arith

all_types : (s : List Resolved) (as' : List Alternative) → AllByRecursion (λ a. HasTag s a.type) as' → AllByRecursion (λ a. a.type < length s) as'
all_types s [] h = tt
all_types s (a ∷ as') h = (tagged_there s a.type h.0, all_types s as' h.1)

body_read : {s : List Resolved} {n t : ℕ} {tags : List Tag} → Below s n → (k : Kind) → Is s t tags k → IsSound s k → BodyOf s n k (IsInnermost t)
body_read ih a_boolean i a m x z f p w d = leaf_body leaves.Boolean a_boolean refl (itself a_boolean) (ends m) d
body_read ih (an_integer c) i a m x z f p w d = leaf_body leaves.Integer (an_integer c) refl (to_integer any_number c) (ends m) d
body_read ih (an_enumerated r e q) i a m x z f p w d = leaf_body leaves.Enumerated (an_enumerated r e q) refl (to_enumerated [] r [] q false e) (ends m) d
body_read ih (a_bit_string c) i a m x z f p w d = leaf_body leaves.BitString (a_bit_string c) refl (to_bits any_size c) (ends m) d
body_read ih (a_named_bit_string bs) i a m x z f p w d = leaf_body leaves.NamedBits (a_named_bit_string bs) refl (to_named_bits [] bs) (ends m) d
body_read ih (an_octet_string c) i a m x z f p w d = leaf_body leaves.OctetString (an_octet_string c) refl (to_octets any_size c) (ends m) d
body_read ih a_null i a m x z f p w d = leaf_body leaves.Null a_null refl (itself a_null) (ends m) d
body_read ih an_object_identifier i a m x z f p w d = leaf_body leaves.ObjectIdentifier an_object_identifier refl (itself an_object_identifier) (ends m) d
body_read ih a_relative_oid i a m x z f p w d = leaf_body leaves.RelativeOid a_relative_oid refl (itself a_relative_oid) (ends m) d
body_read ih (a_utf8_string c) i a m x z f p w d = leaf_body leaves.Utf8String (a_utf8_string c) refl (to_utf8 any_size c) (ends m) d
body_read ih (a_restricted_string k codes c) i a m x z f p w d = leaf_body (leaves.RestrictedString k) (a_restricted_string k codes c) refl (to_restricted k [] codes any_size c) (ends m) d
body_read {s} {n} ih (a_sequence e cs) i a m x z f p w d =
    let r = fields_read ih 0 cs (rest_if e ++ ends m) a.types f (subst (λ q. Runs s n q x z) (append_assoc (fields_from 0 cs) (rest_if e) (ends m)) d) in
    let al = r.read.along in
    let u = rest_read e m p.0 i (fine_after f al) (al.values ∙ p.1) r.rest in
    record { state = u.state; read = sequence_body r.read u.read; rest = u.rest }
body_read ih (a_set e cs) i a m x z f p w d = set_body ih m e cs i a.0.types f (w (λ q. q)) d
body_read ih (a_sequence_of c u) i a m x z f p w d =
    let r = each_read ih u (ends m) a.type f d in
    elements_body (a_sequence_of c u) refl (λ q. q) r (sequence_of r.read.elements) refl (shows_sequence_of r.read.shown)
body_read ih (a_set_of c u) i a m x z f p w d =
    let r = each_sorted_read ih u (ends m) a.type f d in
    elements_body (a_set_of c u) refl (λ q. q) r (set_of r.read.elements tt) refl (shows_set_of r.read.shown)
body_read {s} ih (a_choice root e more) i a m x z f p w d = choice_body ih m root more e (all_types s (root ++ more) a.types) f d

there : (s : List Resolved) (t : ℕ) → t < length s → (r : Resolved) × (slice_get s t ≡ Some r)
there [] t l = absurd (omega arith)
there (r ∷ s) zero l = (r, refl)
there (r ∷ s) (suc t) l = there s t (omega arith)

value_read : {s : List Resolved} {n : ℕ} → IsSchema s → Below s n → (t : TypeNumber) (x a b z : State) → t < length s → Fine s x → Begins x (id_of t) a → Runs s n (routine_at s t) a b → Ends b z → ValueRead s t x z
value_read {s} {n} schema ih t x a b z l fine g d e =
    let r = there s t l in
    let i : Is s t r.0.tags r.0.kind = record { found = r.1 } in
    let tags = r.0.tags in
    let k = r.0.kind in
    let w : length tags ≡ length tags + 0 = omega arith in
    let d2 = subst (λ q. Runs s n (heads tags (row_of k) ++ (body s k ++ ends q)) a b) w (subst (λ q. Runs s n q a b) (routine_is s t tags k i) d) in
    let fa : Fine s a = record { schema = ap (λ q. q.schema) g.is ∙ fine.schema; below = subst (λ q. AllBelowBase 256 q) (sym (ap (λ q. q.here.octets) g.is)) fine.below; deep = (let o = ap (λ q. length q.outer) g.is in let dd = fine.deep in omega arith) } in
    let c = core_read tags (λ q. schema.tagged t k (subst (λ q. Is s t q k) q i)) (innermost_kept t) (body_read ih k i (schema.sound t tags k i)) 0 fa (x.values, ap (λ q. q.values) g.is) d2 in
    let v = c.read in
    let same : c.state ≡ b = nothing_run s c.rest in
    let al = subst (λ q. Along a q v.octets) same v.along in
    let few = v.few in
    let o = ap (λ q. length q.outer) g.is in
    record {
      value = v.value;
      count = v.count;
      octets = v.octets;
      is_encoded = says i v.holds v.frame;
      few = omega arith;
      along = along_value g al e;
      marks = ap (λ q. q.marks) e.is ∙ sym (ap (λ q. q.marks) same) ∙ v.marks ∙ ap (λ q. q.marks) g.is;
      tokens = begun (id_of t) ∷ (v.tokens ++ ended ∷ []);
      emitted = emitted_value v.tokens g (sym (ap (λ q. q.emitted) same) ∙ v.emitted) e;
      shown = shows i v.shown refl;
      counted = (let z = passed_both v.tokens (ended ∷ []) in let p = v.counted in omega arith);
    }

pub below : {s : List Resolved} → IsSchema s → (k n : ℕ) → n ≤ k → Below s n
below schema zero n l t x z lt f v = absurd (let q = v.less in omega arith)
below schema (suc k) n l t x z lt f v = value_read schema (below schema k v.depth (let q = v.less in omega arith)) t x v.first v.last z lt f v.begun v.run v.ended

pub sound : {s : List Resolved} → IsSchema s → (t : TypeNumber) (x z : State) → t < length s → Fine s x → Reads (λ u. routine_at s u) Takes (id_of t) x z → ValueRead s t x z
sound {s} schema t x z l f r =
    let d = bounded s r.done in
    value_read schema (below schema d.0 d.0 (omega arith)) t x r.first r.last z l f r.begun.answer d.1 r.ended.answer

pub said : (s : List Resolved) (t : TypeId) (o : List ℕ) (budget : ℕ) (z : State) → IsSchema s → t.index < length s → AllBelowBase 256 o → Reads (λ u. routine_at s u) Takes t (front s o budget) z → StartsWithEncoding s t.index o z
said s t o budget z schema l below r =
    let v = sound schema t.index (front s o budget) z l (record { schema = refl; below = below; deep = omega arith }) r in
    let f = v.few in
    record { value = v.value; count = v.count; octets = v.octets; is_encoded = v.is_encoded; few = omega arith; whole = v.along.octets; place = (let e = v.along.ends in let w = ap length v.along.octets in let l = length-append v.octets z.here.octets in omega arith); shown = subst (λ q. TokensShow s t.index v.value q) (sym v.emitted) v.shown; counted = ap skipped_in v.emitted ∙ v.counted; slices = places_emitted s t o budget z r }
