-- Components of a SET, in the order of the message.
use Rattle.std.proofs.Common.{arith, ◌≡◌, ℕ, zero, suc, ◌+◌, ◌<◌, ◌≤◌, ◌⊎◌, inl, inr, ⊎_elim, Bool, true, false, List, [], ◌∷◌, ◌++◌, length, drop, refl, sym, ap, subst, ◌∙◌, append_assoc, length-append}
use Rattle.std.proofs.lemmas.List.{append-nil}
use Rattle.std.proofs.lemmas.List.Folds.{concat-append}
use Rattle.std.specs.Prelude.{Option, Some, None, slice_get, replicate}
use Rattle.std.specs.List.{concat, AllByRecursion}
use Rattle.asn_base.specs.declared.tag.Tag.{Tag}
use Rattle.asn_base.specs.Abstract.{Row}
use Rattle.asn_base.specs.Names.{IsMember, is_first, is_later}
use Rattle.asn_base.specs.Tags.{is_mandatory}
use Rattle.asn_base.specs.Types.{Component, Resolved}
use Rattle.encodings.specs.Header.{LengthOf, short, long, identifier}
use Rattle.encodings.specs.Orders.{Permutes, permutes_none, Merges, merges_first}
use Rattle.encodings.specs.Encoding.{Unknown, no_unknown, unknown}
use Rattle.codec_code.specs.declared.step.Field.{Field as Field'}
use Rattle.codec_code.specs.declared.step.Step.{Step}
use Rattle.codec_code.specs.declared.step.Step.TheVariants.{SetComponent}
use Rattle.codec_code.specs.Routines.{id_of, field_of, ranked_from, rest_if, ends}
use Rattle.codec_source.specs.Reading.{past_components, component, no_component}
use Rattle.octet_answers.specs.Units.{UnitAt}
use Rattle.octet_answers.specs.States.{State, Token, passed, component as component'}
use Rattle.octet_answers.specs.Found.{IsFound, found, not_yet, is_extensible, AreRead, is_read, Passes, at_end_of_contents, at_component, passes}
use Rattle.laws_reading.specs.TokensShow.{blank, IsAbsentAt, skipped_in, ShowsMixed, nothing_mixed, passed_mixed, component_mixed}
use Rattle.laws_reading.proofs.Along.{emitted_both, passed_both, passed_times, Along, stays, both, along_as}
use Rattle.laws_reading.proofs.Runs.{Runs, run_on, run_value, RunsValue}
use Rattle.laws_reading.proofs.Skipped.{NoneFound, NoneFirst, Skipped, skipped, none_left, next_found, must_not_lack}
use Rattle.laws_reading.proofs.Partly.{Partly, partly_levels, IsPresentAt, all_missing, blank_absent, put, one_before, all_second, seconds_before}
use Rattle.laws_reading.proofs.Values.{Fine, fine_after, ValueRead, Below, outer_same}

none_some : {A : Type 0} {x : A} → None ≡ Some x → ⊥
none_some e = cc

some_same : {A : Type 0} {x y : A} → Some x ≡ Some y → x ≡ y
some_same e = cc

-- ---- the steps of the components

no_ends : {s : List Resolved} {g : Tag} {f : Field'} (m : ℕ) → IsFound s g (ends m) f → ⊥
no_ends zero i = elim i [ ]
no_ends (suc m) (found e h) = none_some e
no_ends (suc m) (not_yet n i) = no_ends m i

pub no_tail : {s : List Resolved} {g : Tag} {f : Field'} (e : Bool) (m : ℕ) → IsFound s g (rest_if e ++ ends m) f → ⊥
no_tail false m i = no_ends m i
no_tail true m (found e h) = none_some e
no_tail true m (not_yet n i) = no_ends m i

-- the component that is found
pub record FoundAt (cs : List Component) (f : Field') (from : ℕ) : Type 0 where
  pub offset : ℕ
  pub component : Component
  pub comes : slice_get cs offset ≡ Some component
  pub place : f.place ≡ from + offset
  pub type : f.ty ≡ id_of component.type

pub found_at : {s : List Resolved} {g : Tag} {f : Field'} (all : List Component) (e : Bool) (m i : ℕ) (cs : List Component) → IsFound s g (ranked_from s all i cs ++ (rest_if e ++ ends m)) f → FoundAt cs f i
found_at all e m i [] q = absurd (no_tail e m q)
found_at all e m i (c ∷ cs) (found h first) =
    let k = some_same h in
    record { offset = 0; component = c; comes = refl; place = (let p = ap (λ q. q.place) k in omega arith); type = sym (ap (λ q. q.ty) k) }
found_at all e m i (c ∷ cs) (not_yet n q) =
    let r = found_at all e m (suc i) cs q in
    record { offset = suc r.offset; component = r.component; comes = r.comes; place = (let p = r.place in omega arith); type = r.type }

pub none_ranked : {s : List Resolved} {g : Tag} (all : List Component) (i : ℕ) (cs : List Component) (tail : List Step) → NoneFound s g (ranked_from s all i cs ++ tail) → NoneFirst s g cs
none_ranked all i [] tail n = tt
none_ranked all i (c ∷ cs) tail n = (
  λ f. n (field_of i c) (found refl f),
  none_ranked all (suc i) cs tail (λ e j. n e (not_yet (λ b. n b.0 (found b.1 b.2)) j)),
)

ends_closed : (m : ℕ) → is_extensible (ends m) ≡ false
ends_closed zero = refl
ends_closed (suc m) = ends_closed m

pub set_extensible : (s : List Resolved) (all : List Component) (e : Bool) (m i : ℕ) (cs : List Component) → is_extensible (ranked_from s all i cs ++ (rest_if e ++ ends m)) ≡ e
set_extensible s all true m i [] = refl
set_extensible s all false m i [] = ends_closed m
set_extensible s all e m i (c ∷ cs) = set_extensible s all e m (suc i) cs

pub after_ranked : (s : List Resolved) (all : List Component) (e : Bool) (m i : ℕ) (cs : List Component) → past_components (ranked_from s all i cs ++ (rest_if e ++ ends m)) ≡ rest_if e ++ ends m
after_ranked s all true m i [] = refl
after_ranked s all false zero i [] = refl
after_ranked s all false (suc m) i [] = refl
after_ranked s all e m i (c ∷ cs) = after_ranked s all e m (suc i) cs

pub must_be_read : {marks : List ℕ} (s : List Resolved) (all : List Component) (tail : List Step) (i : ℕ) (cs : List Component) (j : ℕ) (c : Component) → AreRead marks (ranked_from s all i cs ++ tail) → slice_get cs j ≡ Some c → is_mandatory c ≡ true → IsMember (i + j) marks
must_be_read s all tail i [] j c a e m = absurd (none_some e)
must_be_read {marks = marks} s all tail i (d ∷ cs) zero c (is_read h a) e m =
    let same = some_same e in
    subst (λ q. IsMember q marks) (let z : i ≡ i + 0 = omega arith in z) (h (field_of i d) refl (must_not_lack d (ap is_mandatory same ∙ m)))
must_be_read {marks = marks} s all tail i (d ∷ cs) (suc j) c (is_read h a) e m =
    subst (λ q. IsMember q marks) (let z : suc i + j ≡ i + suc j = omega arith in z) (must_be_read s all tail (suc i) cs j c a e m)

-- ---- marks

abbrev pub marks_of : State → List ℕ
marks_of a = drop a.here.from a.marks

pub drop_more : (n : ℕ) (xs ys : List ℕ) → n ≤ length xs → drop n (xs ++ ys) ≡ drop n xs ++ ys
drop_more zero xs ys l = refl
drop_more (suc n) [] ys l = absurd (omega arith)
drop_more (suc n) (x ∷ xs) ys l = drop_more n xs ys (omega arith)

pub member_front : {i : ℕ} {xs : List ℕ} (ys : List ℕ) → IsMember i xs → IsMember i (xs ++ ys)
member_front ys is_first = is_first
member_front ys (is_later m) = is_later (member_front ys m)

pub member_last : (i : ℕ) (xs : List ℕ) → IsMember i (xs ++ i ∷ [])
member_last i [] = is_first
member_last i (x ∷ xs) = is_later (member_last i xs)

only_one : {i j : ℕ} → IsMember i (j ∷ []) → i ≡ j
only_one is_first = refl
only_one (is_later m) = elim m [ ]

pub front_or_last : (i j : ℕ) (xs : List ℕ) → IsMember i (xs ++ j ∷ []) → IsMember i xs ⊎ (i ≡ j)
front_or_last i j [] m = inr (only_one m)
front_or_last i j (x ∷ xs) is_first = inl is_first
front_or_last i j (x ∷ xs) (is_later m) = ⊎_elim (λ a. inl (is_later a)) (λ a. inr a) (front_or_last i j xs m)

-- ---- unknown additions of a SET

unknown_both : {s : List Resolved} {cs : List Component} {j k : ℕ} {us vs : List (List ℕ)} → Unknown s cs j us → Unknown s cs k vs → (n : ℕ) × Unknown s cs n (us ++ vs) × (n ≡ j + k)
unknown_both {k = k} no_unknown v = (k, v, omega arith)
unknown_both (unknown x h b f u) v = let r = unknown_both u v in let e = r.2 in (suc r.0, unknown x h b f r.1, omega arith)

pub size_some : {n : ℕ} {x : List ℕ} → LengthOf n x → 1 ≤ length x
size_some (short l) = omega arith
size_some (long l) = omega arith

pub never_empty : {g : Tag} {c : Bool} {k : ℕ} {x r o : List ℕ} → UnitAt g c k x r o → o ≡ [] → ⊥
never_empty {g = g} {c = c} {x = x} {r = r} u e =
    let h = u.is_header in
    let a = ap length u.whole in
    let b = length-append u.header (x ++ r) in
    let d = ap length h.whole in
    let i = length-append (identifier g.class g.number c) h.size in
    let f = size_some h.is_size in
    let z = ap length e in
    omega (arith, a, b, d, i, f, z)

pub none_to_skip : {s : List Resolved} {ss : List Step} {e : Bool} {a b : State} {f : Option Field'} → Passes s ss e a f b → a.here.octets ≡ [] → b ≡ a
none_to_skip (at_end_of_contents q) z = refl
none_to_skip (at_component u i) z = refl
none_to_skip (passes q u n l p) z = absurd (never_empty u z)

-- ---- what was read

pub record SetRead (s : List Resolved) (cs : List Component) (e : Bool) (a b : State) : Type 0 where
  pub row : Row
  pub count : ℕ
  pub in_order : List (List ℕ)
  pub partly : Partly s cs row count in_order
  pub few : partly_levels partly + length a.outer ≤ 400
  pub known : List (List ℕ)
  pub permutes : Permutes in_order known
  pub skipped_count : ℕ
  pub foreign : List (List ℕ)
  pub unknown : Unknown s cs skipped_count foreign
  pub few_unknown : 1 ≤ length foreign → length a.outer < 400
  pub only : 1 ≤ length foreign → e ≡ true
  pub encodings : List (List ℕ)
  pub merges : Merges known foreign encodings
  pub along : Along a b (concat encodings)
  pub more : List ℕ
  pub marks : b.marks ≡ a.marks ++ more
  pub tokens : List Token
  pub emitted : b.emitted ≡ a.emitted ++ tokens
  pub shown : ShowsMixed s cs row tokens
  pub counted : skipped_in tokens ≡ count + skipped_count
  pub fresh : (i : ℕ) → IsMember i (marks_of a) → IsAbsentAt row i
  pub marked : (i : ℕ) → IsMember i (marks_of b) → IsMember i (marks_of a) ⊎ IsPresentAt row i

marks_same : {a b : State} {o : List ℕ} → Along a b o → b.marks ≡ a.marks → marks_of b ≡ marks_of a
marks_same {a} {b} al m = ap (λ q. drop q b.marks) al.from ∙ ap (λ q. drop a.here.from q) m

pub all_passed : {s : List Resolved} {cs : List Component} {ws : Row} {ts : List Token} (n : ℕ) → ShowsMixed s cs ws ts → ShowsMixed s cs ws (replicate n passed ++ ts)
all_passed zero m = m
all_passed (suc n) m = passed_mixed (all_passed n m)

-- no component comes next
pub set_end : {s : List Resolved} {cs : List Component} {e : Bool} {a b : State} → length a.outer ≤ 400 → Skipped s cs e a b → SetRead s cs e a b
set_end {s} {cs} {e} {a} {b} l k =
    let p = all_missing {s = s} cs in
    let z = p.1 in
    record {
      row = blank cs;
      count = 0;
      in_order = [];
      partly = p.0;
      few = omega arith;
      known = [];
      permutes = permutes_none;
      skipped_count = k.count;
      foreign = k.encodings;
      unknown = k.unknown;
      few_unknown = k.few;
      only = k.only;
      encodings = k.encodings;
      merges = all_second k.encodings;
      along = k.along;
      more = [];
      marks = k.marks ∙ sym (append-nil a.marks);
      tokens = replicate k.count passed;
      emitted = k.emitted;
      shown = subst (λ q. ShowsMixed s cs (blank cs) q) (append-nil (replicate k.count passed)) (all_passed k.count nothing_mixed);
      counted = (let w = passed_times k.count in omega arith);
      fresh = λ i m. blank_absent cs i;
      marked = λ i m. inl (subst (λ q. IsMember i q) (marks_same k.along k.marks) m);
    }

-- some additions, a component, and then others
set_more : {s : List Resolved} {cs : List Component} {e : Bool} {a x y d b : State} (i : ℕ) (c : Component)
    → Skipped s cs e a x
    → slice_get cs i ≡ Some c
    → (IsMember i (marks_of x) → ⊥)
    → Along x y []
    → y.marks ≡ x.marks ++ i ∷ []
    → y.emitted ≡ x.emitted ++ component' i ∷ []
    → a.here.from ≤ length a.marks
    → ValueRead s c.type y d
    → SetRead s cs e d b
    → SetRead s cs e a b
set_more {s} {cs} {e} {a} {x} {y} {d} {b} i c k at new al m emitted l v r =
    let o1 = outer_same k.along in
    let o2 = outer_same al in
    let o3 = outer_same v.along in
    let few_value = v.few in
    let few_rest = r.few in
    let marks_y : marks_of y ≡ marks_of x ++ i ∷ [] = ap (λ q. drop q y.marks) al.from ∙ ap (λ q. drop x.here.from q) m ∙ drop_more x.here.from x.marks (i ∷ []) (let f = k.along.from in let g = ap length k.marks in omega arith) in
    let marks_d : marks_of d ≡ marks_of x ++ i ∷ [] = marks_same v.along v.marks ∙ marks_y in
    let marks_x : marks_of x ≡ marks_of a = marks_same k.along k.marks in
    let is_marked : IsMember i (marks_of d) = subst (λ q. IsMember i q) (sym marks_d) (member_last i (marks_of x)) in
    let p = put (length a.outer) r.partly i at (r.fresh i is_marked) v.is_encoded (omega arith) (omega arith) in
    let u = unknown_both k.unknown r.unknown in
    let len = length-append k.encodings r.foreign in
    record {
      row = p.row;
      count = p.count;
      in_order = p.encodings;
      partly = p.partly;
      few = p.few;
      known = v.octets ∷ r.known;
      permutes = one_before p.inserted r.permutes;
      skipped_count = u.0;
      foreign = k.encodings ++ r.foreign;
      unknown = u.1;
      few_unknown = λ z. by_few k.encodings r.foreign k.few (λ q. subst (λ w. w < 400) (o3 ∙ o2 ∙ o1) (r.few_unknown q)) z;
      only = λ z. by_only k.encodings r.foreign k.only r.only z;
      encodings = k.encodings ++ v.octets ∷ r.encodings;
      merges = seconds_before k.encodings (merges_first r.merges);
      along = along_as (sym (concat-append k.encodings (v.octets ∷ r.encodings))) (both k.along (both al (both v.along r.along)));
      more = i ∷ r.more;
      marks = r.marks ∙ ap (λ q. q ++ r.more) (v.marks ∙ m ∙ ap (λ q. q ++ i ∷ []) k.marks) ∙ append_assoc a.marks (i ∷ []) r.more;
      tokens = replicate k.count passed ++ component' i ∷ (v.tokens ++ r.tokens);
      emitted = emitted_both a.emitted (replicate k.count passed) (component' i ∷ (v.tokens ++ r.tokens)) k.emitted (emitted_both x.emitted (component' i ∷ []) (v.tokens ++ r.tokens) emitted (emitted_both y.emitted v.tokens r.tokens v.emitted r.emitted));
      shown = all_passed k.count (component_mixed at (r.fresh i is_marked) v.shown r.shown p.is_row refl);
      counted = (let z1 = passed_both (replicate k.count passed) (component' i ∷ (v.tokens ++ r.tokens)) in let z2 = passed_both v.tokens r.tokens in let z3 = passed_times k.count in let z4 = v.counted in let z5 = r.counted in let z6 = p.as_many in let z7 = u.2 in omega arith);
      fresh = λ j h. p.others_absent j (λ z. new (subst (λ q. IsMember q (marks_of x)) z (subst (λ q. IsMember j q) (sym marks_x) h))) (r.fresh j (subst (λ q. IsMember j q) (sym marks_d) (member_front (i ∷ []) (subst (λ q. IsMember j q) (sym marks_x) h))));
      marked = λ j h. ⊎_elim
          (λ z. ⊎_elim (λ w. inl (subst (λ q. IsMember j q) marks_x w)) (λ w. inr (subst (λ q. IsPresentAt p.row q) (sym w) p.is_there)) (front_or_last j i (marks_of x) (subst (λ q. IsMember j q) marks_d z)))
          (λ z. inr (p.others_present j z)) (r.marked j h);
    }
  where
    by_few : (us vs : List (List ℕ)) → (1 ≤ length us → length a.outer < 400) → (1 ≤ length vs → length a.outer < 400) → 1 ≤ length (us ++ vs) → length a.outer < 400
    by_few [] vs f g z = g z
    by_few (u ∷ us) vs f g z = f (omega arith)

    by_only : (us vs : List (List ℕ)) → (1 ≤ length us → e ≡ true) → (1 ≤ length vs → e ≡ true) → 1 ≤ length (us ++ vs) → e ≡ true
    by_only [] vs f g z = g z
    by_only (u ∷ us) vs f g z = f (omega arith)

-- all components, and nothing is left after them
pub record SetEnd (s : List Resolved) (n : ℕ) (cs : List Component) (e : Bool) (steps : List Step) (x z : State) : Type 0 where
  pub state : State
  pub read : SetRead s cs e x state
  pub all_read : AreRead (marks_of state) steps
  pub none_left : state.here.octets ≡ []
  pub rest : Runs s n (past_components steps) state z

-- what is known of the steps
pub record Steps (s : List Resolved) (cs : List Component) (e : Bool) (steps : List Step) : Type 0 where
  pub found_in : (g : Tag) (f : Field') → IsFound s g steps f → FoundAt cs f 0
  pub none_in : (g : Tag) → NoneFound s g steps → NoneFirst s g cs
  pub extensible : is_extensible steps ≡ e

pub set_loop : {s : List Resolved} {n r : ℕ} {cs : List Component} {e : Bool} {f : Field'} {ss : List Step} → Below s n
    → AllByRecursion (λ c. c.type < length s) cs
    → Steps s cs e (SetComponent f r ∷ ss)
    → {x z : State}
    → Fine s x
    → x.here.from ≤ length x.marks
    → Runs s n (SetComponent f r ∷ ss) x z
    → SetEnd s n cs e (SetComponent f r ∷ ss) x z
set_loop {s} {r = r} {cs = cs} {e = e} {f = f} {ss = ss} ih all k {x = x} fine l (run_on {y = y} (no_component t) d) =
    let q = t.answer in
    let p = subst (λ w. Passes w (SetComponent f r ∷ ss) (is_extensible (SetComponent f r ∷ ss)) x None y) fine.schema q.pass in
    let p2 = subst (λ w. Passes s (SetComponent f r ∷ ss) w x None y) k.extensible p in
    let u = skipped cs k.none_in fine.below p2 in
    record { state = y; read = set_end fine.deep u; all_read = q.all_read; none_left = none_left p2; rest = d }
set_loop {s} {n} {r = r} {cs = cs} {e = e} {f = f} {ss = ss} ih all k {x = x} fine l (run_value {m = depth} {t = tid} {y = y} {a = first} {b = last} {c = c} lt (component t) g i h d) =
    let q = t.answer in
    let steps = SetComponent f r ∷ ss in
    let p = subst (λ w. Passes w steps (is_extensible steps) x (Some q.field) q.next) fine.schema q.pass in
    let p2 = subst (λ w. Passes s steps w x (Some q.field) q.next) k.extensible p in
    let u = skipped cs k.none_in fine.below p2 in
    let w = next_found p2 in
    let a = k.found_in w.tag q.field w.is_found in
    let place : q.field.place ≡ a.offset = (let z = a.place in omega arith) in
    let al = stays q.next y (ap (λ z. z.here) q.is) (ap (λ z. z.outer) q.is) (ap (λ z. z.values) q.is) (ap (λ z. z.schema) q.is) in
    let fy = fine_after (fine_after fine u.along) al in
    let m : y.marks ≡ q.next.marks ++ a.offset ∷ [] = ap (λ z. z.marks) q.is ∙ ap (λ z. q.next.marks ++ z ∷ []) place in
    let v = ih a.component.type y c (at_place (λ b. b.type < length s) cs a.offset a.component all a.comes) fy (subst (λ z. RunsValue s n z y c) (q.is_type ∙ a.type) (record { depth = depth; less = lt; first = first; last = last; begun = g.answer; run = i; ended = h.answer })) in
    let fits : c.here.from ≤ length c.marks = (let z1 = u.along.from in let z2 = al.from in let z3 = v.along.from in let z4 = ap length u.marks in let z5 = ap length m in let z6 = length-append q.next.marks (a.offset ∷ []) in let z7 = ap length v.marks in omega arith) in
    let rest = set_loop ih all k (fine_after fy v.along) fits d in
    record {
      state = rest.state;
      read = set_more a.offset a.component u a.comes (λ z. q.is_new (subst (λ b. IsMember b (marks_of q.next)) (sym place) z)) al m (ap (λ z. z.emitted) q.is ∙ ap (λ z. q.next.emitted ++ component' z ∷ []) place) l v rest.read;
      all_read = rest.all_read;
      none_left = rest.none_left;
      rest = rest.rest;
    }
  where
    at_place : (P : Component → Type 0) (qs : List Component) (j : ℕ) (b : Component) → AllByRecursion P qs → slice_get qs j ≡ Some b → P b
    at_place P [] j b a e = absurd (none_some e)
    at_place P (q ∷ qs) zero b a e = subst P (some_same e) a.0
    at_place P (q ∷ qs) (suc j) b a e = at_place P qs j b a.1 e
