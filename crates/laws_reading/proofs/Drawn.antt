-- What octets say is read: components of a SET, in the order of the message.
use Rattle.std.proofs.Common.{arith, ◌≡◌, ℕ, zero, suc, ◌+◌, ◌<◌, ◌≤◌, ⊎_elim, Bool, true, false, List, [], ◌∷◌, ◌++◌, length, drop, map, refl, sym, ap, subst, ◌∙◌, append_assoc, length-append}
use Rattle.std.proofs.lemmas.List.{append-nil}
use Rattle.std.specs.Prelude.{Some, None, slice_get, not}
use Rattle.std.specs.List.{concat, AllByRecursion}
use Rattle.asn_base.specs.declared.tag.Tag.{Tag}
use Rattle.asn_base.specs.Names.{IsMember, is_first, is_later, AreDistinct}
use Rattle.asn_base.specs.Types.{TypeNumber, Component, Resolved, Is, a_set}
use Rattle.asn_base.specs.Tags.{First, AreApart, AllApart, is_mandatory}
use Rattle.encodings.specs.Orders.{EncodingInserted, here, there, Permutes, permutes_none, permutes_more, Merges, merges_none, merges_first, merges_second}
use Rattle.codec_code.specs.declared.step.Field.{Field as Field'}
use Rattle.codec_code.specs.declared.step.Step.{Step}
use Rattle.codec_code.specs.declared.step.Step.TheVariants.{SetComponent}
use Rattle.codec_code.specs.Routines.{routine_at, id_of, ends, ranked_from, field_of, rest_if}
use Rattle.codec_code.specs.Steps.{may_be_absent}
use Rattle.codec_source.specs.Events.{Event, among, skips}
use Rattle.codec_source.specs.Reading.{past_components, component, no_component, rest, Does, goes_on, reads, Reads}
use Rattle.octet_answers.specs.Units.{UnitAt}
use Rattle.octet_answers.specs.States.{State, passing, marked}
use Rattle.octet_answers.specs.Found.{IsFound, found, not_yet, is_extensible, AreRead, are_read, is_read, Passes, at_end_of_contents, at_component, passes}
use Rattle.octet_answers.specs.Answers.{Answers, Takes}
use Rattle.laws_reading.proofs.Skipped.{NoneFound, NoneFirst, need_is}
use Rattle.laws_reading.proofs.Sets.{marks_of, drop_more, front_or_last, set_extensible, after_ranked, no_tail}
use Rattle.laws_reading.proofs.Readers.{unit_at, Past, stayed, Ready, Reader, BodyReader, IsInnermost}
use Rattle.laws_reading.proofs.Bodies.{AreFields, no_fields, absent_one, present_one, Foreign, rest_to}

none_some : {A : Type 0} {x : A} → None ≡ Some x → ⊥
none_some e = cc

some_same : {A : Type 0} {x y : A} → Some x ≡ Some y → x ≡ y
some_same e = cc

true_false : true ≡ false → ⊥
true_false e = cc

not_back : (b : Bool) → not b ≡ false → b ≡ true
not_back true e = refl
not_back false e = absurd (true_false e)

at_least : (i j : ℕ) (ps : List ℕ) → j ≤ i → AllByRecursion (λ p. i ≤ p) ps → AllByRecursion (λ p. j ≤ p) ps
at_least i j [] l a = tt
at_least i j (p ∷ ps) l a = (let q = a.0 in omega arith, at_least i j ps l a.1)

below_all : (i : ℕ) (ps : List ℕ) → AllByRecursion (λ p. suc i ≤ p) ps → IsMember i ps → ⊥
below_all i [] a m = elim m [ ]
below_all i (p ∷ ps) a is_first = let q = a.0 in omega arith
below_all i (p ∷ ps) a (is_later m) = below_all i ps a.1 m

member_as : {i j : ℕ} {ps : List ℕ} → i ≡ j → IsMember i ps → IsMember j ps
member_as {ps = ps} e m = subst (λ q. IsMember q ps) e m

drop_all : (xs : List ℕ) → drop (length xs) xs ≡ []
drop_all [] = refl
drop_all (x ∷ xs) = drop_all xs

no_members : {i : ℕ} → IsMember i [] → ⊥
no_members m = elim m [ ]

module _ (s : List Resolved) (tk : (a b : State) (e : Event) → Answers a e b → Takes a e b) where
  -- encodings of components at some places
  data Drawn (n l : ℕ) (cs : List Component) : List ℕ → List (List ℕ) → ℕ → Type 0 where
    drawn_none : Drawn n l cs [] [] 0
    drawn : {i : ℕ} {c : Component} {ps : List ℕ} {x : List ℕ} {xs : List (List ℕ)} {j m : ℕ} → slice_get cs i ≡ Some c → Reader s tk c.type x n l j → Drawn n l cs ps xs m → Drawn n l cs (i ∷ ps) (x ∷ xs) (j + m)

  record InOrder (n l : ℕ) (all : List Component) (i : ℕ) (cs : List Component) (xs : List (List ℕ)) (m : ℕ) : Type 0 where
    places : List ℕ
    is_drawn : Drawn n l all places xs m
    least : AllByRecursion (λ p. i ≤ p) places
    distinct : AreDistinct places
    must : (j : ℕ) (c : Component) → slice_get cs j ≡ Some c → is_mandatory c ≡ true → IsMember (i + j) places

  in_order : {n l : ℕ} (all : List Component) (i : ℕ) (cs : List Component) {xs : List (List ℕ)} {m : ℕ} → ((j : ℕ) → slice_get all (i + j) ≡ slice_get cs j) → AreFields s tk n l cs xs m → InOrder n l all i cs xs m
  in_order all i [] h no_fields = record { places = []; is_drawn = drawn_none; least = tt; distinct = tt; must = λ j c e m. absurd (none_some e) }
  in_order {n} {l} all i (c ∷ cs) {xs} {m} h (absent_one mm fs) =
      let r = in_order all (suc i) cs (λ j. (let e : suc i + j ≡ i + suc j = omega arith in ap (slice_get all) e) ∙ h (suc j)) fs in
      record { places = r.places; is_drawn = r.is_drawn; least = at_least (suc i) i r.places (omega arith) r.least; distinct = r.distinct; must = λ j d e f. must_at r j d e f }
    where
      must_at : (r : InOrder n l all (suc i) cs xs m) (j : ℕ) (d : Component) → slice_get (c ∷ cs) j ≡ Some d → is_mandatory d ≡ true → IsMember (i + j) r.places
      must_at r zero d e f = absurd (true_false (sym f ∙ ap is_mandatory (sym (some_same e)) ∙ mm))
      must_at r (suc j) d e f = member_as (let z : suc i + j ≡ i + suc j = omega arith in z) (r.must j d e f)
  in_order all i (c ∷ cs) h (present_one one fs) =
      let r = in_order all (suc i) cs (λ j. (let e : suc i + j ≡ i + suc j = omega arith in ap (slice_get all) e) ∙ h (suc j)) fs in
      record {
        places = i ∷ r.places;
        is_drawn = drawn ((let e : i ≡ i + zero = omega arith in ap (slice_get all) e) ∙ h zero) one r.is_drawn;
        least = (omega arith, at_least (suc i) i r.places (omega arith) r.least);
        distinct = (λ q. below_all i r.places r.least q, r.distinct);
        must = λ j d e f. must_at r.places r.must j d e f;
      }
    where
      must_at : (ps : List ℕ) → ((j : ℕ) (d : Component) → slice_get cs j ≡ Some d → is_mandatory d ≡ true → IsMember (suc i + j) ps) → (j : ℕ) (d : Component) → slice_get (c ∷ cs) j ≡ Some d → is_mandatory d ≡ true → IsMember (i + j) (i ∷ ps)
      must_at ps g zero d e f = member_as (let z : i ≡ i + zero = omega arith in z) is_first
      must_at ps g (suc j) d e f = is_later (member_as (let z : suc i + j ≡ i + suc j = omega arith in z) (g j d e f))

  -- ---- in another order

  record PutIn (n l : ℕ) (cs : List Component) (i : ℕ) (ps : List ℕ) (zs : List (List ℕ)) (m : ℕ) : Type 0 where
    places : List ℕ
    many : ℕ
    same : many ≡ m
    is_drawn : Drawn n l cs places zs many
    distinct : AreDistinct ps → (IsMember i ps → ⊥) → AreDistinct places
    to : (p : ℕ) → IsMember p places → IsMember p (i ∷ ps)
    from : (p : ℕ) → IsMember p (i ∷ ps) → IsMember p places

  swap : {p i q : ℕ} {ps : List ℕ} → IsMember p (i ∷ q ∷ ps) → IsMember p (q ∷ i ∷ ps)
  swap is_first = is_later is_first
  swap (is_later is_first) = is_first
  swap (is_later (is_later m)) = is_later (is_later m)

  later_by : {p q : ℕ} {ps rs : List ℕ} → (IsMember p ps → IsMember p rs) → IsMember p (q ∷ ps) → IsMember p (q ∷ rs)
  later_by f is_first = is_first
  later_by f (is_later m) = is_later (f m)

  put_in : {n l j : ℕ} {cs : List Component} {c : Component} {x : List ℕ} {ps : List ℕ} {ys zs : List (List ℕ)} {m : ℕ} (i : ℕ) → slice_get cs i ≡ Some c → Reader s tk c.type x n l j → Drawn n l cs ps ys m → EncodingInserted x ys zs → PutIn n l cs i ps zs (j + m)
  put_in {ps = ps} i e r d here = record { places = i ∷ ps; many = _; same = refl; is_drawn = drawn e r d; distinct = λ a b. (b, a); to = λ p q. q; from = λ p q. q }
  put_in {j = j} i e r (drawn {i = k} {ps = ps} {j = a} {m = m} e2 r2 d) (there w) =
      let q = put_in i e r d w in
      record {
        places = k ∷ q.places;
        many = a + q.many;
        same = (let z = q.same in omega arith);
        is_drawn = drawn e2 r2 q.is_drawn;
        distinct = λ x y. (λ h. new q.to x.0 y h, q.distinct x.1 (λ h. y (is_later h)));
        to = λ p h. swap (later_by (q.to p) h);
        from = λ p h. later_by (q.from p) (swap h);
      }
    where
      new : {places : List ℕ} → ((p : ℕ) → IsMember p places → IsMember p (i ∷ ps)) → (IsMember k ps → ⊥) → (IsMember i (k ∷ ps) → ⊥) → IsMember k places → ⊥
      new to x y h = by (to k h) x y
        where
          by : {a b : ℕ} {rs : List ℕ} → IsMember a (b ∷ rs) → (IsMember a rs → ⊥) → (IsMember b (a ∷ rs) → ⊥) → ⊥
          by is_first x y = y is_first
          by (is_later m) x y = x m

  record Permuted (n l : ℕ) (cs : List Component) (ps : List ℕ) (zs : List (List ℕ)) (m : ℕ) : Type 0 where
    places : List ℕ
    many : ℕ
    same : many ≡ m
    is_drawn : Drawn n l cs places zs many
    distinct : AreDistinct ps → AreDistinct places
    to : (p : ℕ) → IsMember p places → IsMember p ps
    from : (p : ℕ) → IsMember p ps → IsMember p places

  permuted : {n l : ℕ} {cs : List Component} {xs zs : List (List ℕ)} {ps : List ℕ} {m : ℕ} → Permutes xs zs → Drawn n l cs ps xs m → Permuted n l cs ps zs m
  permuted permutes_none drawn_none = record { places = []; many = 0; same = refl; is_drawn = drawn_none; distinct = λ a. a; to = λ p q. q; from = λ p q. q }
  permuted (permutes_more w i) (drawn {i = k} {j = j} e r d) =
      let q = permuted w d in
      let v = put_in k e r q.is_drawn i in
      record {
        places = v.places;
        many = v.many;
        same = (let a = v.same in let b = q.same in omega arith);
        is_drawn = v.is_drawn;
        distinct = λ a. v.distinct (q.distinct a.1) (λ h. a.0 (q.to k h));
        to = λ p h. later_by (q.to p) (v.to p h);
        from = λ p h. v.from p (later_by (q.from p) h);
      }

  -- ---- the steps of components

  record AreSteps (cs : List Component) (e : Bool) (steps : List Step) : Type 0 where
    finds : (g : Tag) (j : ℕ) (c : Component) → slice_get cs j ≡ Some c → First s c.type g → IsFound s g steps (field_of j c)
    none : (g : Tag) → NoneFirst s g cs → NoneFound s g steps
    extensible : is_extensible steps ≡ e

  apart_from : {g : Tag} (c : Component) (cs : List Component) (j : ℕ) (d : Component) → AllByRecursion (AreApart s c.type) (map (λ b. b.type) cs) → slice_get cs j ≡ Some d → First s d.type g → First s c.type g → ⊥
  apart_from c [] j d a e f h = none_some e
  apart_from {g} c (b ∷ cs) zero d a e f h = a.0 g h (subst (λ q. First s q.type g) (sym (some_same e)) f)
  apart_from c (b ∷ cs) (suc j) d a e f h = apart_from c cs j d a.1 e f h

  finds_at : {g : Tag} (all : List Component) (tail : List Step) (i : ℕ) (cs : List Component) (j : ℕ) (c : Component) → AllApart s (map (λ b. b.type) cs) → slice_get cs j ≡ Some c → First s c.type g → IsFound s g (ranked_from s all i cs ++ tail) (field_of (i + j) c)
  finds_at all tail i [] j c a e f = absurd (none_some e)
  finds_at {g} all tail i (b ∷ cs) zero c a e f =
      let same : b ≡ c = some_same e in
      subst (λ q. IsFound s g (ranked_from s all i (b ∷ cs) ++ tail) (field_of q c)) (let z : i ≡ i + zero = omega arith in z)
      (found (ap (λ q. Some (field_of i q)) same) f)
  finds_at {g} all tail i (b ∷ cs) (suc j) c a e f =
      subst (λ q. IsFound s g (ranked_from s all i (b ∷ cs) ++ tail) (field_of q c)) (let z : suc i + j ≡ i + suc j = omega arith in z)
      (not_yet (λ h. apart_from b cs j c a.0 e f (subst (λ q. First s q.ty.index g) (sym (some_same h.1)) h.2)) (finds_at all tail (suc i) cs j c a.1 e f))

  none_at : {g : Tag} (all : List Component) (tail : List Step) (i : ℕ) (cs : List Component) → NoneFirst s g cs → NoneFound s g tail → NoneFound s g (ranked_from s all i cs ++ tail)
  none_at all tail i [] a n f q = n f q
  none_at {g} all tail i (c ∷ cs) a n f (found e h) = a.0 (subst (λ q. First s q.ty.index g) (sym (some_same e)) h)
  none_at all tail i (c ∷ cs) a n f (not_yet b q) = none_at all tail (suc i) cs a.1 n f q

  all_read : {marks : List ℕ} (all : List Component) (tail : List Step) (i : ℕ) (cs : List Component) → ((j : ℕ) (c : Component) → slice_get cs j ≡ Some c → is_mandatory c ≡ true → IsMember (i + j) marks) → AreRead marks tail → AreRead marks (ranked_from s all i cs ++ tail)
  all_read all tail i [] h r = r
  all_read {marks} all tail i (c ∷ cs) h r = is_read
      (λ f e n. subst (λ q. IsMember q marks) (let z : i + zero ≡ i = omega arith in z ∙ ap (λ q. q.place) (some_same e)) (h zero c refl (not_back (is_mandatory c) (sym (need_is c.presence) ∙ ap (λ q. may_be_absent q.need) (some_same e) ∙ n))))
      (all_read all tail (suc i) cs (λ j d e m. member_as (let z : i + suc j ≡ suc i + j = omega arith in z) (h (suc j) d e m)) r)

  ends_read : {marks : List ℕ} (j : ℕ) → AreRead marks (ends j)
  ends_read zero = are_read
  ends_read (suc j) = is_read (λ f e n. absurd (none_some e)) (ends_read j)

  tail_read : {marks : List ℕ} (e : Bool) (j : ℕ) → AreRead marks (rest_if e ++ ends j)
  tail_read true j = is_read (λ f e n. absurd (none_some e)) (ends_read j)
  tail_read false j = ends_read j

  -- ---- a run over the components of a SET

  data SetRun (steps : List Step) : State → State → Type 0 where
    run_end : {x y : State} → Passes x.schema steps (is_extensible steps) x None y → SetRun steps x y
    run_more : {x z y : State} (f : Field') (next : State) → Passes x.schema steps (is_extensible steps) x (Some f) next → (IsMember f.place (marks_of next) → ⊥) → Reads (λ a. routine_at s a) Takes f.ty (marked next f.place) z → SetRun steps z y → SetRun steps x y

  passed_first : {steps : List Step} {g : Tag} {c : Bool} {k : ℕ} {o r : List ℕ} (x : State) {y : State} → is_extensible steps ≡ true → UnitAt g c k o r x.here.octets → NoneFound x.schema g steps → length x.outer < 400 → SetRun steps (passing x k o r) y → SetRun steps x y
  passed_first x e u n l (run_end p) = run_end (passes e u n l p)
  passed_first x e u n l (run_more f next p new v w) = run_more f next (passes e u n l p) new v w

  record SetTo (steps : ℕ → List Step) (x : State) (ps : List ℕ) (m : ℕ) : Type 0 where
    state : State
    run : (j : ℕ) → SetRun (steps j) x state
    past : Past x state [] ps m

  set_to : {n l : ℕ} {cs : List Component} {e : Bool} {zs us ys : List (List ℕ)} {ps : List ℕ} {m : ℕ} (steps : ℕ → List Step) → ((j : ℕ) → AreSteps cs e (steps j)) → Merges zs us ys → Drawn n l cs ps zs m → AreDistinct ps → AllByRecursion (Foreign s tk cs) us → (1 ≤ length us → e ≡ true) → (x : State)
      → Ready s tk x n l m
      → (1 ≤ length us → length x.outer < 400)
      → length (concat ys) ≤ 16777216
      → x.here.octets ≡ concat ys
      → x.here.from ≤ length x.marks
      → ((p : ℕ) → IsMember p ps → IsMember p (marks_of x) → ⊥)
      → SetTo steps x ps m
  set_to steps k merges_none drawn_none dis a only x r few q e fits new = record { state = x; run = λ j. run_end (at_end_of_contents e); past = stayed x x [] e refl refl refl refl refl refl refl }
  set_to {n} {l} steps k (merges_first {zs = zs} w) (drawn {i = i} {c = c} {ps = ps} {x = o} {j = j} {m = m} at one d) dis a only x r few q e fits new =
      let len = length-append o (concat zs) in
      let y = marked x i in
      let v = one.goes y (concat zs) (record { schema = r.schema; values = r.values; levels = r.levels; budget = (let z = r.budget in omega arith) }) (omega arith) e in
      let p = v.past in
      let b = v.state in
      let marks : b.marks ≡ x.marks ++ i ∷ [] = p.marks ∙ append-nil (x.marks ++ i ∷ []) in
      let same : marks_of b ≡ marks_of x ++ i ∷ [] = ap (λ z. drop z b.marks) p.from ∙ ap (λ z. drop x.here.from z) marks ∙ drop_more x.here.from x.marks (i ∷ []) fits in
      let rec = set_to steps k w d dis.1 a only b
      (record { schema = p.schema ∙ r.schema; values = (let z = r.values in let h = ap length p.values in omega arith); levels = (let z = r.levels in let h = ap length p.outer in omega arith); budget = (let z = r.budget in let h = p.budget in omega arith) })
      (λ h. subst (λ z. length z < 400) (sym p.outer) (few h))
      (omega arith) p.octets
      (let z1 = p.from in let z2 = ap length marks in let z3 = length-append x.marks (i ∷ []) in omega arith)
      (λ z h g. ⊎_elim (λ u. new z (is_later h) u) (λ u. dis.0 (member_as u h)) (front_or_last z i (marks_of x) (subst (IsMember z) same g))) in
      let unit = unit_at one.front (concat zs) x.here.octets e (omega arith) in
      record {
        state = rec.state;
        run = λ h. run_more (field_of i c) x (subst (λ z. Passes z (steps h) (is_extensible (steps h)) x (Some (field_of i c)) x) (sym r.schema) (at_component unit ((k h).finds one.tag i c at one.first))) (λ g. new i is_first g) v.reads (rec.run h);
        past = (let t = rec.past in record {
          octets = t.octets;
          form = t.form ∙ p.form;
          from = t.from ∙ p.from;
          outer = t.outer ∙ p.outer;
          values = t.values ∙ p.values;
          schema = t.schema ∙ p.schema;
          marks = t.marks ∙ ap (λ z. z ++ ps) marks ∙ append_assoc x.marks (i ∷ []) ps;
          budget = (let z1 = t.budget in let z2 = p.budget in omega arith);
        });
      }
  set_to {n} {l} steps k (merges_second {y = u} {ys = us} {zs = zs} w) d dis a only x r few q e fits new =
      let f = a.0 in
      let len = length-append u (concat zs) in
      let y = passing x (length f.front.header) f.front.contents (concat zs) in
      let rec = set_to steps k w d dis a.1 (λ h. only (omega arith)) y (record { schema = r.schema; values = r.values; levels = r.levels; budget = r.budget }) (λ h. few (omega arith)) (omega arith) refl fits new in
      let unit = unit_at f.front (concat zs) x.here.octets e (omega arith) in
      let p = rec.past in
      record {
        state = rec.state;
        run = λ h. passed_first x ((k h).extensible ∙ only (omega arith)) unit (subst (λ z. NoneFound z f.tag (steps h)) (sym r.schema) ((k h).none f.tag f.is_none)) (few (omega arith)) (rec.run h);
        past = record { octets = p.octets; form = p.form; from = p.from; outer = p.outer; values = p.values; schema = p.schema; marks = p.marks; budget = p.budget };
      }

  does_set : {f : Field'} {r : ℕ} {ss : List Step} {x y z : State} → SetRun (SetComponent f r ∷ ss) x y → AreRead (marks_of y) (SetComponent f r ∷ ss) → Does (λ a. routine_at s a) Takes (past_components ss) y z → Does (λ a. routine_at s a) Takes (SetComponent f r ∷ ss) x z
  does_set {f = f} {r = r} {ss = ss} {x = x} {y = y} (run_end p) a d = goes_on (no_component (tk x y (among (SetComponent f r ∷ ss) None) (record { pass = p; all_read = a }))) d
  does_set {f = f} {r = r} {ss = ss} {x = x} (run_more g next p new v w) a d =
      reads (component (tk x (marked next g.place) (among (SetComponent f r ∷ ss) (Some g.ty)) (record { field = g; next = next; pass = p; is_type = refl; is_new = new; is = refl }))) v.begun v.done v.ended (does_set w a d)

  -- nothing is left after the components
  rest_done : (t : TypeNumber) {x z : State} (e : Bool) (j : ℕ) → IsInnermost s tk t x → x.here.octets ≡ [] → Does (λ a. routine_at s a) Takes (ends j) x z → Does (λ a. routine_at s a) Takes (rest_if e ++ ends j) x z
  rest_done t false j i o d = d
  rest_done t {x} true j i o d = goes_on (rest (tk x x skips (record { value = id_of t; others = i.0; is_open = i.1; pass = at_end_of_contents o }))) d

  pub set_reader : {tags : List Tag} {cs : List Component} {xs zs us ys : List (List ℕ)} {n l m : ℕ} (t : TypeNumber) (e : Bool)
      → Is s t tags (a_set e cs)
      → AllApart s (map (λ c. c.type) cs)
      → AreFields s tk n l cs xs m
      → Permutes xs zs
      → Merges zs us ys
      → (e ≡ false → us ≡ [])
      → (1 ≤ length us → e ≡ true)
      → AllByRecursion (Foreign s tk cs) us
      → (1 ≤ length us → 1 ≤ l)
      → BodyReader s tk t (a_set e cs) true (concat ys) n l m
  set_reader {cs = []} {us = us} {ys = ys} t e i apart no_fields permutes_none w none only a few x rest' r l o inner f =
      let g = f (λ q. q) in
      let all = o ∙ ap (λ q. concat ys ++ q) g.end ∙ append-nil (concat ys) in
      let same : ys ≡ us = second_alone w in
      let v = rest_to s tk [] t (a_set e []) e i refl none a x inner r.schema (λ h. let b = few h in let q = r.levels in omega arith) (let z = ap (λ q. length (concat q)) same in omega arith) (all ∙ ap concat same) in
      record { state = v.state; leads = v.leads; more = []; past = subst (λ q. Past x v.state q [] 0) (sym g.end) v.past; none = λ q. absurd q }
    where
      second_alone : {us ys : List (List ℕ)} → Merges [] us ys → ys ≡ us
      second_alone merges_none = refl
      second_alone (merges_second {y = y} m) = ap (λ q. y ∷ q) (second_alone m)
  set_reader {cs = c ∷ cs} {zs = zs} {ys = ys} {m = m} t e i apart fs perm w none only a few x rest' r l o inner f =
      let g = f (λ q. q) in
      let all = o ∙ ap (λ q. concat ys ++ q) g.end ∙ append-nil (concat ys) in
      let d = in_order (c ∷ cs) 0 (c ∷ cs) (λ j. let z : 0 + j ≡ j = omega arith in ap (slice_get (c ∷ cs)) z) fs in
      let p = permuted perm d.is_drawn in
      let empty : marks_of x ≡ [] = ap (λ q. drop q x.marks) g.fresh ∙ drop_all x.marks in
      let count = p.same in
      let steps : ℕ → List Step = λ j. ranked_from s (c ∷ cs) 0 (c ∷ cs) ++ (rest_if e ++ ends j) in
      let are : (j : ℕ) → AreSteps (c ∷ cs) e (steps j) = λ j. record {
        finds = λ h k b at first. subst (λ q. IsFound s h (steps j) (field_of q b)) (let z : 0 + k ≡ k = omega arith in z) (finds_at (c ∷ cs) (rest_if e ++ ends j) 0 (c ∷ cs) k b apart at first);
        none = λ h n. none_at (c ∷ cs) (rest_if e ++ ends j) 0 (c ∷ cs) n (λ q z. no_tail e j z);
        extensible = set_extensible s (c ∷ cs) e j 0 (c ∷ cs);
      } in
      let v = set_to steps are w p.is_drawn (p.distinct d.distinct) a only x (record { schema = r.schema; values = r.values; levels = r.levels; budget = (let q = r.budget in omega arith) }) (λ h. let b = few h in let q = r.levels in omega arith) l all (let q = g.fresh in omega arith) (λ h i1 i2. no_members (subst (IsMember h) empty i2)) in
      let past = v.past in
      let marks : marks_of v.state ≡ p.places = ap (λ z. drop z v.state.marks) past.from ∙ ap (λ z. drop x.here.from z) past.marks ∙ drop_more x.here.from x.marks p.places (let q = g.fresh in omega arith) ∙ ap (λ q. q ++ p.places) empty in
      let there : (j : ℕ) (b : Component) → slice_get (c ∷ cs) j ≡ Some b → is_mandatory b ≡ true → IsMember (0 + j) (marks_of v.state) = λ j b q h. subst (IsMember (0 + j)) (sym marks) (p.from (0 + j) (d.must j b q h)) in
      record {
        state = v.state;
        leads = λ j z dd.
            subst (λ q. Does (λ b. routine_at s b) Takes q x z) (sym (append_assoc (ranked_from s (c ∷ cs) 0 (c ∷ cs)) (rest_if e) (ends j)))
            (does_set (v.run j) (all_read (c ∷ cs) (rest_if e ++ ends j) 0 (c ∷ cs) there (tail_read e j))
            (subst (λ q. Does (λ b. routine_at s b) Takes q v.state z) (sym (after_ranked s (c ∷ cs) e j 0 (c ∷ cs))) (rest_done t e j (inner.0, past.values ∙ inner.1) past.octets dd)));
        more = p.places;
        past = subst (λ q. Past x v.state q p.places m) (sym g.end) (subst (λ q. Past x v.state [] p.places q) count past);
        none = λ q. absurd q;
      }
