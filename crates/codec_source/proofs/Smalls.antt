-- Values that a source reads at once, as what they do to frames.
use Rattle.std.proofs.Common.{arith, ◌≡◌, ℕ, ◌<◌, ◌≤◌, List, [], ◌∷◌, ◌++◌, length, refl, sym, ap, subst, inl, inr}
use Rattle.std.specs.Prelude.{Bool, true, false, Option, Some, None, Result, Ok, Err, IfOk}
use Rattle.asn_base.specs.declared.schema.TypeId.{TypeId}
use Rattle.codec_code.specs.declared.step.Field.{Field as Field'}
use Rattle.codec_code.specs.declared.step.Head.{Head as Head'}
use Rattle.codec_code.specs.declared.step.Step.{Step}
use Rattle.codec_code.specs.declared.step.Step.TheVariants.{Head, Leaf, End, Field, Pick, Each, EachSorted}
use Rattle.decode_faults.specs.declared.read_fault.ReadFault.{ReadFault}
use Rattle.encodings.specs.declared.leaf_kind.LeafKind.{LeafKind}
use Rattle.codec_source.specs.declared.frame.Frame.{Frame}
use Rattle.codec_source.specs.Events.{Event, begins, ends, picks, IsOneAnswer, Question}
use Rattle.codec_source.specs.Reading.{Asks, Does, Reads, finished, goes_on, reads, head, leaf, ending, rest, left_out, field, component, no_component, element, no_element, sorted_element, no_sorted_element, pick, call}
use Rattle.codec_source.specs.Small.{TakesValue, TakesComponent, TakesElement, TakesChoice, TakesChoiceComponent}
use Rattle.codec_source.specs.Stopping.{stops_after}
use Rattle.codec_source.specs.proving.Frames.{Same, Goes, Before, ThenBefore, GoesStop, BeforeStops, ThenBeforeStops, weighs}
use Rattle.codec_source.specs.proving.Wholes.{ReadsElement, ReadsField, ReadsNext, Chain, no_link, and_link, ReadsOn, not_once, and_once}
use Rattle.codec_source.proofs.Asking.{take_all, drop_all}
use Rattle.codec_source.proofs.Running.{same_self, same_then, asked_before, goes_at, one_read, no_more}
use Rattle.codec_source.proofs.Halting.{asked_stops, stops_at}

module _ {S : Type 0} (r : ℕ → List Step) (takes : S → Event → S → Type 0) where
  -- ---- what a source answered

  value_done : {t : TypeId} {h : Head'} {k : LeafKind} {x z : S} → r t.index ≡ Head h ∷ Leaf k ∷ End ∷ [] → TakesValue takes t h k x z → Reads r takes t x z
  value_done e v = record {
    first = v.begun_at;
    last = v.closed_at;
    begun = v.begun;
    done = subst (λ q. Does r takes q v.begun_at v.closed_at) (sym e) (goes_on (head v.opened) (goes_on (leaf v.held) (goes_on (ending v.closed) finished)));
    ended = v.ended;
  }

  choice_done : {t : TypeId} {n : ℕ} {calls : List Step} {x z : S} → r t.index ≡ Pick n ∷ calls → length calls ≤ n → TakesChoice r takes t calls x z → Reads r takes t x z
  choice_done {n = n} {calls = calls} e few v =
      let u = value_done v.routine v.value in
      let p = subst (λ q. takes v.begun_at (picks q v.alternative) v.chosen_at) (take_all n calls few) v.picked in
      let last = subst (λ q. Does r takes q v.read_at v.read_at) (drop_all n calls few) finished in
      record {
        first = v.begun_at;
        last = v.read_at;
        begun = v.begun;
        done = subst (λ q. Does r takes q v.begun_at v.read_at) (sym e) (reads (pick p) u.begun u.done u.ended last);
        ended = v.ended;
      }

  pub value_read : (t : TypeId) (h : Head') (k : LeafKind) (x z : S) (q : Result Bool ReadFault) → r t.index ≡ Head h ∷ Leaf k ∷ End ∷ [] → IfOk q (λ yes. yes ≡ true → TakesValue takes t h k x z) → IfOk q (λ yes. yes ≡ true → Reads r takes t x z)
  value_read t h k x z (Ok b) e f = λ yes. value_done e (f yes)
  value_read t h k x z (Err b) e f = f

  pub choice_read : (t : TypeId) (n : ℕ) (calls : List Step) (x z : S) (q : Result Bool ReadFault) → r t.index ≡ Pick n ∷ calls → length calls ≤ n → IfOk q (λ yes. yes ≡ true → TakesChoice r takes t calls x z) → IfOk q (λ yes. yes ≡ true → Reads r takes t x z)
  choice_read t n calls x z (Ok b) e few f = λ yes. choice_done e few (f yes)
  choice_read t n calls x z (Err b) e few f = f

  pub field_read : (f : Field') (h : Head') (k : LeafKind) (x z : S) (q : Result Bool ReadFault) → r f.ty.index ≡ Head h ∷ Leaf k ∷ End ∷ [] → IfOk q (λ yes. yes ≡ true → TakesComponent takes f h k x z) → IfOk q (λ yes. yes ≡ true → ReadsField r takes f x z)
  field_read f h k x z (Ok b) e d = λ yes. let v = d yes in record { next_at = v.next_at; is_next = v.is_next; value = value_done e v.value }
  field_read f h k x z (Err b) e d = d

  element_done : {t : TypeId} {o : Bool} {h : Head'} {k : LeafKind} {x z : S} → r t.index ≡ Head h ∷ Leaf k ∷ End ∷ [] → TakesElement takes t o h k x z → ReadsElement r takes t o x z
  element_done e v = record { next_at = v.next_at; is_next = v.is_next; value = value_done e v.value }

  elements_done : {t : TypeId} {o : Bool} {h : Head'} {k : LeafKind} {x z : S} → r t.index ≡ Head h ∷ Leaf k ∷ End ∷ [] → Chain (TakesElement takes t o h k) x z → Chain (ReadsElement r takes t o) x z
  elements_done e no_link = no_link
  elements_done e (and_link c v) = and_link (elements_done e c) (element_done e v)

  pub elements_read : (t : TypeId) (o : Bool) (h : Head') (k : LeafKind) (x z : S) → r t.index ≡ Head h ∷ Leaf k ∷ End ∷ [] → Chain (TakesElement takes t o h k) x z → Chain (ReadsElement r takes t o) x z
  elements_read t o h k x z e d = elements_done e d

  element_next : {t : TypeId} {ss : List Step} {x z : S} → ReadsElement r takes t false x z → ReadsNext r takes (Each t ∷ ss) (Each t ∷ ss) x z
  element_next {t} v = record { type = t; next_at = v.next_at; asks = element v.is_next; value = v.value; few = omega arith }

  pub elements_next : {t : TypeId} {ss : List Step} {x z : S} → Chain (ReadsElement r takes t false) x z → ReadsOn r takes (Each t ∷ ss) (Each t ∷ ss) x z
  elements_next no_link = not_once
  elements_next (and_link c v) = and_once (elements_next c) (element_next v)

  sorted_next : {t : TypeId} {ss : List Step} {x z : S} → ReadsElement r takes t true x z → ReadsNext r takes (EachSorted t ∷ ss) (EachSorted t ∷ ss) x z
  sorted_next {t} v = record { type = t; next_at = v.next_at; asks = sorted_element v.is_next; value = v.value; few = omega arith }

  pub sorted_elements_next : {t : TypeId} {ss : List Step} {x z : S} → Chain (ReadsElement r takes t true) x z → ReadsOn r takes (EachSorted t ∷ ss) (EachSorted t ∷ ss) x z
  sorted_elements_next no_link = not_once
  sorted_elements_next (and_link c v) = and_once (sorted_elements_next c) (sorted_next v)

  pub choice_field_read : (f : Field') (n : ℕ) (calls : List Step) (x z : S) (q : Result Bool ReadFault) → r f.ty.index ≡ Pick n ∷ calls → length calls ≤ n → IfOk q (λ yes. yes ≡ true → TakesChoiceComponent r takes f calls x z) → IfOk q (λ yes. yes ≡ true → ReadsField r takes f x z)
  choice_field_read f n calls x z (Ok b) e few d = λ yes. let v = d yes in record { next_at = v.next_at; is_next = v.is_next; value = choice_done e few v.value }
  choice_field_read f n calls x z (Err b) e few d = d

  -- one more component of a SEQUENCE was read
  pub one_field : {ss ts following : List Step} {f : Field'} {x y z : S} → ts ≡ Field f ∷ following → ReadsOn r takes ss ts x y → ReadsField r takes f y z → ReadsOn r takes ss following x z
  one_field {ss} {following = following} {f = f} {x} {y} e d v =
      and_once (subst (λ q. ReadsOn r takes ss q x y) e d) (record { type = f.ty; next_at = v.next_at; asks = field v.is_next; value = v.value; few = omega arith })

  -- ---- what that does to frames

  module _ (one : IsOneAnswer takes) where
    through : (t : TypeId) (b : List Step) (fs : List Frame) (x z : S) → Reads r takes t x z → Same (ThenBefore r takes (Some t) b fs x) (Before r takes b fs z)
    through t b fs x z v = record { to = to; from = from }
      where
        to : (w : S) → ThenBefore r takes (Some t) b fs x w → Before r takes b fs z w
        to w (u, (y, (p, q, s, begun, did, end, others), ended), d) =
            let i : s ≡ z = one_read r takes one (record { first = p; last = q; begun = begun; done = did; ended = end }) v in
            (u, (y, subst (λ j. Does r takes b j y) i others, ended), d)

        from : (w : S) → Before r takes b fs z w → ThenBefore r takes (Some t) b fs x w
        from w (u, (y, others, ended), d) = (u, (y, (v.first, v.last, z, v.begun, v.done, v.ended, others), ended), d)

    pub small_called : (t : TypeId) (b : List Step) (fs : List Frame) (f : Frame) (x z : S) → f.steps.now ≡ b → Reads r takes t x z → Same (ThenBefore r takes (Some t) b fs x) (Goes r takes (fs ++ f ∷ []) z)
    small_called t b fs f x z e v =
        same_then (through t b fs x z v)
        (subst (λ q. Same (Before r takes q fs z) (Goes r takes (fs ++ f ∷ []) z)) e (goes_at r takes one (fs ++ f ∷ []) fs f z refl))

    next_turned : {ss b : List Step} (fs : List Frame) {x z : S} → ReadsNext r takes ss b x z → Same (Before r takes ss fs x) (Before r takes b fs z)
    next_turned {ss} {b} fs {x} {z} v =
        same_then
        (asked_before r takes one ss b (Some v.type) fs x v.next_at v.asks)
        (through v.type b fs v.next_at z v.value)

    pub on_turned : {ss b : List Step} (fs : List Frame) {x z : S} → ReadsOn r takes ss b x z → Same (Before r takes ss fs x) (Before r takes b fs z)
    on_turned fs not_once = same_self
    on_turned fs (and_once d v) = same_then (on_turned fs d) (next_turned fs v)

  module _ (refuses : S → Question → S → Type 0) where
    after : (t : TypeId) (b : List Step) (fs : List Frame) (x z w : S) → Reads r takes t x z → BeforeStops r takes refuses b fs z w → ThenBeforeStops r takes refuses (Some t) b fs x w
    after t b fs x z w v (inl (inl q)) = inl (inl (stops_after v.begun v.done v.ended q))
    after t b fs x z w v (inl (inr (y, d, n, l))) = inl (inr (y, (v.first, v.last, z, v.begun, v.done, v.ended, d), n, l))
    after t b fs x z w v (inr (u, (y, d, e), q)) = inr (u, (y, (v.first, v.last, z, v.begun, v.done, v.ended, d), e), q)

    pub small_called_stops : (t : TypeId) (b : List Step) (fs : List Frame) (f : Frame) (x z w : S) → f.steps.now ≡ b → Reads r takes t x z → GoesStop r takes refuses (fs ++ f ∷ []) z w → ThenBeforeStops r takes refuses (Some t) b fs x w
    small_called_stops t b fs f x z w e v s =
        after t b fs x z w v (subst (λ q. BeforeStops r takes refuses q fs z w) e (stops_at r takes refuses (fs ++ f ∷ []) fs f z w refl s))

    next_after : {ss b : List Step} (fs : List Frame) {x z : S} (w : S) → ReadsNext r takes ss b x z → BeforeStops r takes refuses b fs z w → BeforeStops r takes refuses ss fs x w
    next_after {ss} {b} fs {x} {z} w v s = asked_stops r takes refuses ss b (Some v.type) fs x v.next_at w v.asks (after v.type b fs v.next_at z w v.value s)

    pub on_after : {ss b : List Step} (fs : List Frame) {x z : S} (w : S) → ReadsOn r takes ss b x z → BeforeStops r takes refuses b fs z w → BeforeStops r takes refuses ss fs x w
    on_after fs w not_once s = s
    on_after fs w (and_once d v) s = on_after fs w d (next_after fs w v s)

  module _ (budget : S → ℕ) (spends : (a b : S) (t : TypeId) → takes a (begins t) b → budget b < budget a) (keeps : (a b : S) (e : Event) → takes a e b → budget b ≤ budget a) where
    asked_no_more : {ss b : List Step} {t : Option TypeId} {x y : S} → Asks takes ss x b t y → budget y ≤ budget x
    asked_no_more (head a) = keeps _ _ _ a
    asked_no_more (ending a) = keeps _ _ _ a
    asked_no_more (leaf a) = keeps _ _ _ a
    asked_no_more (rest a) = keeps _ _ _ a
    asked_no_more (left_out a) = keeps _ _ _ a
    asked_no_more (field a) = keeps _ _ _ a
    asked_no_more (component a) = keeps _ _ _ a
    asked_no_more (no_component a) = keeps _ _ _ a
    asked_no_more (element a) = keeps _ _ _ a
    asked_no_more (no_element a) = keeps _ _ _ a
    asked_no_more (sorted_element a) = keeps _ _ _ a
    asked_no_more (no_sorted_element a) = keeps _ _ _ a
    asked_no_more (pick a) = keeps _ _ _ a
    asked_no_more call = omega arith

    done_no_more : {ss : List Step} {x z : S} → Does r takes ss x z → budget z ≤ budget x
    done_no_more finished = omega arith
    done_no_more (goes_on a d) =
        let h = asked_no_more a in
        let i = done_no_more d in
        omega (arith, h, i)
    done_no_more (reads a p d e k) =
        let h = asked_no_more a in
        let s = spends _ _ _ p in
        let i = done_no_more d in
        let n = keeps _ _ _ e in
        let j = done_no_more k in
        omega (arith, h, s, i, n, j)

    pub less_budget : {t : TypeId} {x z : S} → Reads r takes t x z → budget z < budget x
    less_budget {t} {x} {z} v =
        let a = spends x v.first t v.begun in
        let b = done_no_more v.done in
        let c = keeps v.last z ends v.ended in
        omega (arith, a, b, c)

    next_less : {ss b : List Step} {x z : S} → ReadsNext r takes ss b x z → budget z < budget x
    next_less v =
        let a = asked_no_more v.asks in
        let c = less_budget v.value in
        omega (arith, a, c)

    pub on_no_more : {ss b : List Step} {x z : S} → ReadsOn r takes ss b x z → budget z ≤ budget x
    on_no_more not_once = omega arith
    on_no_more (and_once d v) =
        let a = on_no_more d in
        let c = next_less v in
        omega (arith, a, c)

    pub on_few : {ss b : List Step} {x z : S} → ReadsOn r takes ss b x z → length b ≤ length ss
    on_few not_once = omega arith
    on_few (and_once d v) =
        let a = on_few d in
        let c = v.few in
        omega (arith, a, c)

    pub less_turned : (l n : ℕ) (fs : List Frame) (f g : Frame) (x z : S) → ReadsOn r takes f.steps.now g.steps.now x z → n < weighs l (budget z) (fs ++ g ∷ []) → n < weighs l (budget x) (fs ++ f ∷ [])
    less_turned l n fs f g x z v lt =
        let m = no_more l (budget x) (budget z) fs f g (on_no_more v) (on_few v) in
        omega (arith, lt, m)

    -- each element that is read at once spends some
    pub element_less : {t : TypeId} {o : Bool} {h : Head'} {k : LeafKind} {x z : S} → TakesElement takes t o h k x z → budget z < budget x
    element_less v =
        let a = keeps _ _ _ v.is_next in
        let b = spends _ _ _ v.value.begun in
        let c = keeps _ _ _ v.value.opened in
        let d = keeps _ _ _ v.value.held in
        let e = keeps _ _ _ v.value.closed in
        let f = keeps _ _ _ v.value.ended in
        omega (arith, a, b, c, d, e, f)
