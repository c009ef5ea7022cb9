-- Steps and elements that are taken without frames.
use Rattle.std.proofs.Common.{Bor, ◌≡◌, ℕ, ◌+◌, ◌<◌, ◌≤◌, List, [], ◌∷◌, ◌++◌, length, map, refl, sym, ap, subst, ◌∙◌, arith, append_assoc, append-nil}
use Rattle.std.specs.Prelude.{Bool, true, false, MatchBool}
use Rattle.asn_base.specs.declared.schema.TypeId.{TypeId}
use Rattle.asn_base.specs.declared.value.Value.{Value}
use Rattle.asn_base.specs.Abstract.{AbstractValue, abstract, end, row_of_list}
use Rattle.asn_base.specs.Types.{Resolved}
use Rattle.codec_code.specs.declared.step.Head.{Head as Head'}
use Rattle.encodings.specs.declared.leaf_kind.LeafKind.{LeafKind}
use Rattle.codec_code.specs.declared.step.Field.{Field as Field'}
use Rattle.codec_code.specs.declared.step.Step.{Step}
use Rattle.codec_code.specs.declared.step.Step.TheVariants.{Head, Leaf, End, Rest, Field}
use Rattle.codec_code.specs.Events.{Event, opens, puts, closes, leaves_out, ends_member}
use Rattle.codec_code.specs.Routines.{routine_at}
use Rattle.codec_code.specs.Steps.{Steps, finished, head, leaf, ending, rest, left_out, written, Elements, no_element, element, SortedElements, no_part, part, has_default}
use Rattle.codec_machine.specs.declared.fault.RunFault.{RunFault}
use Rattle.codec_machine.specs.declared.fault.RunFault.TheVariants.{NotOfType}
use Rattle.codec_machine.specs.declared.frame.Frame.{Frame}
use Rattle.codec_machine.specs.declared.frame.Frame.TheVariants.{Routine, Elements as ElementsLeft}
use Rattle.codec_machine.specs.Weights.{weights, inner, total}
use Rattle.codec_machine.specs.Frames.{Acted, ActedBy, AddsLeaf, AddsWhole, ElementsEmit, EmitsNothing, HasNoContents, HasNoField, LeavesOut, MembersEmit, NoEvents, NoStep, Progress, Ran, StepTaken, WritesIt, elements_weight, steps_weight}
use Rattle.codec_machine.proofs.AllEmit.{two_left, emit_none, emit_more}
use Rattle.codec_machine.proofs.Inversion.{after_head, after_end, after_rest, after_leaf, after_field, of_field, held_field, no_field, contents_of_leaf, of_element, of_part}
use Rattle.codec_machine.proofs.Replacing.{held_weight}
use Rattle.codec_machine.proofs.Weigh.{product_most}

pub no_steps : (ss : List Step) → length ss ≡ 0 → ss ≡ []
no_steps [] h = refl
no_steps (x ∷ ss) h = absurd (omega (arith, h))

-- ---- progress

pub progress_refused : {S : Type 0} {adds : S → List Event → S → Type 0} {T U : List Event → Type 0} {a b : S} {fault : RunFault}
    → Progress adds T a U b
    → EmitsNothing U fault
    → EmitsNothing T fault
progress_refused p n e es t = let q = p.stays es t in n e q.events q.emitted

pub no_progress : {S : Type 0} {adds : S → List Event → S → Type 0} (T : List Event → Type 0) (a : S)
    → adds a [] a
    → Progress adds T a T a
no_progress T a ad = record { events = []; added = ad; left = λ es l. l; stays = λ es l. record { events = es; emitted = l } }

pub progress_done : {S : Type 0} (s : List Resolved) {adds : S → List Event → S → Type 0} (T : List Event → Type 0)
    (w : ℕ) (olds : List Frame) (a b : S)
    → 0 < w
    → Progress adds T a (λ es. es ≡ []) b
    → Acted s adds T w olds a olds b
progress_done s T w olds a b h p = record {
  events = p.events;
  added = p.added;
  replaced = record { pushed = []; is = sym (append-nil olds); left = p.left; stays = λ es d. emit_none s; less = h };
}

-- the same frames, over others
pub acted_over : {S : Type 0} (s : List Resolved) {adds : S → List Event → S → Type 0} (T : List Event → Type 0)
    (w : ℕ) (olds fs news : List Frame) (a b : S)
    → news ≡ olds ++ fs
    → Acted s adds T w [] a fs b
    → Acted s adds T w olds a news b
acted_over s T w olds fs news a b e q =
    let r = q.replaced in
    record {
      events = q.events;
      added = q.added;
      replaced = record { pushed = r.pushed; is = e ∙ ap (λ k. olds ++ k) r.is; left = r.left; stays = r.stays; less = r.less };
    }

module _ {S : Type 0} (adds : S → List Event → S → Type 0)
    (joins : (a b c : S) (es fs : List Event) → adds a es b → adds b fs c → adds a (es ++ fs) c) where
  pub progress_more : (T U W : List Event → Type 0) (a b c : S)
      → Progress adds T a U b
      → Progress adds U b W c
      → Progress adds T a W c
  progress_more T U W a b c p q = record {
    events = p.events ++ q.events;
    added = joins a b c p.events q.events p.added q.added;
    left = λ es l. subst T (sym (append_assoc p.events q.events es)) (p.left (q.events ++ es) (q.left es l));
    stays = λ es l. let e = p.stays es l in q.stays e.events e.emitted;
  }

  pub progress_acted : (s : List Resolved) (T U : List Event → Type 0) (w v : ℕ) (olds news : List Frame) (a b c : S)
      → v ≤ w
      → Progress adds T a U b
      → Acted s adds U v olds b news c
      → Acted s adds T w olds a news c
  progress_acted s T U w v olds news a b c few p q =
      let r = q.replaced in
      record {
        events = p.events ++ q.events;
        added = joins a b c p.events q.events p.added q.added;
        replaced = record {
          pushed = r.pushed;
          is = r.is;
          left = λ es l. subst T (sym (append_assoc p.events q.events es)) (p.left (q.events ++ es) (r.left es l));
          stays = λ es l. let e = p.stays es l in r.stays e.events e.emitted;
          less = (let k = r.less in omega (arith, few, k));
        };
      }

-- ---- steps

module _ {S : Type 0} (s : List Resolved) (adds : S → List Event → S → Type 0) (t : ℕ) (v : AbstractValue) (a b : S) where
  pub head_taken : (x : Step) (h : Head') → x ≡ Head h → adds a (opens h.tag h.constructed h.row ∷ []) b
      → StepTaken s adds t x v a b
  head_taken x h e ad = subst (λ q. StepTaken s adds t q v a b) (sym e) (λ ss. record { events = _; added = ad; left = λ ys d. head d; stays = λ ys d. after_head d })

  pub end_taken : (x : Step) → x ≡ End → adds a (closes ∷ []) b → StepTaken s adds t x v a b
  end_taken x e ad = subst (λ q. StepTaken s adds t q v a b) (sym e) (λ ss. record { events = _; added = ad; left = λ ys d. ending d; stays = λ ys d. after_end d })

  pub rest_taken : (x : Step) → x ≡ Rest → adds a [] b → StepTaken s adds t x v a b
  rest_taken x e ad = subst (λ q. StepTaken s adds t q v a b) (sym e) (λ ss. record { events = _; added = ad; left = λ ys d. rest d; stays = λ ys d. after_rest d })

  pub leaf_taken : (x : Step) (k : LeafKind) → x ≡ Leaf k → AddsLeaf adds k v a b → StepTaken s adds t x v a b
  leaf_taken x k e ad = subst (λ q. StepTaken s adds t q v a b) (sym e) (λ ss. record { events = _; added = ad.2; left = λ ys d. leaf ad.1 d; stays = λ ys d. after_leaf d })

  pub field_taken : (x : Step) (f : Field') → x ≡ Field f → StepTaken s adds t (Field f) v a b → StepTaken s adds t x v a b
  field_taken x f e h = subst (λ q. StepTaken s adds t q v a b) (sym e) h

  pub left_out_taken : (f : Field') → LeavesOut s t f v → adds a (leaves_out (has_default f.need) ∷ []) b
      → StepTaken s adds t (Field f) v a b
  left_out_taken f o ad = λ ss. record {
    events = _;
    added = ad;
    left = λ es l. subst (λ q. Steps s t (Field f ∷ ss) q (leaves_out (has_default f.need) ∷ es)) (sym o.is) (left_out o.left_out (subst (λ q. Steps s t ss q es) o.is l));
    stays = λ es d. after_field (of_field d);
  }

  pub written_taken : (f : Field') (w : AbstractValue) → WritesIt s t f v w → Ran s f.ty.index w adds a b → StepTaken s adds t (Field f) v a b
  written_taken f w o r = λ ss. record {
    events = r.events;
    added = r.added;
    left = λ es l. subst (λ q. Steps s t (Field f ∷ ss) q (r.events ++ es)) (sym o.is)
        (written o.written r.steps (subst (λ q. Steps s t ss q es) o.is l) refl);
    stays = λ es d. after_field (of_field d);
  }

  -- the step of a component is taken where its events are added
  pub field_done : (taken : Bool) (f : Field') (w : AbstractValue)
      → WritesIt s t f v w
      → MatchBool taken (Ran s f.ty.index w adds a b) (b ≡ a)
      → MatchBool taken (StepTaken s adds t (Field f) v a b) (b ≡ a)
  field_done true f w o r = written_taken f w o r
  field_done false f w o r = r

-- ---- the end of steps and of elements

pub steps_ended : {S : Type 0} {s : List Resolved} {adds : S → List Event → S → Type 0} {T : List Event → Type 0} {t : ℕ}
    {v : AbstractValue} {a b : S} (ss : List Step)
    → ss ≡ []
    → Progress adds T a (Steps s t ss v) b
    → Progress adds T a (λ es. es ≡ []) b
steps_ended {s = s} {t = t} {v = v} ss e p = record {
  events = p.events;
  added = p.added;
  left = λ es l. p.left es (subst (λ q. Steps s t q v es) (sym e) (subst (λ q. Steps s t [] v q) (sym l) finished));
  stays = λ es l. record { events = []; emitted = refl };
}

pub elements_ended : {S : Type 0} {s : List Resolved} {adds : S → List Event → S → Type 0} {T : List Event → Type 0} {t : ℕ}
    {a b : S} (vs : List Value)
    → vs ≡ []
    → Progress adds T a (ElementsEmit s t vs) b
    → Progress adds T a (λ es. es ≡ []) b
elements_ended {s = s} {t = t} vs e p = record {
  events = p.events;
  added = p.added;
  left = λ es l. p.left es (subst (λ q. ElementsEmit s t q es) (sym e) (subst (λ q. Elements s t end q) (sym l) no_element));
  stays = λ es l. record { events = []; emitted = refl };
}

pub members_ended : {S : Type 0} {s : List Resolved} {adds : S → List Event → S → Type 0} {T : List Event → Type 0} {t : ℕ}
    {a b : S} (vs : List Value)
    → vs ≡ []
    → Progress adds T a (MembersEmit s t vs) b
    → Progress adds T a (λ es. es ≡ []) b
members_ended {s = s} {t = t} vs e p = record {
  events = p.events;
  added = p.added;
  left = λ es l. p.left es (subst (λ q. MembersEmit s t q es) (sym e) (subst (λ q. SortedElements s t end q) (sym l) no_part));
  stays = λ es l. record { events = []; emitted = refl };
}

-- ---- a routine

module _ {S : Type 0} (s : List Resolved) (adds : S → List Event → S → Type 0) (t : ℕ) (v : AbstractValue) (ss left' : List Step) where
  -- a step that needs frames, after steps that need none
  pub steps_acted : ((a b c : S) (es fs : List Event) → adds a es b → adds b fs c → adds a (es ++ fs) c)
      → (x : Step) (others : List Step) (olds news : List Frame) (a b c : S)
      → left' ≡ x ∷ others
      → length left' ≤ length ss
      → Progress adds (Steps s t ss v) a (Steps s t left' v) b
      → ActedBy s adds t (x ∷ others) v olds b news c
      → ActedBy s adds t ss v olds a news c
  steps_acted joins x others olds news a b c e few p ac =
      let n = ap length e in
      let m = product_most (length (x ∷ others)) (length ss) (2 + inner (total s) v) (omega (arith, n, few)) in
      progress_acted adds joins s (Steps s t ss v) (Steps s t (x ∷ others) v) (steps_weight (total s) ss v) (steps_weight (total s) (x ∷ others) v)
      olds news a b c (omega (arith, m)) (subst (λ q. Progress adds (Steps s t ss v) a (Steps s t q v) b) e p) ac

  pub steps_done : (olds : List Frame) (a b : S)
      → left' ≡ []
      → Progress adds (Steps s t ss v) a (Steps s t left' v) b
      → ActedBy s adds t ss v olds a olds b
  steps_done olds a b e p = progress_done s (Steps s t ss v) (steps_weight (total s) ss v) olds a b (omega arith) (steps_ended left' e p)

  pub steps_refused : (x : Step) (others : List Step) (a b : S) (fault : RunFault)
      → left' ≡ x ∷ others
      → Progress adds (Steps s t ss v) a (Steps s t left' v) b
      → NoEvents s t (x ∷ others) v fault
      → NoEvents s t ss v fault
  steps_refused x others a b fault e p n = progress_refused p (subst (λ q. NoEvents s t q v fault) (sym e) n)

-- ---- steps without events

pub step_refused : {s : List Resolved} {t : ℕ} {v : AbstractValue} {fault : RunFault} (x y : Step)
    → x ≡ y
    → NoStep s t y v fault
    → NoStep s t x v fault
step_refused {s} {t} {v} {fault} x y e n = subst (λ q. NoStep s t q v fault) (sym e) n

pub field_refused : {s : List Resolved} {t : ℕ} {v : AbstractValue} {fault : RunFault} (f : Field')
    → HasNoField s t f v
    → NoStep s t (Field f) v fault
field_refused f n ss e es d = no_field n (of_field d)

pub written_refused : {s : List Resolved} {t : ℕ} {v : AbstractValue} {fault : RunFault} (f : Field') (w : AbstractValue)
    → WritesIt s t f v w
    → EmitsNothing (Steps s f.ty.index (routine_at s f.ty.index) w) fault
    → NoStep s t (Field f) v fault
written_refused f w o none ss n es d = let held' = held_field w o (of_field d) in none n held'.events held'.emitted

pub leaf_refused : {s : List Resolved} {t : ℕ} {v : AbstractValue} {fault : RunFault} (x : Step) (k : LeafKind)
    → x ≡ Leaf k
    → (fault ≡ NotOfType → HasNoContents k v)
    → NoStep s t x v fault
leaf_refused {s} {t} {v} x k e none ss n es d =
    let q = contents_of_leaf (subst (λ y. Steps s t (y ∷ ss) v es) e d) in none n q.0 q.1

-- ---- elements

pub whole_progress : {S : Type 0} {s : List Resolved} {adds : S → List Event → S → Type 0} {t : ℕ} {h : Head'} {k : LeafKind}
    {w : AbstractValue} {a b : S}
    → AddsWhole adds h k w a b
    → Progress adds (Steps s t (Head h ∷ Leaf k ∷ End ∷ []) w) a (Steps s t [] w) b
whole_progress {s = s} {t = t} {h = h} {w = w} ad = record {
  events = opens h.tag h.constructed h.row ∷ puts ad.0 ∷ closes ∷ [];
  added = ad.2;
  left = λ es l. head (leaf ad.1 (ending l));
  stays = λ es d. record { events = []; emitted = finished };
}

pub whole_refused : {s : List Resolved} {t : ℕ} {h : Head'} {k : LeafKind} {w : AbstractValue} {fault : RunFault}
    → (fault ≡ NotOfType → HasNoContents k w)
    → EmitsNothing (Steps s t (Head h ∷ Leaf k ∷ End ∷ []) w) fault
whole_refused none n es d = let p = after_head d in let q = contents_of_leaf p.emitted in none n q.0 q.1

module _ {S : Type 0} (s : List Resolved) (adds : S → List Event → S → Type 0) (id : TypeId) (ss : List Step) (w : Bor Value)
    (vs : List Value) (a b : S) where
  pub element_taken : (us : List Value)
      → vs ≡ w.now ∷ us
      → ss ≡ routine_at s id.index
      → Progress adds (Steps s id.index ss (abstract w.now)) a (Steps s id.index [] (abstract w.now)) b
      → Progress adds (ElementsEmit s id.index vs) a (ElementsEmit s id.index us) b
  element_taken us e f p = record {
    events = p.events;
    added = p.added;
    left = λ es l. subst (λ q. ElementsEmit s id.index q (p.events ++ es)) (sym e)
        (element (subst (λ q. Steps s id.index q (abstract w.now) (p.events ++ [])) f (p.left [] finished)) l (ap (λ q. q ++ es) (sym (append-nil p.events))));
    stays = λ es d. let q = of_element (subst (λ r. ElementsEmit s id.index r es) e d) in q.others;
  }

  pub element_stopped : (us : Bor (List Value)) (left' : Bor (List Step))
      → vs ≡ w.now ∷ us.now
      → ss ≡ routine_at s id.index
      → length left'.now ≤ length ss
      → Progress adds (Steps s id.index ss (abstract w.now)) a (Steps s id.index left'.now (abstract w.now)) b
      → Acted s adds (ElementsEmit s id.index vs) (elements_weight (total s) vs) [] a
      (ElementsLeft id us ∷ Routine id left' w ∷ []) b
  element_stopped us left' e f few p = record {
    events = p.events;
    added = p.added;
    replaced = record {
      pushed = ElementsLeft id us ∷ Routine id left' w ∷ [];
      is = refl;
      left = λ es l.
          let r = two_left s (ElementsLeft id us) (Routine id left' w) es l in
          subst (λ q. ElementsEmit s id.index q (p.events ++ es)) (sym e)
          (element (subst (λ q. Steps s id.index q (abstract w.now) (p.events ++ r.first)) f (p.left r.first r.one)) r.two (ap (λ q. p.events ++ q) r.whole ∙ sym (append_assoc p.events r.first r.second)));
      stays = λ es d.
          let q = of_element (subst (λ r. ElementsEmit s id.index r es) e d) in
          let h = q.first in
          let r = p.stays h.events (subst (λ k. Steps s id.index k (abstract w.now) h.events) (sym f) h.emitted) in
          emit_more s (ElementsLeft id us) (Routine id left' w ∷ []) q.others.events q.others.emitted
          (emit_more s (Routine id left' w) [] r.events r.emitted (emit_none s));
      less =
          let m = product_most (length left'.now) (length ss) (2 + inner (total s) (abstract w.now)) few in
          let h = held_weight s id ss (abstract w.now) f in
          let k = ap (λ q. weights (total s) (row_of_list (map abstract q))) e in omega (arith, m, h, k);
    };
  }

  pub element_refused : (us : List Value) (fault : RunFault)
      → vs ≡ w.now ∷ us
      → ss ≡ routine_at s id.index
      → EmitsNothing (Steps s id.index ss (abstract w.now)) fault
      → EmitsNothing (ElementsEmit s id.index vs) fault
  element_refused us fault e f none n es d =
      let q = of_element (subst (λ r. ElementsEmit s id.index r es) e d) in
      none n q.first.events (subst (λ k. Steps s id.index k (abstract w.now) q.first.events) (sym f) q.first.emitted)

  pub member_taken : (c : S) (h : Head') (k : LeafKind) (us : List Value)
      → ((a b c : S) (es fs : List Event) → adds a es b → adds b fs c → adds a (es ++ fs) c)
      → vs ≡ w.now ∷ us
      → routine_at s id.index ≡ Head h ∷ Leaf k ∷ End ∷ []
      → AddsWhole adds h k (abstract w.now) a b
      → adds b (ends_member 0 ∷ []) c
      → Progress adds (MembersEmit s id.index vs) a (MembersEmit s id.index us) c
  member_taken c h k us joins e f ad more =
      let emitted = opens h.tag h.constructed h.row ∷ puts ad.0 ∷ closes ∷ [] in record {
        events = emitted ++ ends_member 0 ∷ [];
        added = joins a b c emitted (ends_member 0 ∷ []) ad.2 more;
        left = λ es l. subst (λ q. MembersEmit s id.index q (emitted ++ ends_member 0 ∷ es)) (sym e)
            (part (subst (λ q. Steps s id.index q (abstract w.now) emitted) (sym f) (head (leaf ad.1 (ending finished)))) l refl);
        stays = λ es d. let q = of_part (subst (λ r. MembersEmit s id.index r es) e d) in q.others;
      }

  pub member_refused : (us : List Value) (fault : RunFault)
      → vs ≡ w.now ∷ us
      → ss ≡ routine_at s id.index
      → EmitsNothing (Steps s id.index ss (abstract w.now)) fault
      → EmitsNothing (MembersEmit s id.index vs) fault
  member_refused us fault e f none n es d =
      let q = of_part (subst (λ r. MembersEmit s id.index r es) e d) in
      none n q.first.events (subst (λ k. Steps s id.index k (abstract w.now) q.first.events) (sym f) q.first.emitted)
