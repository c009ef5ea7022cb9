-- What one step does, and what one turn does.
use Rattle.std.proofs.Common.{Bor, ◌≡◌, ℕ, ◌<◌, ◌≤◌, List, [], ◌∷◌, ◌++◌, refl, sym, ap, subst, arith, append_assoc, append-nil}
use Rattle.std.specs.Prelude.{Option, Some, None}
use Rattle.asn_base.specs.declared.schema.TypeId.{TypeId}
use Rattle.asn_base.specs.declared.value.Value.{Value}
use Rattle.asn_base.specs.Abstract.{AbstractValue, abstract}
use Rattle.asn_base.specs.Types.{Resolved}
use Rattle.codec_code.specs.declared.step.Head.{Head as Head'}
use Rattle.encodings.specs.declared.leaf_kind.LeafKind.{LeafKind}
use Rattle.codec_code.specs.declared.step.Step.{Step}
use Rattle.codec_code.specs.declared.step.Step.TheVariants.{Head, Leaf, Rest, End, Call}
use Rattle.codec_code.specs.Events.{Event, opens, puts, closes, ends_member}
use Rattle.codec_code.specs.Routines.{routine_at}
use Rattle.codec_code.specs.Steps.{Steps, finished, head, ending, rest, leaf}
use Rattle.codec_machine.specs.declared.fault.RunFault.{RunFault}
use Rattle.codec_machine.specs.declared.fault.RunFault.TheVariants.{NotOfType}
use Rattle.codec_machine.specs.declared.frame.Frame.{Frame}
use Rattle.codec_machine.specs.declared.frame.Frame.TheVariants.{Routine, Elements as ElementsLeft, SortedElements as SortedLeft, MemberEnd as EndOfMember}
use Rattle.codec_machine.specs.Weights.{total}
use Rattle.codec_machine.specs.Frames.{and_next, ActedBy, AddsLeaf, AddsWhole, HasNoContents, FrameEmits, AllEmit, EmitsSome, EmitsNothing, frame_weight, Acted, ElementsEmit, MembersEmit, Replaced, Turned, Reached, Ran, elements_weight, steps_weight}
use Rattle.codec_machine.proofs.AllEmit.{one_left, emit_none, emit_more, turned_by, emits_nothing_by}
use Rattle.codec_machine.proofs.Inversion.{after_head, after_end, after_rest, after_leaf, contents_of_leaf, no_call}
use Rattle.codec_machine.proofs.Weigh.{room}

module _ {S : Type 0} (s : List Resolved) (adds : S → List Event → S → Type 0) where
  module _ (id : TypeId) (others : Bor (List Step)) (v : Bor Value) (olds news : List Frame) (a b : S) where
    -- an event, and the steps after it
    acted : (x : Step) (es : List Event) → adds a es b → news ≡ olds ++ Routine id others v ∷ []
        → ((ys : List Event)
        → Steps s id.index others.now (abstract v.now) ys
        → Steps s id.index (x ∷ others.now) (abstract v.now) (es ++ ys))
        → ((ys : List Event)
        → Steps s id.index (x ∷ others.now) (abstract v.now) ys
        → EmitsSome (Steps s id.index others.now (abstract v.now)))
        → ActedBy s adds id.index (x ∷ others.now) (abstract v.now) olds a news b
    acted x es ad is h k' = record {
      events = es;
      added = ad;
      replaced = record {
        pushed = Routine id others v ∷ [];
        is = is;
        left = λ ys l. h ys (one_left s (Routine id others v) ys l);
        stays = λ ys d. let p = k' ys d in emit_more s (Routine id others v) [] p.events p.emitted (emit_none s);
        less = (let k = room (total s) x others.now (abstract v.now) 0 (omega arith) in omega arith);
      };
    }

    pub head_acted : (x : Step) (h : Head')
        → x ≡ Head h
        → adds a (opens h.tag h.constructed h.row ∷ []) b
        → news ≡ olds ++ Routine id others v ∷ []
        → ActedBy s adds id.index (x ∷ others.now) (abstract v.now) olds a news b
    head_acted x h e ad is = acted x (opens h.tag h.constructed h.row ∷ []) ad is (λ ys d. subst (λ q. Steps s id.index (q ∷ others.now) (abstract v.now) (opens h.tag h.constructed h.row ∷ ys)) (sym e) (head d)) (λ ys d. after_head (subst (λ q. Steps s id.index (q ∷ others.now) (abstract v.now) ys) e d))

    pub end_acted : (x : Step) → x ≡ End → adds a (closes ∷ []) b → news ≡ olds ++ Routine id others v ∷ []
        → ActedBy s adds id.index (x ∷ others.now) (abstract v.now) olds a news b
    end_acted x e ad is = acted x (closes ∷ []) ad is (λ ys d. subst (λ q. Steps s id.index (q ∷ others.now) (abstract v.now) (closes ∷ ys)) (sym e) (ending d)) (λ ys d. after_end (subst (λ q. Steps s id.index (q ∷ others.now) (abstract v.now) ys) e d))

    pub rest_acted : (x : Step) → x ≡ Rest → adds a [] b → news ≡ olds ++ Routine id others v ∷ []
        → ActedBy s adds id.index (x ∷ others.now) (abstract v.now) olds a news b
    rest_acted x e ad is = acted x [] ad is (λ ys d. subst (λ q. Steps s id.index (q ∷ others.now) (abstract v.now) ys) (sym e) (rest d)) (λ ys d. after_rest (subst (λ q. Steps s id.index (q ∷ others.now) (abstract v.now) ys) e d))

    pub leaf_acted : (x : Step) (k : LeafKind)
        → x ≡ Leaf k
        → AddsLeaf adds k (abstract v.now) a b
        → news ≡ olds ++ Routine id others v ∷ []
        → ActedBy s adds id.index (x ∷ others.now) (abstract v.now) olds a news b
    leaf_acted x k e ad is = acted x (puts ad.0 ∷ []) ad.2 is (λ ys d. subst (λ q. Steps s id.index (q ∷ others.now) (abstract v.now) (puts ad.0 ∷ ys)) (sym e) (leaf ad.1 d)) (λ ys d. after_leaf (subst (λ q. Steps s id.index (q ∷ others.now) (abstract v.now) ys) e d))

  -- ---- turns

  same_weight : (f g : Frame) → f ≡ g → frame_weight (total s) g ≤ frame_weight (total s) f
  same_weight f g e = let k = ap (frame_weight (total s)) e in omega arith

  pub routine_turned : (f : Frame) (id : TypeId) (ss : Bor (List Step)) (v : Bor Value) (olds news : List Frame) (a b : S)
      → f ≡ Routine id ss v
      → ActedBy s adds id.index ss.now (abstract v.now) olds a news b
      → Turned s adds (olds ++ f ∷ []) a news b
  routine_turned f id ss v olds news a b e ac =
      turned_by s adds (Steps s id.index ss.now (abstract v.now)) (steps_weight (total s) ss.now (abstract v.now)) olds news f a b
      (λ ys t. subst (λ q. FrameEmits s q ys) (sym e) t) (λ ys t. subst (λ q. FrameEmits s q ys) e t) (same_weight f (Routine id ss v) e) ac

  nothing_pushed : (T : List Event → Type 0) (w : ℕ) (es : List Event) (olds : List Frame)
      → T (es ++ [])
      → 0 < w
      → Replaced s T w es olds olds
  nothing_pushed T w es olds t h = record { pushed = []; is = sym (append-nil olds); left = λ ys l. subst (λ q. T (es ++ q)) (sym l) t; stays = λ ys d. emit_none s; less = h }

  -- a header, contents and the end of the header at once
  pub whole_turned : (f : Frame) (id : TypeId) (ss : Bor (List Step)) (v : Bor Value) (h : Head') (k : LeafKind)
      (olds : List Frame) (a b : S)
      → f ≡ Routine id ss v
      → ss.now ≡ Head h ∷ Leaf k ∷ End ∷ []
      → AddsWhole adds h k (abstract v.now) a b
      → Turned s adds (olds ++ f ∷ []) a olds b
  whole_turned f id ss v h k olds a b e d ad =
      let es = opens h.tag h.constructed h.row ∷ puts ad.0 ∷ closes ∷ [] in
      turned_by s adds (Steps s id.index (Head h ∷ Leaf k ∷ End ∷ []) (abstract v.now)) 1 olds olds f a b
      (λ ys t. subst (λ q. FrameEmits s q ys) (sym e) (subst (λ q. Steps s id.index q (abstract v.now) ys) (sym d) t))
      (λ ys t. subst (λ q. Steps s id.index q (abstract v.now) ys) d (subst (λ q. FrameEmits s q ys) e t))
      (let k' = same_weight f (Routine id ss v) e in omega arith)
      (record { events = es; added = ad.2; replaced = nothing_pushed (Steps s id.index (Head h ∷ Leaf k ∷ End ∷ []) (abstract v.now)) 1 es olds (head (leaf ad.1 (ending finished))) (omega arith) })

  pub elements_turned : (f : Frame) (id : TypeId) (vs : Bor (List Value)) (olds news : List Frame) (a b : S)
      → f ≡ ElementsLeft id vs
      → Acted s adds (ElementsEmit s id.index vs.now) (elements_weight (total s) vs.now) olds a news b
      → Turned s adds (olds ++ f ∷ []) a news b
  elements_turned f id vs olds news a b e ac =
      turned_by s adds (ElementsEmit s id.index vs.now) (elements_weight (total s) vs.now) olds news f a b
      (λ ys t. subst (λ q. FrameEmits s q ys) (sym e) t) (λ ys t. subst (λ q. FrameEmits s q ys) e t) (same_weight f (ElementsLeft id vs) e) ac

  pub members_turned : (f : Frame) (id : TypeId) (vs : Bor (List Value)) (olds news : List Frame) (a b : S)
      → f ≡ SortedLeft id vs
      → Acted s adds (MembersEmit s id.index vs.now) (elements_weight (total s) vs.now) olds a news b
      → Turned s adds (olds ++ f ∷ []) a news b
  members_turned f id vs olds news a b e ac =
      turned_by s adds (MembersEmit s id.index vs.now) (elements_weight (total s) vs.now) olds news f a b
      (λ ys t. subst (λ q. FrameEmits s q ys) (sym e) t) (λ ys t. subst (λ q. FrameEmits s q ys) e t) (same_weight f (SortedLeft id vs) e) ac

  pub part_turned : (f : Frame) (r : ℕ) (olds : List Frame) (a b : S)
      → f ≡ EndOfMember r
      → adds a (ends_member r ∷ []) b
      → Turned s adds (olds ++ f ∷ []) a olds b
  part_turned f r olds a b e ad =
      turned_by s adds (λ ys. ys ≡ ends_member r ∷ []) 1 olds olds f a b
      (λ ys t. subst (λ q. FrameEmits s q ys) (sym e) t) (λ ys t. subst (λ q. FrameEmits s q ys) e t) (same_weight f (EndOfMember r) e)
      (record { events = ends_member r ∷ []; added = ad; replaced = nothing_pushed (λ ys. ys ≡ ends_member r ∷ []) 1 (ends_member r ∷ []) olds refl (omega arith) })

  -- ---- a run

  pub reached_start : (olds : List Frame) (a : S) → adds a [] a → Reached s adds olds a olds a
  reached_start olds a ad = record { events = []; added = ad; left = λ ys l. l; stays = λ ys l. record { events = ys; emitted = l } }

  pub reached_more : ((a b c : S) (es fs : List Event) → adds a es b → adds b fs c → adds a (es ++ fs) c)
      → (olds mids mids' news : List Frame) (a b c : S)
      → mids' ≡ mids
      → Reached s adds olds a mids' b
      → Turned s adds mids b news c
      → Reached s adds olds a news c
  reached_more joins olds mids mids' news a b c e t u = record {
    events = t.events ++ u.events;
    added = joins a b c t.events u.events t.added u.added;
    left = λ ys l. subst (AllEmit s olds) (sym (append_assoc t.events u.events ys)) (t.left (u.events ++ ys) (subst (λ q. AllEmit s q (u.events ++ ys)) (sym e) (u.left ys l)));
    stays = λ ys l. let p = t.stays ys l in u.stays p.events (subst (λ q. AllEmit s q p.events) e p.emitted);
  }

  pub reached_ran : (id : TypeId) (ss : Bor (List Step)) (v : Bor Value) (olds news : List Frame) (a b : S)
      → ss.now ≡ routine_at s id.index
      → olds ≡ Routine id ss v ∷ []
      → news ≡ []
      → Reached s adds olds a news b
      → Ran s id.index (abstract v.now) adds a b
  reached_ran id ss v olds news a b d is empty t =
      let l = subst (λ q. AllEmit s q (t.events ++ [])) is (t.left [] (subst (λ q. AllEmit s q []) (sym empty) refl)) in
      let o = one_left s (Routine id ss v) (t.events ++ []) l in
      record {
        events = t.events;
        added = t.added;
        steps = subst (λ q. Steps s id.index q (abstract v.now) t.events) d (subst (λ q. Steps s id.index ss.now (abstract v.now) q) (append-nil t.events) o);
      }

-- if there are no events for the start, there are none for a later state
pub reached_emits_nothing : {S : Type 0} (s : List Resolved) (adds : S → List Event → S → Type 0) (id : TypeId)
    (ss : Bor (List Step)) (v : Bor Value) (olds mids mids' : List Frame) (a b : S) (fault : RunFault)
    → ss.now ≡ routine_at s id.index
    → olds ≡ Routine id ss v ∷ []
    → mids ≡ mids'
    → Reached s adds olds a mids b
    → EmitsNothing (AllEmit s mids') fault
    → EmitsNothing (Steps s id.index (routine_at s id.index) (abstract v.now)) fault
reached_emits_nothing s adds id ss v olds mids mids' a b fault d is e t n k es h =
    let p = t.stays es (subst (λ q. AllEmit s q es) (sym is) ([], es, refl, subst (λ q. Steps s id.index q (abstract v.now) es) (sym d) h, refl)) in
    n k p.events (subst (λ q. AllEmit s q p.events) e p.emitted)

-- the same step
pub step_emits_nothing : (s : List Resolved) (t : ℕ) (ss : List Step) (v : AbstractValue) (x y : Step) (fault : RunFault)
    → x ≡ y
    → EmitsNothing (Steps s t (y ∷ ss) v) fault
    → EmitsNothing (Steps s t (x ∷ ss) v) fault
step_emits_nothing s t ss v x y fault e n k es d = n k es (subst (λ q. Steps s t (q ∷ ss) v es) e d)

pub call_emits_nothing : (s : List Resolved) (t : ℕ) (ss : List Step) (v : AbstractValue) (x : Step) (u : TypeId)
    (fault : RunFault)
    → x ≡ Call u
    → EmitsNothing (Steps s t (x ∷ ss) v) fault
call_emits_nothing s t ss v x u fault e k es d = no_call (subst (λ q. Steps s t (q ∷ ss) v es) e d)

pub leaf_emits_nothing : (s : List Resolved) (t : ℕ) (ss : List Step) (v : AbstractValue) (x : Step) (kind : LeafKind)
    (fault : RunFault)
    → x ≡ Leaf kind
    → (fault ≡ NotOfType → HasNoContents kind v)
    → EmitsNothing (Steps s t (x ∷ ss) v) fault
leaf_emits_nothing s t ss v x kind fault e n k es d =
    let p = contents_of_leaf (subst (λ q. Steps s t (q ∷ ss) v es) e d) in
    n k p.0 p.1

pub whole_emits_nothing : (s : List Resolved) (f : Frame) (id : TypeId) (ss : Bor (List Step)) (v : Bor Value) (h : Head')
    (kind : LeafKind) (olds : List Frame) (fault : RunFault)
    → f ≡ Routine id ss v
    → ss.now ≡ Head h ∷ Leaf kind ∷ End ∷ []
    → (fault ≡ NotOfType → HasNoContents kind (abstract v.now))
    → EmitsNothing (AllEmit s (olds ++ f ∷ [])) fault
whole_emits_nothing s f id ss v h kind olds fault e d n =
    emits_nothing_by s (Steps s id.index (Head h ∷ Leaf kind ∷ End ∷ []) (abstract v.now)) olds f fault
    (λ ys t. subst (λ q. Steps s id.index q (abstract v.now) ys) d (subst (λ q. FrameEmits s q ys) e t))
    (λ k es t. let p = after_head t in let q = contents_of_leaf p.emitted in n k q.0 q.1)

-- there are none for the last frame
pub frame_emits_nothing : (s : List Resolved) (f g : Frame) (olds : List Frame) (fault : RunFault)
    → f ≡ g
    → EmitsNothing (FrameEmits s g) fault
    → EmitsNothing (AllEmit s (olds ++ f ∷ [])) fault
frame_emits_nothing s f g olds fault e n =
    emits_nothing_by s (FrameEmits s g) olds f fault (λ ys t. subst (λ q. FrameEmits s q ys) e t) n

-- none goes on, and none is left
pub none_next : (fs : List Frame) (o : Option Frame)
    → ((f : Frame) → o ≡ Some f → ⊥)
    → (o ≡ None → fs ≡ [])
    → and_next fs o ≡ []
none_next fs None n e = e refl
none_next fs (Some f) n e = absurd (n f refl)
