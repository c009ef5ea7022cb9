-- What steps leave to do.
use Rattle.std.proofs.Common.{Bor, ◌≡◌, ℕ, suc, ◌<◌, ◌≤◌, List, [], ◌∷◌, ◌++◌, length, map, drop, refl, sym, ap, subst, ◌∙◌, arith, append_assoc, append-nil}
use Rattle.std.specs.Prelude.{Some, slice_get}
use Rattle.asn_base.specs.declared.schema.TypeId.{TypeId}
use Rattle.asn_base.specs.declared.value.Value.{Value}
use Rattle.asn_base.specs.Abstract.{AbstractValue, abstract, fields, list, alternative, row_of_list}
use Rattle.asn_base.specs.Types.{Resolved}
use Rattle.codec_code.specs.declared.step.Head.{Head as Head'}
use Rattle.encodings.specs.declared.leaf_kind.LeafKind.{LeafKind}
use Rattle.codec_code.specs.declared.step.Field.{Field as Field'}
use Rattle.codec_code.specs.declared.step.Step.{Step}
use Rattle.codec_code.specs.declared.step.Step.TheVariants.{Head, Leaf, End, Field, SetComponent, Each, EachSorted, Pick, Call}
use Rattle.codec_code.specs.Events.{Event, opens, puts, closes, leaves_out, ends_member}
use Rattle.codec_code.specs.Routines.{routine_at}
use Rattle.codec_code.specs.Steps.{Steps, finished, head, leaf, ending, left_out, written, ranked_left_out, ranked_written, each, each_sorted, pick, Elements, element, SortedElements, part, has_default}
use Rattle.encodings.specs.Leaves.{HasContents}
use Rattle.codec_machine.specs.declared.fault.RunFault.{RunFault}
use Rattle.codec_machine.specs.declared.fault.RunFault.TheVariants.{NotOfType}
use Rattle.codec_machine.specs.declared.frame.Frame.{Frame}
use Rattle.codec_machine.specs.declared.frame.Frame.TheVariants.{Routine, Elements as ElementsLeft, SortedElements as SortedLeft, MemberEnd as EndOfMember}
use Rattle.codec_machine.specs.Weights.{weight, weights, inner, total}
use Rattle.codec_machine.specs.Frames.{Replaced, ReplacedBy, HasNoContents, NoEvents, LeavesOut, WritesIt, steps_weight}
use Rattle.codec_machine.proofs.AllEmit.{one_left, two_left, three_left, emit_none, emit_more}
use Rattle.codec_machine.proofs.Inversion.{after_field, after_head, contents_of_leaf, held_field, of_field, of_ranked, of_each, of_sorted, same_list, of_element, of_part, of_pick, called_type}
use Rattle.codec_machine.proofs.Weigh.{routine_weight, component_weight, room, room_fewer}

two_pushed : (olds mids news : List Frame) (f g : Frame)
    → mids ≡ olds ++ f ∷ []
    → news ≡ mids ++ g ∷ []
    → news ≡ olds ++ (f ∷ g ∷ [])
two_pushed olds mids news f g e h = h ∙ ap (λ q. q ++ g ∷ []) e ∙ append_assoc olds (f ∷ []) (g ∷ [])

three_pushed : (olds mids lates news : List Frame) (f g h : Frame)
    → mids ≡ olds ++ f ∷ []
    → lates ≡ mids ++ g ∷ []
    → news ≡ lates ++ h ∷ []
    → news ≡ olds ++ (f ∷ g ∷ h ∷ [])
three_pushed olds mids lates news f g h e d k = k ∙ ap (λ q. q ++ h ∷ []) (two_pushed olds mids lates f g e d) ∙ append_assoc olds (f ∷ g ∷ []) (h ∷ [])

inner_at : (l : ℕ) (v w : AbstractValue) → v ≡ w → inner l v ≡ inner l w
inner_at l v w e = ap (inner l) e

-- a routine found in the table, for a value that is held
pub held_weight : (s : List Resolved) (u : TypeId) (ss : List Step) (w : AbstractValue)
    → ss ≡ routine_at s u.index
    → steps_weight (total s) ss w ≤ weight (total s) w
held_weight s u ss w e = let h = routine_weight s u.index w in let k = ap (λ q. steps_weight (total s) q w) e in omega arith

module _ (s : List Resolved) (id : TypeId) (olds : List Frame) where
  module _ (rest : Bor (List Step)) (v : Bor Value) where
    -- a component that is left out
    pub field_out : (f : Field') (news : List Frame)
        → LeavesOut s id.index f (abstract v.now)
        → news ≡ olds ++ Routine id rest v ∷ []
        → ReplacedBy s id.index (Field f ∷ rest.now) (abstract v.now) (leaves_out (has_default f.need) ∷ []) olds news
    field_out f news o e = record {
      pushed = Routine id rest v ∷ [];
      is = e;
      left = λ es l. subst (λ q. Steps s id.index (Field f ∷ rest.now) q (leaves_out (has_default f.need) ∷ es)) (sym o.is)
          (left_out o.left_out (subst (λ q. Steps s id.index rest.now q es) o.is (one_left s (Routine id rest v) es l)));
      stays = λ es t. let p = after_field (of_field t) in emit_more s (Routine id rest v) [] p.events p.emitted (emit_none s);
      less = (let h = room (total s) (Field f) rest.now (abstract v.now) 0 (omega arith) in omega arith);
    }

    pub ranked_out : (f : Field') (r : ℕ) (news : List Frame)
        → LeavesOut s id.index f (abstract v.now)
        → news ≡ olds ++ Routine id rest v ∷ []
        → ReplacedBy s id.index (SetComponent f r ∷ rest.now) (abstract v.now) (leaves_out (has_default f.need) ∷ []) olds news
    ranked_out f r news o e = record {
      pushed = Routine id rest v ∷ [];
      is = e;
      left = λ es l. subst (λ q. Steps s id.index (SetComponent f r ∷ rest.now) q (leaves_out (has_default f.need) ∷ es)) (sym o.is)
          (ranked_left_out o.left_out (subst (λ q. Steps s id.index rest.now q es) o.is (one_left s (Routine id rest v) es l)));
      stays = λ es t. let p = after_field (of_ranked t) in emit_more s (Routine id rest v) [] p.events p.emitted (emit_none s);
      less = (let h = room (total s) (SetComponent f r) rest.now (abstract v.now) 0 (omega arith) in omega arith);
    }

    -- a component that is written
    pub field_in : (f : Field') (mids news : List Frame) (ss : Bor (List Step)) (w : Bor Value)
        → WritesIt s id.index f (abstract v.now) (abstract w.now)
        → ss.now ≡ routine_at s f.ty.index
        → mids ≡ olds ++ Routine id rest v ∷ [] → news ≡ mids ++ Routine f.ty ss w ∷ []
        → ReplacedBy s id.index (Field f ∷ rest.now) (abstract v.now) [] olds news
    field_in f mids news ss w o e d k = record {
      pushed = Routine id rest v ∷ Routine f.ty ss w ∷ [];
      is = two_pushed olds mids news (Routine id rest v) (Routine f.ty ss w) d k;
      left = λ es l.
          let p = two_left s (Routine id rest v) (Routine f.ty ss w) es l in
          subst (λ q. Steps s id.index (Field f ∷ rest.now) q es) (sym o.is)
          (written o.written (subst (λ q. Steps s f.ty.index q (abstract w.now) p.first) e p.one) (subst (λ q. Steps s id.index rest.now q p.second) o.is p.two) p.whole);
      stays = λ es t.
          let p = of_field t in
          let b = after_field p in
          let h = held_field (abstract w.now) o p in
          emit_more s (Routine id rest v) (Routine f.ty ss w ∷ []) b.events b.emitted
          (emit_more s (Routine f.ty ss w) [] h.events (subst (λ q. Steps s f.ty.index q (abstract w.now) h.events) (sym e) h.emitted) (emit_none s));
      less =
          let h = room (total s) (Field f) rest.now (abstract v.now) (steps_weight (total s) ss.now (abstract w.now))
          (let a = held_weight s f.ty ss.now (abstract w.now) e in let b = component_weight (total s) o.row f.place (abstract w.now) o.written.is_at in let c = inner_at (total s) (abstract v.now) (fields o.row) o.is in omega arith) in omega arith;
    }

    -- a component without other values in it, written at once
    pub field_whole : (f : Field') (news : List Frame) (w : Bor Value) (h : Head') (k : LeafKind) (x : List ℕ)
        → WritesIt s id.index f (abstract v.now) (abstract w.now)
        → routine_at s f.ty.index ≡ Head h ∷ Leaf k ∷ End ∷ []
        → HasContents k (abstract w.now) x
        → news ≡ olds ++ Routine id rest v ∷ []
        → ReplacedBy s id.index (Field f ∷ rest.now) (abstract v.now)
        (opens h.tag h.constructed h.row ∷ puts x ∷ closes ∷ []) olds news
    field_whole f news w h k x o e has is = record {
      pushed = Routine id rest v ∷ [];
      is = is;
      left = λ es l.
          let emitted = opens h.tag h.constructed h.row ∷ puts x ∷ closes ∷ [] in
          subst (λ q. Steps s id.index (Field f ∷ rest.now) q (emitted ++ es)) (sym o.is)
          (written o.written (subst (λ q. Steps s f.ty.index q (abstract w.now) emitted) (sym e) (head (leaf has (ending finished)))) (subst (λ q. Steps s id.index rest.now q es) o.is (one_left s (Routine id rest v) es l)) refl);
      stays = λ es t. let p = after_field (of_field t) in emit_more s (Routine id rest v) [] p.events p.emitted (emit_none s);
      less = (let h' = room (total s) (Field f) rest.now (abstract v.now) 0 (omega arith) in omega arith);
    }

    -- the value has no contents
    pub field_emits_nothing : (f : Field') (w : Bor Value) (h : Head') (k : LeafKind) (fault : RunFault)
        → WritesIt s id.index f (abstract v.now) (abstract w.now)
        → routine_at s f.ty.index ≡ Head h ∷ Leaf k ∷ End ∷ []
        → (fault ≡ NotOfType → HasNoContents k (abstract w.now))
        → NoEvents s id.index (Field f ∷ rest.now) (abstract v.now) fault
    field_emits_nothing f w h k fault o e none = λ n es t.
        let held' = held_field (abstract w.now) o (of_field t) in
        let p = after_head (subst (λ q. Steps s f.ty.index q (abstract w.now) held'.events) e held'.emitted) in
        let q = contents_of_leaf p.emitted in none n q.0 q.1

    pub ranked_in : (f : Field') (r : ℕ) (mids lates news : List Frame) (ss : Bor (List Step)) (w : Bor Value)
        → WritesIt s id.index f (abstract v.now) (abstract w.now)
        → ss.now ≡ routine_at s f.ty.index
        → mids ≡ olds ++ Routine id rest v ∷ []
        → lates ≡ mids ++ EndOfMember r ∷ []
        → news ≡ lates ++ Routine f.ty ss w ∷ []
        → ReplacedBy s id.index (SetComponent f r ∷ rest.now) (abstract v.now) [] olds news
    ranked_in f r mids lates news ss w o e d b k = record {
      pushed = Routine id rest v ∷ EndOfMember r ∷ Routine f.ty ss w ∷ [];
      is = three_pushed olds mids lates news (Routine id rest v) (EndOfMember r) (Routine f.ty ss w) d b k;
      left = λ es l.
          let p = three_left s (Routine id rest v) (EndOfMember r) (Routine f.ty ss w) es l in
          subst (λ q. Steps s id.index (SetComponent f r ∷ rest.now) q es) (sym o.is)
          (ranked_written o.written (subst (λ q. Steps s f.ty.index q (abstract w.now) p.first) e p.one) (subst (λ q. Steps s id.index rest.now q p.third) o.is p.three) (p.whole ∙ ap (λ q. p.first ++ (q ++ p.third)) p.two));
      stays = λ es t.
          let p = of_ranked t in
          let b' = after_field p in
          let h = held_field (abstract w.now) o p in
          emit_more s (Routine id rest v) (EndOfMember r ∷ Routine f.ty ss w ∷ []) b'.events b'.emitted
          (emit_more s (EndOfMember r) (Routine f.ty ss w ∷ []) (ends_member r ∷ []) refl
          (emit_more s (Routine f.ty ss w) [] h.events (subst (λ q. Steps s f.ty.index q (abstract w.now) h.events) (sym e) h.emitted) (emit_none s)));
      less =
          let h = room (total s) (SetComponent f r) rest.now (abstract v.now) (suc (steps_weight (total s) ss.now (abstract w.now)))
          (let a = held_weight s f.ty ss.now (abstract w.now) e in let b' = component_weight (total s) o.row f.place (abstract w.now) o.written.is_at in let c = inner_at (total s) (abstract v.now) (fields o.row) o.is in omega arith) in omega arith;
    }

    -- all elements
    pub each_in : (u : TypeId) (mids news : List Frame) (vs : Bor (List Value))
        → abstract v.now ≡ list (row_of_list (map abstract vs.now))
        → mids ≡ olds ++ Routine id rest v ∷ [] → news ≡ mids ++ ElementsLeft u vs ∷ []
        → ReplacedBy s id.index (Each u ∷ rest.now) (abstract v.now) [] olds news
    each_in u mids news vs e d k = record {
      pushed = Routine id rest v ∷ ElementsLeft u vs ∷ [];
      is = two_pushed olds mids news (Routine id rest v) (ElementsLeft u vs) d k;
      left = λ es l.
          let p = two_left s (Routine id rest v) (ElementsLeft u vs) es l in
          subst (λ q. Steps s id.index (Each u ∷ rest.now) q es) (sym e)
          (each p.one (subst (λ q. Steps s id.index rest.now q p.second) e p.two) p.whole);
      stays = λ es t.
          let p = of_each t in
          let h = p.first in
          emit_more s (Routine id rest v) (ElementsLeft u vs ∷ []) p.steps_after.events p.steps_after.emitted
          (emit_more s (ElementsLeft u vs) [] h.events (subst (λ q. Elements s u.index q h.events) (same_list (sym p.is ∙ e)) h.emitted) (emit_none s));
      less = (let c = inner_at (total s) (abstract v.now) (list (row_of_list (map abstract vs.now))) e in
          let h = room (total s) (Each u) rest.now (abstract v.now) (suc (weights (total s) (row_of_list (map abstract vs.now)))) (omega arith) in omega arith);
    }

    pub sorted_in : (u : TypeId) (mids news : List Frame) (vs : Bor (List Value))
        → abstract v.now ≡ list (row_of_list (map abstract vs.now))
        → mids ≡ olds ++ Routine id rest v ∷ [] → news ≡ mids ++ SortedLeft u vs ∷ []
        → ReplacedBy s id.index (EachSorted u ∷ rest.now) (abstract v.now) [] olds news
    sorted_in u mids news vs e d k = record {
      pushed = Routine id rest v ∷ SortedLeft u vs ∷ [];
      is = two_pushed olds mids news (Routine id rest v) (SortedLeft u vs) d k;
      left = λ es l.
          let p = two_left s (Routine id rest v) (SortedLeft u vs) es l in
          subst (λ q. Steps s id.index (EachSorted u ∷ rest.now) q es) (sym e)
          (each_sorted p.one (subst (λ q. Steps s id.index rest.now q p.second) e p.two) p.whole);
      stays = λ es t.
          let p = of_sorted t in
          let h = p.first in
          emit_more s (Routine id rest v) (SortedLeft u vs ∷ []) p.steps_after.events p.steps_after.emitted
          (emit_more s (SortedLeft u vs) [] h.events (subst (λ q. SortedElements s u.index q h.events) (same_list (sym p.is ∙ e)) h.emitted) (emit_none s));
      less = (let c = inner_at (total s) (abstract v.now) (list (row_of_list (map abstract vs.now))) e in
          let h = room (total s) (EachSorted u) rest.now (abstract v.now) (suc (weights (total s) (row_of_list (map abstract vs.now)))) (omega arith) in omega arith);
    }

    -- an alternative
    pub choice_in : (n i : ℕ) (u : TypeId) (steps_after ss : Bor (List Step)) (w : Bor Value) (mids news : List Frame)
        → i < n
        → abstract v.now ≡ alternative i (abstract w.now)
        → slice_get rest.now i ≡ Some (Call u)
        → steps_after.now ≡ drop n rest.now → length (drop n rest.now) ≤ length rest.now → ss.now ≡ routine_at s u.index
        → mids ≡ olds ++ Routine id steps_after v ∷ [] → news ≡ mids ++ Routine u ss w ∷ []
        → ReplacedBy s id.index (Pick n ∷ rest.now) (abstract v.now) [] olds news
    choice_in n i u steps_after ss w mids news lt e at b few f d k = record {
      pushed = Routine id steps_after v ∷ Routine u ss w ∷ [];
      is = two_pushed olds mids news (Routine id steps_after v) (Routine u ss w) d k;
      left = λ es l.
          let p = two_left s (Routine id steps_after v) (Routine u ss w) es l in
          subst (λ q. Steps s id.index (Pick n ∷ rest.now) q es) (sym e)
          (pick lt at (subst (λ q. Steps s u.index q (abstract w.now) p.first) f p.one) (subst (λ q. Steps s id.index q (alternative i (abstract w.now)) p.second) b (subst (λ q. Steps s id.index steps_after.now q p.second) e p.two)) p.whole);
      stays = λ es t.
          let p = of_pick t in
          let h = called_type e at p in
          emit_more s (Routine id steps_after v) (Routine u ss w ∷ []) p.steps_after.events (subst (λ q. Steps s id.index q (abstract v.now) p.steps_after.events) (sym b) p.steps_after.emitted)
          (emit_more s (Routine u ss w) [] h.events (subst (λ q. Steps s u.index q (abstract w.now) h.events) (sym f) h.emitted) (emit_none s));
      less =
          let c = inner_at (total s) (abstract v.now) (alternative i (abstract w.now)) e in
          let a = held_weight s u ss.now (abstract w.now) f in
          let q = ap length b in
          let h = room_fewer (total s) (Pick n) steps_after.now rest.now (abstract v.now) (steps_weight (total s) ss.now (abstract w.now)) (omega arith) (omega arith) in omega arith;
    }

  -- the next element
  pub element_in : (mids news : List Frame) (ss : Bor (List Step)) (w : Bor Value) (vs us : Bor (List Value))
      → vs.now ≡ w.now ∷ us.now
      → ss.now ≡ routine_at s id.index
      → mids ≡ olds ++ ElementsLeft id us ∷ [] → news ≡ mids ++ Routine id ss w ∷ []
      → Replaced s (Elements s id.index (row_of_list (map abstract vs.now)))
      (suc (weights (total s) (row_of_list (map abstract vs.now)))) [] olds news
  element_in mids news ss w vs us e f d k = record {
    pushed = ElementsLeft id us ∷ Routine id ss w ∷ [];
    is = two_pushed olds mids news (ElementsLeft id us) (Routine id ss w) d k;
    left = λ es l.
        let p = two_left s (ElementsLeft id us) (Routine id ss w) es l in
        subst (λ q. Elements s id.index (row_of_list (map abstract q)) es) (sym e)
        (element (subst (λ q. Steps s id.index q (abstract w.now) p.first) f p.one) p.two p.whole);
    stays = λ es t.
        let p = of_element (subst (λ q. Elements s id.index (row_of_list (map abstract q)) es) e t) in
        let h = p.first in
        emit_more s (ElementsLeft id us) (Routine id ss w ∷ []) p.others.events p.others.emitted
        (emit_more s (Routine id ss w) [] h.events (subst (λ q. Steps s id.index q (abstract w.now) h.events) (sym f) h.emitted) (emit_none s));
    less =
        let a = held_weight s id ss.now (abstract w.now) f in
        let b = ap (λ q. weights (total s) (row_of_list (map abstract q))) e in omega arith;
  }

  pub part_in : (mids lates news : List Frame) (ss : Bor (List Step)) (w : Bor Value) (vs us : Bor (List Value))
      → vs.now ≡ w.now ∷ us.now
      → ss.now ≡ routine_at s id.index
      → mids ≡ olds ++ SortedLeft id us ∷ [] → lates ≡ mids ++ EndOfMember 0 ∷ [] → news ≡ lates ++ Routine id ss w ∷ []
      → Replaced s (SortedElements s id.index (row_of_list (map abstract vs.now)))
      (suc (weights (total s) (row_of_list (map abstract vs.now)))) [] olds news
  part_in mids lates news ss w vs us e f d b k = record {
    pushed = SortedLeft id us ∷ EndOfMember 0 ∷ Routine id ss w ∷ [];
    is = three_pushed olds mids lates news (SortedLeft id us) (EndOfMember 0) (Routine id ss w) d b k;
    left = λ es l.
        let p = three_left s (SortedLeft id us) (EndOfMember 0) (Routine id ss w) es l in
        subst (λ q. SortedElements s id.index (row_of_list (map abstract q)) es) (sym e)
        (part (subst (λ q. Steps s id.index q (abstract w.now) p.first) f p.one) p.three (p.whole ∙ ap (λ q. p.first ++ (q ++ p.third)) p.two));
    stays = λ es t.
        let p = of_part (subst (λ q. SortedElements s id.index (row_of_list (map abstract q)) es) e t) in
        let h = p.first in
        emit_more s (SortedLeft id us) (EndOfMember 0 ∷ Routine id ss w ∷ []) p.others.events p.others.emitted
        (emit_more s (EndOfMember 0) (Routine id ss w ∷ []) (ends_member 0 ∷ []) refl
        (emit_more s (Routine id ss w) [] h.events (subst (λ q. Steps s id.index q (abstract w.now) h.events) (sym f) h.emitted) (emit_none s)));
    less =
        let a = held_weight s id ss.now (abstract w.now) f in
        let c = ap (λ q. weights (total s) (row_of_list (map abstract q))) e in omega arith;
  }

  pub none_in : (T : List Event → Type 0) (w : ℕ) → T [] → 0 < w → Replaced s T w [] olds olds
  none_in T w t h = record { pushed = []; is = sym (append-nil olds); left = λ es l. subst T (sym l) t; stays = λ es d. emit_none s; less = h }
