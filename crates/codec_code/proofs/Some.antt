-- The routine of a type has events for each value.
use Rattle.std.proofs.Common.{◌≡◌, ℕ, zero, suc, ◌+◌, ◌<◌, ◌⊎◌, inl, inr, ⊎_elim, Bool, true, false, List, [], ◌∷◌, ◌++◌, length, refl, sym, ap, subst, ◌∙◌, arith, append_assoc}
use Rattle.std.specs.Prelude.{Some, slice_get}
use Rattle.std.specs.List.{AllByRecursion}
use Rattle.asn_base.specs.declared.tag.Tag.{Tag}
use Rattle.asn_base.specs.Abstract.{AbstractValue, null, fields, alternative, Row}
use Rattle.asn_base.specs.Types.{Alternative, Kind, Presence, mandatory, optional, default, addition, Component, Resolved, Is}
use Rattle.asn_base.specs.Typed.{ValueIn, value_in, ValueOf, of_leaf, of_sequence, of_set, of_sequence_of, of_set_of, of_choice, IsPrimitive, MayBeAbsent, where_optional, where_default, where_addition, AreComponents, no_component, component_absent, component_present, AreElements, no_element as no_value, one_element}
use Rattle.asn_base.specs.Same.{Alike, AlikeBy}
use Rattle.asn_base.specs.Schemas.{HasValue, IsSound, IsSchema}
use Rattle.encodings.specs.Rules.{Distinguished}
use Rattle.encodings.specs.Contents.{Contents}
use Rattle.codec_code.specs.declared.step.RowKind.{RowKind}
use Rattle.codec_code.specs.declared.step.Step.{Step}
use Rattle.codec_code.specs.declared.step.Step.TheVariants.{Field as FieldStep, SetComponent as RankedStep}
use Rattle.codec_code.specs.Events.{Event}
use Rattle.codec_code.specs.Routines.{heads, body, ends, fields_from, ranked_from, rest_if, row_of, routine_at, need_of, field_of}
use Rattle.codec_code.specs.Steps.{Steps, finished, head, ending, rest, leaf, left_out, written, ranked_left_out, ranked_written, each, each_sorted, pick, Elements, no_element, element, SortedElements, no_part, part, IsLeftOut, is_absent, is_default, IsWritten, IsDefaultAt, component_at, may_be_absent}
use Rattle.codec_code.proofs.Leaves.{LeafStep, leaf_step}
use Rattle.codec_code.specs.Steps.{IsTheDefault as DefaultIn}
use Rattle.codec_code.proofs.EventsEncode.{default_from, routine_is}
use Rattle.codec_code.specs.proving.Present.{Placed, needs_default, default_in}
use Rattle.codec_code.proofs.RoutineEncodes.{calls_at, calls_over}

pub record Emission (s : List Resolved) (t : ℕ) (ss : List Step) (v : AbstractValue) : Type 0 where
  pub events : List Event
  pub steps : Steps s t ss v events

record TellingElements (s : List Resolved) (u : ℕ) (vs : Row) : Type 0 where
  events : List Event
  steps : Elements s u vs events

record TellingParts (s : List Resolved) (u : ℕ) (vs : Row) : Type 0 where
  events : List Event
  steps : SortedElements s u vs events

emit_ends : {s : List Resolved} {t : ℕ} {v : AbstractValue} (n : ℕ) → Emission s t (ends n) v
emit_ends zero = record { events = _; steps = finished }
emit_ends (suc n) = record { events = _; steps = ending (emit_ends n).steps }

emit_rest : {s : List Resolved} {t : ℕ} {v : AbstractValue} (e : Bool) {ss : List Step} → Emission s t ss v → Emission s t (rest_if e ++ ss) v
emit_rest false d = d
emit_rest true d = record { events = d.events; steps = rest d.steps }

emit_heads : {s : List Resolved} {t : ℕ} {v : AbstractValue} (gs : List Tag) (k : RowKind) {ss : List Step} → Emission s t ss v → Emission s t (heads gs k ++ ss) v
emit_heads [] k d = d
emit_heads (g ∷ []) k d = record { events = _; steps = head d.steps }
emit_heads (g ∷ f ∷ gs) k d = record { events = _; steps = head (emit_heads (f ∷ gs) k d).steps }

-- ---- a component

absent_need : {s : List Resolved} {n t : ℕ} {p : Presence} → MayBeAbsent s n t p → may_be_absent (need_of p) ≡ true
absent_need where_optional = refl
absent_need (where_default v) = refl
absent_need where_addition = refl

default_at : {s : List Resolved} {t i : ℕ} {c : Component} {v : AbstractValue} → Placed s t i c → DefaultIn s c v → IsDefaultAt s t i v
default_at {c = c} p d = record { tags = p.tags; kind = p.kind; is = p.is; component = c; is_at = p.at; is_the_default = d }

left_or_written : {s : List Resolved} {t i : ℕ} {c : Component} {v : AbstractValue} {ws : Row} → Placed s t i c → component_at ws i ≡ Some (Some v) → (DefaultIn s c v ⊎ (DefaultIn s c v → ⊥)) → IsLeftOut s t (field_of i c) ws ⊎ IsWritten s t (field_of i c) ws v
left_or_written p at (inl d) = inl (is_default (needs_default d.has_default) at (default_at p d))
left_or_written p at (inr n) = inr (record { is_at = at; no_default = λ h a. n (default_in p a) })

emit_field : {s : List Resolved} {t i : ℕ} (c : Component) {v : AbstractValue} {ss : List Step} {ws : Row} → IsLeftOut s t (field_of i c) ws ⊎ IsWritten s t (field_of i c) ws v → Emission s c.type (routine_at s c.type) v → Emission s t ss (fields ws) → Emission s t (FieldStep (field_of i c) ∷ ss) (fields ws)
emit_field c (inl l) one d = record { events = _; steps = left_out l d.steps }
emit_field c (inr w) one d = record { events = _; steps = written w one.steps d.steps refl }

emit_set_component : {s : List Resolved} {t i r : ℕ} (c : Component) {v : AbstractValue} {ss : List Step} {ws : Row} → IsLeftOut s t (field_of i c) ws ⊎ IsWritten s t (field_of i c) ws v → Emission s c.type (routine_at s c.type) v → Emission s t ss (fields ws) → Emission s t (RankedStep (field_of i c) r ∷ ss) (fields ws)
emit_set_component c (inl l) one d = record { events = _; steps = ranked_left_out l d.steps }
emit_set_component c (inr w) one d = record { events = _; steps = ranked_written w one.steps d.steps refl }

default_or_not : (p : Presence) → ((d : AbstractValue) × (p ≡ default d)) ⊎ ((d : AbstractValue) → p ≡ default d → ⊥)
default_or_not mandatory = inr (λ d e. cc)
default_or_not optional = inr (λ d e. cc)
default_or_not (default d) = inl (d, refl)
default_or_not (addition o g) = inr (λ d e. cc)

abbrev value_in_presence : Presence → AbstractValue
value_in_presence mandatory = null
value_in_presence optional = null
value_in_presence (default d) = d
value_in_presence (addition o g) = null

-- a place in a list
in_list : (as' : List Alternative) (i : ℕ) (a : Alternative) → slice_get as' i ≡ Some a → i < length as'
in_list [] i a e = absurd (cc)
in_list (x ∷ as') zero a e = omega arith
in_list (x ∷ as') (suc i) a e = let l = in_list as' i a e in omega arith

emit_leaf : {s : List Resolved} {t : ℕ} (n : ℕ) {k : Kind} {v : AbstractValue} → LeafStep s k v → ((w : AbstractValue) × (x : List ℕ) × AlikeBy s k v w × Contents Distinguished k w false x) → Emission s t (body s k ++ ends n) v
emit_leaf {s} {t} n {v = v} l c = subst (λ q. Emission s t (q ++ ends n) v) (sym l.steps) (record { events = _; steps = leaf (l.from c.0 c.1 c.2 c.3) (emit_ends n).steps })

module _ (s : List Resolved) (schema : IsSchema s)
    (turn : (t : ℕ) (v w : AbstractValue) → Alike s t v w → Alike s t w v)
    (follow : (t : ℕ) (v w x : AbstractValue) → Alike s t v w → Alike s t w x → Alike s t v x)
    (levels : (m n t : ℕ) (v w : AbstractValue) → Alike s t v w → ValueIn s n t v → ValueIn s m t w → ValueIn s n t w)
    (decide : (m n t : ℕ) (v w : AbstractValue) → ValueIn s n t v → ValueIn s m t w → Alike s t v w ⊎ (Alike s t v w → ⊥))
    (contents : (k : Kind) (v : AbstractValue) → IsSound s k → IsPrimitive k v → (w : AbstractValue) × (x : List ℕ) × AlikeBy s k v w × Contents Distinguished k w false x) where
  is_default_or_not : {n : ℕ} (c : Component) (v : AbstractValue) → HasValue s c → ValueIn s n c.type v → DefaultIn s c v ⊎ (DefaultIn s c v → ⊥)
  is_default_or_not {n} c v h b = ⊎_elim
      (λ p. ⊎_elim (λ a. inl (default_from s turn follow levels h b p.1 a))
      (λ no'. inr (λ q. no' (subst (Alike s c.type v) (ap value_in_presence (sym q.has_default ∙ p.1)) q.same.are_alike)))
      (decide 64 n c.type v p.0 b (h p.0 p.1).shaped))
      (λ none'. inr (λ q. none' q.value q.has_default))
      (default_or_not c.presence)

  next_place : (i j : ℕ) → i + suc j ≡ suc i + j
  next_place i j = omega arith

  mutual
    pub some : {n t : ℕ} {v : AbstractValue} → ValueIn s n t v → Emission s t (routine_at s t) v
    some {t = t} {v = v} (value_in {tags = tags} {k = k} i a) = subst (λ q. Emission s t q v) (sym (routine_is s t tags k i)) (emit_heads tags (row_of k) (inside i a))

    inside : {n t : ℕ} {tags : List Tag} {k : Kind} {v : AbstractValue} → Is s t tags k → ValueOf s n k v → Emission s t (body s k ++ ends (length tags)) v
    inside {tags = tags} {k = k} {v = v} i (of_leaf f) = emit_leaf (length tags) (leaf_step f) (contents k v (schema.sound _ _ _ i) f)
    inside {t = t} {tags = tags} i (of_sequence {e = e} {cs = cs} {vs = vs} a g) =
        subst (λ q. Emission s t q (fields vs)) (sym (append_assoc (fields_from 0 cs) (rest_if e) (ends (length tags))))
        (of_members vs 0 (schema.sound _ _ _ i).defaults a
        (λ j. ap (component_at vs) (let z : 0 + j ≡ j = omega arith in z))
        (λ j c h. record { tags = tags; kind = _; is = i; at = ap (slice_get cs) (let z : 0 + j ≡ j = omega arith in z) ∙ h })
        (emit_rest e (emit_ends (length tags))))
    inside {t = t} {tags = tags} i (of_set {e = e} {cs = cs} {vs = vs} a g) =
        subst (λ q. Emission s t q (fields vs)) (sym (append_assoc (ranked_from s cs 0 cs) (rest_if e) (ends (length tags))))
        (of_ranked cs vs 0 (schema.sound _ _ _ i).0.defaults a
        (λ j. ap (component_at vs) (let z : 0 + j ≡ j = omega arith in z))
        (λ j c h. record { tags = tags; kind = _; is = i; at = ap (slice_get cs) (let z : 0 + j ≡ j = omega arith in z) ∙ h })
        (emit_rest e (emit_ends (length tags))))
    inside {tags = tags} i (of_sequence_of a z) = record { events = _; steps = each (of_elements a).steps (emit_ends (length tags)).steps refl }
    inside {tags = tags} i (of_set_of a z) = record { events = _; steps = each_sorted (of_parts a).steps (emit_ends (length tags)).steps refl }
    inside {t = t} {tags = tags} i (of_choice {i = j} {root = root} {more = more} {a = a} {v = w} g b) =
        record {
          events = _;
          steps = pick (in_list (root ++ more) j a g) (calls_at (root ++ more) (ends (length tags)) j a g) (some b).steps
              (subst (λ q. Emission s t q (alternative j w)) (sym (calls_over (root ++ more) (ends (length tags)))) (emit_ends (length tags))).steps refl;
        }

    of_members : {n t : ℕ} {cs : List Component} {vs : Row} (ws : Row) (i : ℕ) → AllByRecursion (HasValue s) cs → AreComponents s n cs vs
        → ((j : ℕ) → component_at ws (i + j) ≡ component_at vs j)
        → ((j : ℕ) (c : Component) → slice_get cs j ≡ Some c → Placed s t (i + j) c)
        → {ss : List Step} → Emission s t ss (fields ws) → Emission s t (fields_from i cs ++ ss) (fields ws)
    of_members ws i h no_component at placed d = d
    of_members {n} {t} ws i h (component_absent {c = c} m a) at placed d =
        record {
          events = _;
          steps = left_out (is_absent (absent_need m) (ap (component_at ws) (let z : i ≡ i + 0 = omega arith in z) ∙ at 0))
              (of_members ws (suc i) h.1 a (λ j. ap (component_at ws) (sym (next_place i j)) ∙ at (suc j)) (λ j q e. subst (λ z. Placed s t z q) (next_place i j) (placed (suc j) q e)) d).steps;
        }
    of_members {n} {t} ws i h (component_present {c = c} {v = v} b a) at placed d =
        emit_field c (left_or_written (subst (λ z. Placed s t z c) (let z : i + 0 ≡ i = omega arith in z) (placed 0 c refl)) (ap (component_at ws) (let z : i ≡ i + 0 = omega arith in z) ∙ at 0) (is_default_or_not c v h.0 b))
        (some b)
        (of_members ws (suc i) h.1 a (λ j. ap (component_at ws) (sym (next_place i j)) ∙ at (suc j)) (λ j q e. subst (λ z. Placed s t z q) (next_place i j) (placed (suc j) q e)) d)

    of_ranked : {n t : ℕ} (all : List Component) {cs : List Component} {vs : Row} (ws : Row) (i : ℕ) → AllByRecursion (HasValue s) cs → AreComponents s n cs vs
        → ((j : ℕ) → component_at ws (i + j) ≡ component_at vs j)
        → ((j : ℕ) (c : Component) → slice_get cs j ≡ Some c → Placed s t (i + j) c)
        → {ss : List Step} → Emission s t ss (fields ws) → Emission s t (ranked_from s all i cs ++ ss) (fields ws)
    of_ranked all ws i h no_component at placed d = d
    of_ranked {n} {t} all ws i h (component_absent {c = c} m a) at placed d =
        record {
          events = _;
          steps = ranked_left_out (is_absent (absent_need m) (ap (component_at ws) (let z : i ≡ i + 0 = omega arith in z) ∙ at 0))
              (of_ranked all ws (suc i) h.1 a (λ j. ap (component_at ws) (sym (next_place i j)) ∙ at (suc j)) (λ j q e. subst (λ z. Placed s t z q) (next_place i j) (placed (suc j) q e)) d).steps;
        }
    of_ranked {n} {t} all ws i h (component_present {c = c} {v = v} b a) at placed d =
        emit_set_component c (left_or_written (subst (λ z. Placed s t z c) (let z : i + 0 ≡ i = omega arith in z) (placed 0 c refl)) (ap (component_at ws) (let z : i ≡ i + 0 = omega arith in z) ∙ at 0) (is_default_or_not c v h.0 b))
        (some b)
        (of_ranked all ws (suc i) h.1 a (λ j. ap (component_at ws) (sym (next_place i j)) ∙ at (suc j)) (λ j q e. subst (λ z. Placed s t z q) (next_place i j) (placed (suc j) q e)) d)

    of_elements : {n u : ℕ} {vs : Row} → AreElements s n u vs → TellingElements s u vs
    of_elements no_value = record { events = []; steps = no_element }
    of_elements (one_element b a) = record { events = _; steps = element (some b).steps (of_elements a).steps refl }

    of_parts : {n u : ℕ} {vs : Row} → AreElements s n u vs → TellingParts s u vs
    of_parts no_value = record { events = []; steps = no_part }
    of_parts (one_element b a) = record { events = _; steps = part (some b).steps (of_parts a).steps refl }
