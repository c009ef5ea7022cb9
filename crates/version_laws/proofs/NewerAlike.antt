-- Values of an earlier version that are alike are, widened, alike under the later type.
use Rattle.std.proofs.Common.{◌≡◌, ℕ, zero, suc, ◌<◌, List, ◌++◌, length, refl, sym, ap, subst, ◌∙◌}
use Rattle.std.specs.Prelude.{slice_get, Some, None}
use Rattle.std.specs.List.{AllByRecursion}
use Rattle.asn_base.specs.declared.tag.Tag.{Tag}
use Rattle.asn_base.specs.Abstract.{AbstractValue, fields, list, alternative, Row}
use Rattle.asn_base.specs.Types.{Alternative, Kind, Component, Resolved, Is}
use Rattle.asn_base.specs.Typed.{ValueIn, value_in, ValueOf, of_leaf, of_sequence, of_set, of_sequence_of, of_set_of, of_choice, AreComponents, component_absent, component_present, AreElements, one_element}
use Rattle.asn_base.specs.Same.{IsLeaf, Inserted, here, there, Alike, alike, AlikeBy, equal, zeros, alike_sequence, alike_set, alike_sequence_of, alike_set_of, alike_choice, AlikeComponents, no_components, both_absent, both_present, first_default, second_default, AlikeElements, no_elements, alike_element, AlikeInAnyOrder, none_left, pair}
use Rattle.asn_base.specs.Schemas.{HasValue, IsSchema, IsSound, types_in}
use Rattle.later_versions.specs.Projected.{members_of, projected}
use Rattle.later_versions.specs.Later.{IsLaterKind, later_boolean, later_integer, later_enumerated, later_bit_string, later_named_bits, later_octet_string, later_null, later_object_identifier, later_relative_oid, later_utf8_string, later_restricted_string, later_sequence, later_set, later_sequence_of, later_set_of, later_choice, Later}
use Rattle.version_laws.specs.Lifted.{lifted, lifted_row, lifted_elements}
use Rattle.version_laws.proofs.Beside.{later_here, members_are, later_members, LaterMembers, types, Beside, appended, beside, beside_of}
use Rattle.version_laws.proofs.Apart.{mapped, HasType, type_there}
use Rattle.version_laws.proofs.Places.{element_at, member_at}
use Rattle.version_laws.proofs.Alikes.{Laws}
use Rattle.version_laws.proofs.Back.{is_there, same_kind, other_choice, again}
use Rattle.version_laws.proofs.Newer.{none_alike, later_default, levels_of, kept_levels}

leaf_too : {s : List Resolved} {k k' : Kind} → IsLaterKind s k k' → IsLeaf k → IsLeaf k'
leaf_too later_boolean h = h
leaf_too (later_integer q) h = h
leaf_too (later_enumerated q) h = h
leaf_too (later_bit_string q) h = h
leaf_too (later_named_bits q) h = h
leaf_too (later_octet_string q) h = h
leaf_too later_null h = h
leaf_too later_object_identifier h = h
leaf_too later_relative_oid h = h
leaf_too (later_utf8_string q) h = h
leaf_too (later_restricted_string q) h = h
leaf_too (later_sequence a) h = absurd h
leaf_too (later_set a) h = absurd h
leaf_too (later_sequence_of q) h = absurd h
leaf_too (later_set_of q) h = absurd h
leaf_too (later_choice q f) h = absurd h

fields_alike : {s' : List Resolved} {k : Kind} {us us' : List ℕ} (vs ws : Row) → us' ≡ us → AlikeBy s' k (fields (lifted_row s' us vs)) (fields (lifted_row s' us ws)) → AlikeBy s' k (fields (lifted_row s' us' vs)) (fields (lifted_row s' us' ws))
fields_alike {s'} {k} {us} {us'} vs ws e a = subst (λ y. AlikeBy s' k (fields (lifted_row s' y vs)) (fields (lifted_row s' y ws))) (sym e) a

list_alike : {s' : List Resolved} {k : Kind} {u u' : ℕ} (vs ws : Row) → u' ≡ u → AlikeBy s' k (list (lifted_elements s' u vs)) (list (lifted_elements s' u ws)) → AlikeBy s' k (list (lifted_elements s' u' vs)) (list (lifted_elements s' u' ws))
list_alike {s'} {k} {u} {u'} vs ws e a = subst (λ y. AlikeBy s' k (list (lifted_elements s' y vs)) (list (lifted_elements s' y ws))) (sym e) a

alternative_alike : {s' : List Resolved} {k : Kind} {u u' i : ℕ} (v w : AbstractValue) → u' ≡ u → AlikeBy s' k (alternative i (lifted s' u v)) (alternative i (lifted s' u w)) → AlikeBy s' k (alternative i (lifted s' u' v)) (alternative i (lifted s' u' w))
alternative_alike {s'} {k} {u} {u'} {i} v w e a = subst (λ y. AlikeBy s' k (alternative i (lifted s' y v)) (alternative i (lifted s' y w))) (sym e) a

inserted_widened : (s' : List Resolved) (u' : ℕ) {w : AbstractValue} {ws xs : Row} → Inserted w ws xs → Inserted (lifted s' u' w) (lifted_elements s' u' ws) (lifted_elements s' u' xs)
inserted_widened s' u' here = here
inserted_widened s' u' (there i) = there (inserted_widened s' u' i)

taken_out : {s : List Resolved} {n u : ℕ} {w : AbstractValue} {ws xs : Row} → Inserted w ws xs → AreElements s n u xs → ValueIn s n u w × AreElements s n u ws
taken_out here (one_element x v) = (x, v)
taken_out (there i) (one_element x v) = let r = taken_out i v in (r.0, one_element x r.1)

pub same_choice : (as' : List Alternative) {a b : Alternative} (i : ℕ) → slice_get as' i ≡ Some a → slice_get as' i ≡ Some b → a.type ≡ b.type
same_choice as' i e f = ap (λ o. elim o [ None ↦ 0 | Some y ↦ y.type ]) (sym e ∙ f)

abbrev pub WidensAlike : List Resolved → List Resolved → ℕ → Type 0
WidensAlike s s' n = (t t' : ℕ) (v w : AbstractValue) → Later s t s' t' → HasType s' t' → ValueIn s n t v → ValueIn s n t w → Alike s t v w → Alike s' t' (lifted s' t' v) (lifted s' t' w)

module _ (laws : Laws) (s s' : List Resolved) (schema : IsSchema s') where
  row_alike : {n : ℕ} {cs ds : List Component} {vs ws : Row} → WidensAlike s s' n → Beside s s' cs ds → AllByRecursion (λ c. c.type < length s') ds → AllByRecursion (HasValue s') ds → AlikeComponents s cs vs ws → AreComponents s n cs vs → AreComponents s n cs ws → AlikeComponents s' ds (lifted_row s' (types ds) vs) (lifted_row s' (types ds) ws)
  row_alike go (appended {ds = ds} a) th has no_components v w = none_alike ds
  row_alike go (beside l mk b) th has (both_absent r) (component_absent mv v) (component_absent mw w) =
      both_absent (row_alike go b th.1 has.1 r v w)
  row_alike go (beside {d = d} l mk b) th has (both_present a r) (component_present x v) (component_present y w) =
      both_present (go _ _ _ _ l (type_there s' d.type th.0) x y a) (row_alike go b th.1 has.1 r v w)
  row_alike go (beside {c = c} {d = d} l mk b) th has (first_default {d = e} {w = x} f a r) (component_absent mb v) (component_present y w) =
      let m = later_default mk f in
      let k = kept_levels laws s s' schema m.value m.same (levels_of mb f) in
      let back = laws.turned s c.type e (projected s c.type m.value) m.same.are_alike in
      let whole = again s s' l (has.0 m.value m.is).shaped k m.none_out in
      let one = go _ _ _ _ l (type_there s' d.type th.0) k y (laws.joined s c.type (projected s c.type m.value) e x back a) in
      first_default m.is (subst (λ q. Alike s' d.type q (lifted s' d.type x)) whole one) (row_alike go b th.1 has.1 r v w)
  row_alike go (beside {c = c} {d = d} l mk b) th has (second_default {d = e} {v = x} f a r) (component_present y v) (component_absent mb w) =
      let m = later_default mk f in
      let k = kept_levels laws s s' schema m.value m.same (levels_of mb f) in
      let whole = again s s' l (has.0 m.value m.is).shaped k m.none_out in
      let one = go _ _ _ _ l (type_there s' d.type th.0) y k (laws.joined s c.type x e (projected s c.type m.value) a m.same.are_alike) in
      second_default m.is (subst (λ q. Alike s' d.type (lifted s' d.type x) q) whole one) (row_alike go b th.1 has.1 r v w)

  elements_alike : {n u u' : ℕ} {vs ws : Row} → WidensAlike s s' n → Later s u s' u' → HasType s' u' → AlikeElements s u vs ws → AreElements s n u vs → AreElements s n u ws → AlikeElements s' u' (lifted_elements s' u' vs) (lifted_elements s' u' ws)
  elements_alike go l h no_elements v w = no_elements
  elements_alike go l h (alike_element a r) (one_element x v) (one_element y w) = alike_element (go _ _ _ _ l h x y a) (elements_alike go l h r v w)

  any_order_alike : {n u u' : ℕ} {vs ws : Row} → WidensAlike s s' n → Later s u s' u' → HasType s' u' → AlikeInAnyOrder s u vs ws → AreElements s n u vs → AreElements s n u ws → AlikeInAnyOrder s' u' (lifted_elements s' u' vs) (lifted_elements s' u' ws)
  any_order_alike go l h none_left v w = none_left
  any_order_alike {u' = u'} go l h (pair a r i) (one_element x v) w =
      let y = taken_out i w in
      pair (go _ _ _ _ l h x y.0 a) (any_order_alike go l h r v y.1) (inserted_widened s' u' i)

  kind_alike : {n : ℕ} {k k' : Kind} {v w : AbstractValue} (t' : ℕ) → WidensAlike s s' n → members_of s' t' ≡ types_in k' → LaterMembers s s' (types_in k) (types_in k') → IsLaterKind s k k' → IsSound s' k' → AlikeBy s k v w → ValueOf s n k v → ValueOf s n k w → AlikeBy s' k' (lifted s' t' v) (lifted s' t' w)
  kind_alike t' go q ms kind sound (equal leaf) v w = equal (leaf_too kind leaf)
  kind_alike t' go q ms (later_named_bits x) sound (zeros m n e) v w = zeros m n e
  kind_alike t' go q ms (later_sequence {cs = cs} {ds = ds} a) sound (alike_sequence {vs = vs} {ws = ws} r) (of_sequence v g) (of_sequence w h) =
      let side : Beside s s' cs ds = beside_of cs ds a.front.none_dropped a.front.projected a.appended ms in
      fields_alike vs ws q (alike_sequence (row_alike go side sound.types sound.defaults r v w))
  kind_alike t' go q ms (later_set {cs = cs} {ds = ds} a) sound (alike_set {vs = vs} {ws = ws} r) (of_set v g) (of_set w h) =
      let side : Beside s s' cs ds = beside_of cs ds a.front.none_dropped a.front.projected a.appended ms in
      fields_alike vs ws q (alike_set (row_alike go side sound.0.types sound.0.defaults r v w))
  kind_alike t' go q ms (later_sequence_of {u = u} {v = u'} ls) sound (alike_sequence_of {vs = vs} {ws = ws} r) (of_sequence_of v g) (of_sequence_of w h) =
      list_alike vs ws (element_at s' t' u' q) (alike_sequence_of (elements_alike go (ms 0 u u' refl refl) (type_there s' u' sound.type) r v w))
  kind_alike t' go q ms (later_set_of {u = u} {v = u'} ls) sound (alike_set_of {vs = vs} {ws = ws} r) (of_set_of v g) (of_set_of w h) =
      list_alike vs ws (element_at s' t' u' q) (alike_set_of (any_order_alike go (ms 0 u u' refl refl) (type_there s' u' sound.type) r v w))
  kind_alike {n = n} t' go q ms (later_choice {root = root} {others = others} {more = more} {all = all} names front) sound (alike_choice {i = i} {a = a} {v = x} {w = y} f r) (of_choice g v) (of_choice h w) =
      let b = other_choice {s' = s'} root more others all i names front.none_dropped sound.types f in
      let one = mapped (λ z. z.type) (root ++ more) i f in
      let other = mapped (λ z. z.type) (others ++ all) i b.at in
      let at = member_at s' t' i b.alternative.type (ap (λ z. slice_get z i) q ∙ other) in
      let first = subst (λ u. ValueIn s n u x) (same_choice (root ++ more) i g f) v in
      let second = subst (λ u. ValueIn s n u y) (same_choice (root ++ more) i h f) w in
      alternative_alike x y at (alike_choice b.at (go _ _ _ _ (ms i a.type b.alternative.type one other) b.type first second r))
  kind_alike t' go q ms kind sound (alike_sequence r) (of_leaf f) w = elim f [ ]
  kind_alike t' go q ms kind sound (alike_set r) (of_leaf f) w = elim f [ ]
  kind_alike t' go q ms kind sound (alike_sequence_of r) (of_leaf f) w = elim f [ ]
  kind_alike t' go q ms kind sound (alike_set_of r) (of_leaf f) w = elim f [ ]
  kind_alike t' go q ms kind sound (alike_choice g r) (of_leaf f) w = elim f [ ]
  kind_alike t' go q ms kind sound (alike_sequence r) v (of_leaf f) = elim f [ ]
  kind_alike t' go q ms kind sound (alike_set r) v (of_leaf f) = elim f [ ]
  kind_alike t' go q ms kind sound (alike_sequence_of r) v (of_leaf f) = elim f [ ]
  kind_alike t' go q ms kind sound (alike_set_of r) v (of_leaf f) = elim f [ ]
  kind_alike t' go q ms kind sound (alike_choice g r) v (of_leaf f) = elim f [ ]

  of_kind : {n t : ℕ} {ts : List Tag} {k : Kind} {v : AbstractValue} → Is s t ts k → ValueIn s (suc n) t v → ValueOf s n k v
  of_kind {n} {v = w} i (value_in j v) = subst (λ q. ValueOf s n q w) (same_kind j i) v

  pub alike_widened : (n : ℕ) → WidensAlike s s' n
  alike_widened zero t t' x y l h v w a = elim v [ ]
  alike_widened (suc n) t t' x y l h v w (alike i a) =
      let j = is_there h in
      alike j (kind_alike t' (alike_widened n) (members_are j) (later_members l i j) (later_here l i j).kind (schema.sound _ _ _ j) a (of_kind i v) (of_kind i w))
