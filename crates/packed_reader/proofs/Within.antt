-- The function that counts levels tells those of values.
use Rattle.std.proofs.Common.{◌≡◌, ℕ, zero, suc, Bool, true, false, List, Some, None, refl, sym, ap, subst, ◌∙◌}
use Rattle.asn_base.specs.declared.tag.Tag.{Tag}
use Rattle.asn_base.specs.Abstract.{AbstractValue, Row}
use Rattle.asn_base.specs.Types.{Kind, a_null, mandatory, optional, default, addition, Presence, TypeNumber, Component, Resolved, Is}
use Rattle.asn_base.specs.Typed.{IsPrimitive, fits_boolean, fits_integer, fits_enumerated, fits_bits, fits_named_bits, fits_octets, fits_null, fits_oid, fits_relative_oid, fits_utf8, fits_restricted, ValueIn, value_in, ValueOf, of_leaf, of_sequence, of_set, of_sequence_of, of_set_of, of_choice, MayBeAbsent, where_optional, where_default, where_addition, AreComponents, no_component, component_absent, component_present, AreElements, no_element, one_element}
use Rattle.asn_base.specs.Schemas.{HasValue}
use Rattle.packed_encodings.specs.Computed.{kind_at, type_of, is_default, DecidesDefaults}
use Rattle.packed_reader.specs.Levels.{may_lack, components_within, elements_within, parts_within, is_within}
use Rattle.packed_encodings.specs.proving.Tests.{true_both, both_true}
use Rattle.packed_reader.proofs.Opening.{not_true}
use Rattle.packed_reader.proofs.Members.{IsDecided}

pub kind_is : {s : List Resolved} {t : ℕ} {tags : List Tag} {k : Kind} → Is s t tags k → kind_at s t ≡ k
kind_is i = ap (λ o. elim o [ None ↦ a_null | Some r ↦ r.kind ]) i.found

-- whether one presence may be absent
abbrev lacks_by : (TypeNumber → AbstractValue → Bool) → TypeNumber → Presence → Bool
lacks_by within t p = elim p [ mandatory ↦ false | optional ↦ true | default d ↦ within t d | addition o g ↦ true ]

module _ (s : List Resolved) (within : TypeNumber → AbstractValue → Bool) (n : ℕ)
    (complete : (t : ℕ) (v : AbstractValue) → ValueIn s n t v → within t v ≡ true) where
  lack_complete : {t : ℕ} {p : Presence} → MayBeAbsent s n t p → lacks_by within t p ≡ true
  lack_complete where_optional = refl
  lack_complete {t} (where_default {d = d} v) = complete t d v
  lack_complete where_addition = refl

  components_complete : {cs : List Component} {vs : Row} → AreComponents s n cs vs → components_within within cs vs ≡ true
  components_complete no_component = refl
  components_complete (component_absent {c = c} {cs = cs} {vs = vs} m a) = both_true (may_lack within c) (components_within within cs vs) (lack_complete m) (components_complete a)
  components_complete (component_present {c = c} {cs = cs} {v = v} {vs = vs} x a) = both_true (within c.type v) (components_within within cs vs) (complete c.type v x) (components_complete a)

  elements_complete : {u : ℕ} {vs : Row} → AreElements s n u vs → elements_within (within u) vs ≡ true
  elements_complete no_element = refl
  elements_complete {u} (one_element {v = v} {vs = vs} x a) = both_true (within u v) (elements_within (within u) vs) (complete u v x) (elements_complete a)

  leaf_within : {k : Kind} {v : AbstractValue} → IsPrimitive k v → parts_within within k v ≡ true
  leaf_within fits_boolean = refl
  leaf_within q = refl

  of_complete : {k : Kind} {v : AbstractValue} → ValueOf s n k v → parts_within within k v ≡ true
  of_complete (of_leaf f) = leaf_within f
  of_complete (of_sequence a g) = components_complete a
  of_complete (of_set a g) = components_complete a
  of_complete (of_sequence_of a z) = elements_complete a
  of_complete (of_set_of a z) = elements_complete a
  of_complete (of_choice {a = a} {v = v} g x) = ap (λ q. within (type_of q) v) g ∙ complete a.type v x

module _ (s : List Resolved) (within : TypeNumber → AbstractValue → Bool) (m n : ℕ)
    (sound : (t : ℕ) (v : AbstractValue) → ValueIn s m t v → within t v ≡ true → ValueIn s n t v) where
  lack_sound : {t : ℕ} {p : Presence} → MayBeAbsent s m t p → lacks_by within t p ≡ true → MayBeAbsent s n t p
  lack_sound where_optional e = where_optional
  lack_sound {t} (where_default {d = d} v) e = where_default (sound t d v e)
  lack_sound where_addition e = where_addition

  components_sound : {cs : List Component} {vs : Row} → AreComponents s m cs vs → components_within within cs vs ≡ true → AreComponents s n cs vs
  components_sound no_component e = no_component
  components_sound (component_absent {c = c} {cs = cs} {vs = vs} q a) e =
      let p = true_both (may_lack within c) (components_within within cs vs) e in
      component_absent (lack_sound q p.0) (components_sound a p.1)
  components_sound (component_present {c = c} {cs = cs} {v = v} {vs = vs} x a) e =
      let p = true_both (within c.type v) (components_within within cs vs) e in
      component_present (sound c.type v x p.0) (components_sound a p.1)

  elements_sound : {u : ℕ} {vs : Row} → AreElements s m u vs → elements_within (within u) vs ≡ true → AreElements s n u vs
  elements_sound no_element e = no_element
  elements_sound {u} (one_element {v = v} {vs = vs} x a) e =
      let p = true_both (within u v) (elements_within (within u) vs) e in
      one_element (sound u v x p.0) (elements_sound a p.1)

  of_sound : {k : Kind} {v : AbstractValue} → ValueOf s m k v → parts_within within k v ≡ true → ValueOf s n k v
  of_sound (of_leaf f) e = of_leaf f
  of_sound (of_sequence a g) e = of_sequence (components_sound a e) g
  of_sound (of_set a g) e = of_set (components_sound a e) g
  of_sound (of_sequence_of a z) e = of_sequence_of (elements_sound a e) z
  of_sound (of_set_of a z) e = of_set_of (elements_sound a e) z
  of_sound (of_choice {a = a} {v = v} g x) e = of_choice g (sound a.type v x (sym (ap (λ q. within (type_of q) v) g) ∙ e))

pub within_complete : (s : List Resolved) (n t : ℕ) (v : AbstractValue) → ValueIn s n t v → is_within s n t v ≡ true
within_complete s zero t v x = elim x [ ]
within_complete s (suc n) t v (value_in i a) = ap (λ q. parts_within (is_within s n) q v) (kind_is i) ∙ of_complete s (is_within s n) n (within_complete s n) a

pub within_sound : (s : List Resolved) (n m t : ℕ) (v : AbstractValue) → ValueIn s m t v → is_within s n t v ≡ true → ValueIn s n t v
within_sound s zero m t v x e = absurd (not_true e)
within_sound s (suc n) zero t v x e = elim x [ ]
within_sound s (suc n) (suc m) t v (value_in i a) e =
    value_in i (of_sound s (is_within s n) m n (λ u w. within_sound s n m u w) a (sym (ap (λ q. parts_within (is_within s n) q v) (kind_is i)) ∙ e))

-- ---- components

one_default : {s : List Resolved} {n t : ℕ} {p : Presence} (d : AbstractValue) → p ≡ default d → ValueIn s n t d → MayBeAbsent s n t p
one_default {s} {n} {t} d e v = subst (MayBeAbsent s n t) (sym e) (where_default v)

pub component_decided : (s : List Resolved) (l : ℕ) (c : Component) → DecidesDefaults s (is_default s) → HasValue s c → IsDecided s l c
component_decided s l c tells h = record {
  default = λ v x d. tells.is_default l c v h x d;
  no_default = λ v x d. tells.no_default l c v h x d;
  lacks = λ e. by c.presence refl e;
  may = λ a. lack_complete s (is_within s l) l (within_complete s l) a;
}
  where
    by : (p : Presence) → c.presence ≡ p → lacks_by (is_within s l) c.type p ≡ true → MayBeAbsent s l c.type c.presence
    by mandatory f e = absurd (not_true e)
    by optional f e = subst (MayBeAbsent s l c.type) (sym f) where_optional
    by (default d) f e = one_default d f (within_sound s l 64 c.type d (h d f).shaped e)
    by (addition o g) f e = subst (MayBeAbsent s l c.type) (sym f) where_addition
