-- A widened value of an earlier version is one of the later type. Values that are alike are alike when they are
-- widened. Octets that encode a value of the earlier version encode the widened one under the later type.
use Rattle.std.proofs.Common.{arith, ◌≡◌, ℕ, zero, suc, ◌<◌, ◌≤◌, inl, inr, ℤ, pos, true, false, List, [], ◌∷◌, ◌++◌, length, refl, sym, ap, subst, ◌∙◌}
use Rattle.std.specs.Prelude.{slice_get, Some}
use Rattle.std.specs.List.{AllByRecursion}
use Rattle.asn_base.specs.Abstract.{AbstractValue, fields, list, alternative, Row}
use Rattle.asn_base.specs.Types.{Constraint, Item, Kind, Presence, mandatory, optional, default, addition, Component, Resolved}
use Rattle.asn_base.specs.Typed.{HasNumber, IsAllowedSize, members, IsPrimitive, fits_boolean, fits_integer, fits_enumerated, fits_bits, fits_named_bits, fits_octets, fits_null, fits_oid, fits_relative_oid, fits_utf8, fits_restricted, ValueIn, value_in, ValueOf, of_leaf, of_sequence, of_set, of_sequence_of, of_set_of, of_choice, MayBeAbsent, where_optional, where_default, where_addition, AreComponents, no_component, component_absent, component_present, AreElements, no_element, one_element, IsValue}
use Rattle.asn_base.specs.Same.{AlikeComponents, no_components, both_absent, Same}
use Rattle.asn_base.specs.Schemas.{HasValue, IsSize, IsSchema, IsSound, types_in}
use Rattle.later_versions.specs.Projected.{members_of, projected, left_out}
use Rattle.later_versions.specs.Later.{LeaveSame, IsFront, IsMarkedAlike, both_mandatory, both_optional, both_default, both_additions, IsLaterKind, later_boolean, later_integer, later_enumerated, later_bit_string, later_named_bits, later_octet_string, later_null, later_object_identifier, later_relative_oid, later_utf8_string, later_restricted_string, later_sequence, later_set, later_sequence_of, later_set_of, later_choice, Later}
use Rattle.version_laws.specs.Lifted.{all_absent, lifted, lifted_row, lifted_elements}
use Rattle.version_laws.proofs.Beside.{later_here, members_are, later_members, LaterMembers, types, AreAdditions, Beside, appended, beside, beside_of}
use Rattle.version_laws.proofs.Apart.{nothing, mapped, HasType, type_there}
use Rattle.version_laws.proofs.Places.{element_at, member_at}
use Rattle.version_laws.proofs.Alikes.{Laws}
use Rattle.version_laws.proofs.Back.{is_there, other_choice, again}
use Rattle.version_laws.proofs.Groups.{groups_widened}

-- ---- constraints, items, leaves

numbered : (is : List Item) {z : ℤ} → HasNumber is z → (i : ℕ) × (x : Item) × (slice_get is i ≡ Some x) × (x.number ≡ z)
numbered [] h = absurd h
numbered (x ∷ is) (inl e) = (0, x, refl, e)
numbered (x ∷ is) (inr h) = let r = numbered is h in (suc r.0, r.1, r.2, r.3)

has_number : (is : List Item) (i : ℕ) {x : Item} {z : ℤ} → slice_get is i ≡ Some x → x.number ≡ z → HasNumber is z
has_number [] i e f = absurd (nothing e)
has_number (y ∷ is) zero {x} {z} e f = inl (let s : x ≡ y = cc in subst (λ q. q.number ≡ z) s f)
has_number (y ∷ is) (suc i) e f = inr (has_number is i e f)

among_more : (more all : List Item) (z : ℤ) → IsFront (λ i j. i ≡ j) more all → HasNumber more z → HasNumber all z
among_more more all z front h =
    let r = numbered more h in
    let b = there_at all r.0 (omega_front more all r.0 front.none_dropped r.2) in
    has_number all r.0 b.1 (ap (λ q. q.number) (sym (front.projected r.0 r.1 b.0 r.2 b.1)) ∙ r.3)
  where
    there_at : (xs : List Item) (i : ℕ) → i < length xs → (x : Item) × (slice_get xs i ≡ Some x)
    there_at [] i l = absurd (omega (arith, l))
    there_at (x ∷ xs) zero l = (x, refl)
    there_at (x ∷ xs) (suc i) l = there_at xs i (omega (arith, l))

    within_at : (xs : List Item) (i : ℕ) {x : Item} → slice_get xs i ≡ Some x → i < length xs
    within_at [] i e = absurd (nothing e)
    within_at (y ∷ xs) zero e = omega arith
    within_at (y ∷ xs) (suc i) e = let l = within_at xs i e in omega (arith, l)

    omega_front : (xs ys : List Item) (i : ℕ) {x : Item} → length xs ≤ length ys → slice_get xs i ≡ Some x → i < length ys
    omega_front xs ys i l e = let m = within_at xs i e in omega (arith, l, m)

among : (root more all : List Item) (z : ℤ) → IsFront (λ i j. i ≡ j) more all → HasNumber (root ++ more) z → HasNumber (root ++ all) z
among [] more all z front h = among_more more all z front h
among (x ∷ root) more all z front (inl e) = inl e
among (x ∷ root) more all z front (inr h) = inr (among root more all z front h)

size_same : {c d : Constraint} (n : ℕ) → LeaveSame IsSize c d → IsAllowedSize c n → IsAllowedSize d n
size_same n q a = (q.allowed (pos n) tt).0 a

leaf_newer : {s : List Resolved} {k k' : Kind} {v : AbstractValue} {n : ℕ} (s' : List Resolved) (t' : ℕ) → IsLaterKind s k k' → IsPrimitive k v → ValueOf s' n k' (lifted s' t' v)
leaf_newer s' t' later_boolean fits_boolean = of_leaf fits_boolean
leaf_newer s' t' (later_integer q) (fits_integer {z = z} a b) = of_leaf (fits_integer a ((q.allowed z tt).0 b))
leaf_newer s' t' (later_enumerated {root = root} {more = more} {all = all} q) (fits_enumerated {z = z} a b) = of_leaf (fits_enumerated a (among root more all z q b))
leaf_newer s' t' (later_bit_string q) (fits_bits {s = x} a) = of_leaf (fits_bits (size_same _ q a))
leaf_newer s' t' (later_named_bits q) fits_named_bits = of_leaf fits_named_bits
leaf_newer s' t' (later_octet_string q) (fits_octets a b) = of_leaf (fits_octets a (size_same _ q b))
leaf_newer s' t' later_null fits_null = of_leaf fits_null
leaf_newer s' t' later_object_identifier (fits_oid a) = of_leaf (fits_oid a)
leaf_newer s' t' later_relative_oid (fits_relative_oid a) = of_leaf (fits_relative_oid a)
leaf_newer s' t' (later_utf8_string q) (fits_utf8 a b) = of_leaf (fits_utf8 a (size_same _ q b))
leaf_newer s' t' (later_restricted_string q) (fits_restricted a b) = of_leaf (fits_restricted a (size_same _ q b))
leaf_newer s' t' (later_sequence q) f = elim f [ ]
leaf_newer s' t' (later_set q) f = elim f [ ]
leaf_newer s' t' (later_sequence_of q) f = elim f [ ]
leaf_newer s' t' (later_set_of q) f = elim f [ ]
leaf_newer s' t' (later_choice q f) g = elim g [ ]

members_widened : {s : List Resolved} {n u : ℕ} {vs : Row} (s' : List Resolved) (u' : ℕ) → AreElements s n u vs → members (lifted_elements s' u' vs) ≡ members vs
members_widened s' u' no_element = refl
members_widened s' u' (one_element x v) = ap suc (members_widened s' u' v)

-- ---- additions that were appended

addition_absent : {s' : List Resolved} {n t : ℕ} (p : Presence) → (elim p [ mandatory ↦ false | optional ↦ false | default d ↦ false | addition o g ↦ true ]) ≡ true → MayBeAbsent s' n t p
addition_absent mandatory e = absurd (let f : false ≡ true = e in cc)
addition_absent optional e = where_optional
addition_absent (default d) e = absurd (let f : false ≡ true = e in cc)
addition_absent (addition o g) e = where_addition

none_present : {s' : List Resolved} {n : ℕ} (ds : List Component) → AreAdditions ds → AreComponents s' n ds (all_absent (types ds))
none_present [] a = no_component
none_present (d ∷ ds) a = component_absent (addition_absent d.presence a.0) (none_present ds a.1)

pub none_alike : {s' : List Resolved} (ds : List Component) → AlikeComponents s' ds (all_absent (types ds)) (all_absent (types ds))
none_alike [] = no_components
none_alike (d ∷ ds) = both_absent (none_alike ds)

-- the default of the later version
pub record LaterDefault (s : List Resolved) (t : ℕ) (q : Presence) (d : AbstractValue) : Type 0 where
  pub value : AbstractValue
  pub is : q ≡ default value
  pub none_out : left_out s t value ≡ 0
  pub same : Same s t d (projected s t value)

pub later_default : {s : List Resolved} {t : ℕ} {p q : Presence} {d : AbstractValue} → IsMarkedAlike s t p q → p ≡ default d → LaterDefault s t q d
later_default both_mandatory f = absurd (cc)
later_default both_optional f = absurd (cc)
later_default {s} {t} {p} {q} {d} (both_default {d = x} {e = e} z sm) f =
    let g : x ≡ d = cc in record { value = e; is = refl; none_out = z; same = subst (λ w. Same s t w (projected s t e)) g sm }
later_default both_additions f = absurd (cc)

pub levels_of : {s : List Resolved} {n t : ℕ} {p : Presence} {d : AbstractValue} → MayBeAbsent s n t p → p ≡ default d → ValueIn s n t d
levels_of {s} {n} {t} (where_default {d = x} v) e = let g : x ≡ _ = cc in subst (ValueIn s n t) g v
levels_of a e = absurd (cc)

-- ---- values

fields_at : {s' : List Resolved} {n : ℕ} {k : Kind} {us us' : List ℕ} (vs : Row) → us' ≡ us → ValueOf s' n k (fields (lifted_row s' us vs)) → ValueOf s' n k (fields (lifted_row s' us' vs))
fields_at {s'} {n} {k} {us} {us'} vs e v = subst (λ y. ValueOf s' n k (fields (lifted_row s' y vs))) (sym e) v

list_at : {s' : List Resolved} {n : ℕ} {k : Kind} {u u' : ℕ} (vs : Row) → u' ≡ u → ValueOf s' n k (list (lifted_elements s' u vs)) → ValueOf s' n k (list (lifted_elements s' u' vs))
list_at {s'} {n} {k} {u} {u'} vs e v = subst (λ y. ValueOf s' n k (list (lifted_elements s' y vs))) (sym e) v

alternative_at : {s' : List Resolved} {n : ℕ} {k : Kind} {u u' i : ℕ} (v : AbstractValue) → u' ≡ u → ValueOf s' n k (alternative i (lifted s' u v)) → ValueOf s' n k (alternative i (lifted s' u' v))
alternative_at {s'} {n} {k} {u} {u'} {i} v e x = subst (λ y. ValueOf s' n k (alternative i (lifted s' y v))) (sym e) x

-- members of a type of at most n levels are, widened, of the later one
abbrev pub Widens : List Resolved → List Resolved → ℕ → Type 0
Widens s s' n = (t t' : ℕ) (v : AbstractValue) → Later s t s' t' → HasType s' t' → ValueIn s n t v → ValueIn s' n t' (lifted s' t' v)

module _ (laws : Laws) (s s' : List Resolved) (schema : IsSchema s') where
  pub kept_levels : {t n : ℕ} {d : AbstractValue} (e : AbstractValue) → Same s t d (projected s t e) → ValueIn s n t d → ValueIn s n t (projected s t e)
  kept_levels {t} {n} {d} e m v = laws.levels s 64 n t d (projected s t e) m.are_alike v m.second

  absent_widened : {n t t' : ℕ} {p q : Presence} → Widens s s' n → Later s t s' t' → HasType s' t' → IsMarkedAlike s t p q → ((e : AbstractValue) → q ≡ default e → IsValue s' t' e) → MayBeAbsent s n t p → MayBeAbsent s' n t' q
  absent_widened go l h both_mandatory has mb = elim mb [ ]
  absent_widened go l h both_optional has mb = where_optional
  absent_widened {n = n} {t' = t'} go l h (both_default {e = e} z m) has (where_default v) =
      let k = kept_levels e m v in
      where_default (subst (ValueIn s' n t') (again s s' l (has e refl).shaped k z) (go _ t' _ l h k))
  absent_widened go l h both_additions has mb = where_addition

  row_widened : {n : ℕ} {cs ds : List Component} {vs : Row} → Widens s s' n → Beside s s' cs ds → AllByRecursion (λ c. c.type < length s') ds → AllByRecursion (HasValue s') ds → AreComponents s n cs vs → AreComponents s' n ds (lifted_row s' (types ds) vs)
  row_widened go (appended {ds = ds} a) th has no_component = none_present ds a
  row_widened go (beside {d = d} l mk b) th has (component_absent mb v) =
      component_absent (absent_widened go l (type_there s' d.type th.0) mk has.0 mb) (row_widened go b th.1 has.1 v)
  row_widened go (beside {d = d} l mk b) th has (component_present x v) =
      component_present (go _ _ _ l (type_there s' d.type th.0) x) (row_widened go b th.1 has.1 v)

  elements_widened : {n u u' : ℕ} {vs : Row} → Widens s s' n → Later s u s' u' → HasType s' u' → AreElements s n u vs → AreElements s' n u' (lifted_elements s' u' vs)
  elements_widened go l h no_element = no_element
  elements_widened go l h (one_element x v) = one_element (go _ _ _ l h x) (elements_widened go l h v)

  kind_widened : {n : ℕ} {k k' : Kind} {v : AbstractValue} (t' : ℕ) → Widens s s' n → members_of s' t' ≡ types_in k' → LaterMembers s s' (types_in k) (types_in k') → IsLaterKind s k k' → IsSound s' k' → ValueOf s n k v → ValueOf s' n k' (lifted s' t' v)
  kind_widened t' go q ms kind sound (of_leaf f) = leaf_newer s' t' kind f
  kind_widened {n = n} t' go q ms (later_sequence {e = e} {cs = cs} {ds = ds} a) sound (of_sequence {vs = vs} v g) =
      let side : Beside s s' cs ds = beside_of cs ds a.front.none_dropped a.front.projected a.appended ms in
      fields_at vs q
      (of_sequence (row_widened go side sound.types sound.defaults v) (groups_widened a side v g))
  kind_widened {n = n} t' go q ms (later_set {cs = cs} {ds = ds} a) sound (of_set {vs = vs} v g) =
      let side : Beside s s' cs ds = beside_of cs ds a.front.none_dropped a.front.projected a.appended ms in
      fields_at vs q
      (of_set (row_widened go side sound.0.types sound.0.defaults v) (groups_widened a side v g))
  kind_widened {n = n} t' go q ms (later_sequence_of {d = d} {u = u} {v = u'} ls) sound (of_sequence_of {vs = vs} v g) =
      list_at vs (element_at s' t' u' q)
      (of_sequence_of (elements_widened go (ms 0 u u' refl refl) (type_there s' u' sound.type) v)
      (subst (IsAllowedSize d) (sym (members_widened s' u' v)) (size_same _ ls g)))
  kind_widened {n = n} t' go q ms (later_set_of {d = d} {u = u} {v = u'} ls) sound (of_set_of {vs = vs} v g) =
      list_at vs (element_at s' t' u' q)
      (of_set_of (elements_widened go (ms 0 u u' refl refl) (type_there s' u' sound.type) v)
      (subst (IsAllowedSize d) (sym (members_widened s' u' v)) (size_same _ ls g)))
  kind_widened {n = n} t' go q ms (later_choice {root = root} {others = others} {more = more} {all = all} names front) sound (of_choice {i = i} {a = a} {v = v} g x) =
      let b = other_choice {s' = s'} root more others all i names front.none_dropped sound.types g in
      let one = mapped (λ y. y.type) (root ++ more) i g in
      let other = mapped (λ y. y.type) (others ++ all) i b.at in
      let at = member_at s' t' i b.alternative.type (ap (λ y. slice_get y i) q ∙ other) in
      alternative_at v at
      (of_choice b.at (go _ _ _ (ms i a.type b.alternative.type one other) b.type x))

  -- by the number of levels, which those of a default are among
  pub value_widened : (n : ℕ) → Widens s s' n
  value_widened zero t t' w l h v = elim v [ ]
  value_widened (suc n) t t' w l h (value_in i v) =
      let j = is_there h in
      value_in j (kind_widened t' (value_widened n) (members_are j) (later_members l i j) (later_here l i j).kind (schema.sound _ _ _ j) v)
