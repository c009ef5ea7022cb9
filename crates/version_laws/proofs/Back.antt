-- The earlier type keeps of a widened value that value. If it leaves nothing out of a value, what it keeps is widened
-- to that value.
use Rattle.std.proofs.Common.{arith, ◌≡◌, ℕ, suc, ◌<◌, ◌≤◌, List, [], ◌∷◌, ◌++◌, length, map, refl, sym, ap, subst, ◌∙◌}
use Rattle.std.specs.Prelude.{slice_get, Some, None}
use Rattle.std.specs.List.{AllByRecursion}
use Rattle.asn_base.specs.declared.tag.Tag.{Tag}
use Rattle.asn_base.specs.Abstract.{AbstractValue, fields, list, alternative, Row, absent, present}
use Rattle.asn_base.specs.Types.{Alternative, Kind, a_null, Component, Resolved, Is}
use Rattle.asn_base.specs.Typed.{IsPrimitive, fits_boolean, fits_integer, fits_enumerated, fits_bits, fits_named_bits, fits_octets, fits_null, fits_oid, fits_relative_oid, fits_utf8, fits_restricted, ValueIn, value_in, ValueOf, of_leaf, of_sequence, of_set, of_sequence_of, of_set_of, of_choice, AreComponents, no_component, component_absent, component_present, AreElements, no_element, one_element, nodes, row_nodes}
use Rattle.asn_base.specs.Schemas.{HasTag, IsSchema, IsSound, types_in}
use Rattle.later_versions.specs.Projected.{members_of, member_of, projected, projected_row, projected_elements, left_out, left_out_of_row, left_out_of_elements}
use Rattle.later_versions.specs.Later.{IsLaterKind, later_sequence, later_set, later_sequence_of, later_set_of, later_choice, Later}
use Rattle.version_laws.specs.Lifted.{all_absent, lifted, lifted_row, lifted_elements}
use Rattle.version_laws.proofs.Beside.{later_here, members_are, later_members, LaterMembers, types, Beside, appended, beside, beside_of}
use Rattle.version_laws.proofs.Apart.{there, within, mapped, all_at, HasType, has_type, type_there, longer}
use Rattle.version_laws.proofs.Places.{element_at, member_at, kept_none}

-- ---- types that are there

pub is_there : {s : List Resolved} {t : ℕ} (h : HasType s t) → Is s t h.0.tags h.0.kind
is_there h = record { found = h.1 }

pub type_of : {s : List Resolved} {t : ℕ} {tags : List Tag} {k : Kind} → Is s t tags k → HasType s t
type_of i = (_, i.found)

pub same_kind : {s : List Resolved} {t : ℕ} {tags tags' : List Tag} {k k' : Kind} → Is s t tags k → Is s t tags' k' → k ≡ k'
same_kind i j = ap (λ o. elim o [ None ↦ a_null | Some r ↦ r.kind ]) (sym i.found ∙ j.found)

-- the alternative of the later version at the same place
pub record Other (s' : List Resolved) (as' : List Alternative) (i : ℕ) : Type 0 where
  pub alternative : Alternative
  pub at : slice_get as' i ≡ Some alternative
  pub type : HasType s' alternative.type

pub other_choice : {s' : List Resolved} {a : Alternative} (root more others all : List Alternative) (i : ℕ)
    → map (λ b. b.name) root ≡ map (λ b. b.name) others
    → length more ≤ length all
    → AllByRecursion (λ b. HasTag s' b.type) (others ++ all)
    → slice_get (root ++ more) i ≡ Some a
    → Other s' (others ++ all) i
other_choice {s'} root more others all i names l th e =
    let b = there (others ++ all) i (longer root others more all i names l (within (root ++ more) i e)) in
    record { alternative = b.0; at = b.1; type = has_type s' b.0.type (all_at (λ z. HasTag s' z.type) (others ++ all) i th b.1) }

-- ---- back from what was widened

pub record Back (s s' : List Resolved) (t t' : ℕ) (v : AbstractValue) : Type 0 where
  pub same : projected s t (lifted s' t' v) ≡ v
  pub none_out : left_out s t (lifted s' t' v) ≡ 0
  pub as_many : nodes (lifted s' t' v) ≡ nodes v

record RowBack (s s' : List Resolved) (us us' : List ℕ) (vs : Row) : Type 0 where
  same : projected_row s us (lifted_row s' us' vs) ≡ vs
  none_out : left_out_of_row s us (lifted_row s' us' vs) ≡ 0
  as_many : row_nodes (lifted_row s' us' vs) ≡ row_nodes vs

record ElementsBack (s s' : List Resolved) (u u' : ℕ) (vs : Row) : Type 0 where
  same : projected_elements s u (lifted_elements s' u' vs) ≡ vs
  none_out : left_out_of_elements s u (lifted_elements s' u' vs) ≡ 0
  as_many : row_nodes (lifted_elements s' u' vs) ≡ row_nodes vs

leaf_back : {s s' : List Resolved} {k : Kind} {v : AbstractValue} (t t' : ℕ) → IsPrimitive k v → Back s s' t t' v
leaf_back t t' fits_boolean = record { same = refl; none_out = refl; as_many = refl }
leaf_back t t' (fits_integer a b) = record { same = refl; none_out = refl; as_many = refl }
leaf_back t t' (fits_enumerated a b) = record { same = refl; none_out = refl; as_many = refl }
leaf_back t t' (fits_bits a) = record { same = refl; none_out = refl; as_many = refl }
leaf_back t t' fits_named_bits = record { same = refl; none_out = refl; as_many = refl }
leaf_back t t' (fits_octets a b) = record { same = refl; none_out = refl; as_many = refl }
leaf_back t t' fits_null = record { same = refl; none_out = refl; as_many = refl }
leaf_back t t' (fits_oid a) = record { same = refl; none_out = refl; as_many = refl }
leaf_back t t' (fits_relative_oid a) = record { same = refl; none_out = refl; as_many = refl }
leaf_back t t' (fits_utf8 a b) = record { same = refl; none_out = refl; as_many = refl }
leaf_back t t' (fits_restricted a b) = record { same = refl; none_out = refl; as_many = refl }

absent_out : (s : List Resolved) (us : List ℕ) → left_out_of_row s [] (all_absent us) ≡ 0
absent_out s [] = refl
absent_out s (u ∷ us) = absent_out s us

absent_nodes : (us : List ℕ) → row_nodes (all_absent us) ≡ 0
absent_nodes [] = refl
absent_nodes (u ∷ us) = absent_nodes us

pair_present : {v w : AbstractValue} {vs ws : Row} → v ≡ w → vs ≡ ws → present v vs ≡ present w ws
pair_present {w = w} {vs = vs} e f = ap (λ q. present q vs) e ∙ ap (λ q. present w q) f

fields_back : {s s' : List Resolved} {us us' : List ℕ} {vs : Row} (t t' : ℕ) → members_of s t ≡ us → members_of s' t' ≡ us' → RowBack s s' us us' vs → Back s s' t t' (fields vs)
fields_back {s} {s'} {us} {us'} {vs} t t' p q r = record {
  same = ap (λ y. fields (projected_row s y (lifted_row s' (members_of s' t') vs))) p ∙ ap (λ y. fields (projected_row s us (lifted_row s' y vs))) q ∙ ap (λ y. fields y) r.same;
  none_out = ap (λ y. left_out_of_row s y (lifted_row s' (members_of s' t') vs)) p ∙ ap (λ y. left_out_of_row s us (lifted_row s' y vs)) q ∙ r.none_out;
  as_many = ap (λ y. suc (row_nodes (lifted_row s' y vs))) q ∙ ap suc r.as_many;
}

list_back : {s s' : List Resolved} {u u' : ℕ} {vs : Row} (t t' : ℕ) → member_of s t 0 ≡ u → member_of s' t' 0 ≡ u' → ElementsBack s s' u u' vs → Back s s' t t' (list vs)
list_back {s} {s'} {u} {u'} {vs} t t' p q r = record {
  same = ap (λ y. list (projected_elements s y (lifted_elements s' (member_of s' t' 0) vs))) p ∙ ap (λ y. list (projected_elements s u (lifted_elements s' y vs))) q ∙ ap (λ y. list y) r.same;
  none_out = ap (λ y. left_out_of_elements s y (lifted_elements s' (member_of s' t' 0) vs)) p ∙ ap (λ y. left_out_of_elements s u (lifted_elements s' y vs)) q ∙ r.none_out;
  as_many = ap (λ y. suc (row_nodes (lifted_elements s' y vs))) q ∙ ap suc r.as_many;
}

alternative_back : {s s' : List Resolved} {u u' : ℕ} {v : AbstractValue} (t t' i : ℕ) → member_of s t i ≡ u → member_of s' t' i ≡ u' → Back s s' u u' v → Back s s' t t' (alternative i v)
alternative_back {s} {s'} {u} {u'} {v} t t' i p q r = record {
  same = ap (λ y. alternative i (projected s y (lifted s' (member_of s' t' i) v))) p ∙ ap (λ y. alternative i (projected s u (lifted s' y v))) q ∙ ap (λ y. alternative i y) r.same;
  none_out = ap (λ y. left_out s y (lifted s' (member_of s' t' i) v)) p ∙ ap (λ y. left_out s u (lifted s' y v)) q ∙ r.none_out;
  as_many = ap (λ y. suc (nodes (lifted s' y v))) q ∙ ap suc r.as_many;
}

module _ (s s' : List Resolved) (schema : IsSchema s') where
  mutual
    pub back : {t t' n : ℕ} {v : AbstractValue} → Later s t s' t' → HasType s' t' → ValueIn s n t v → Back s s' t t' v
    back {t} {t'} l h (value_in i v) =
        let j = is_there h in
        back_of t t' (members_are i) (members_are j) (later_members l i j) (later_here l i j).kind v (schema.sound _ _ _ j)

    back_of : {k k' : Kind} {n : ℕ} {v : AbstractValue} (t t' : ℕ) → members_of s t ≡ types_in k → members_of s' t' ≡ types_in k' → LaterMembers s s' (types_in k) (types_in k') → IsLaterKind s k k' → ValueOf s n k v → IsSound s' k' → Back s s' t t' v
    back_of t t' p q ms kind (of_leaf f) sound = leaf_back t t' f
    back_of t t' p q ms (later_sequence {cs = cs} {ds = ds} a) (of_sequence v g) sound =
        fields_back t t' p q (row_back (beside_of cs ds a.front.none_dropped a.front.projected a.appended ms) v sound.types)
    back_of t t' p q ms (later_set {cs = cs} {ds = ds} a) (of_set v g) sound =
        fields_back t t' p q (row_back (beside_of cs ds a.front.none_dropped a.front.projected a.appended ms) v sound.0.types)
    back_of t t' p q ms (later_sequence_of {u = u} {v = u'} ls) (of_sequence_of v g) sound =
        list_back t t' (element_at s t u p) (element_at s' t' u' q) (elements_back (ms 0 u u' refl refl) (type_there s' u' sound.type) v)
    back_of t t' p q ms (later_set_of {u = u} {v = u'} ls) (of_set_of v g) sound =
        list_back t t' (element_at s t u p) (element_at s' t' u' q) (elements_back (ms 0 u u' refl refl) (type_there s' u' sound.type) v)
    back_of t t' p q ms (later_choice {root = root} {others = others} {more = more} {all = all} names front) (of_choice {i = i} {a = a} g v) sound =
        let b = other_choice {s' = s'} root more others all i names front.none_dropped sound.types g in
        let one = mapped (λ y. y.type) (root ++ more) i g in
        let other = mapped (λ y. y.type) (others ++ all) i b.at in
        alternative_back t t' i (member_at s t i a.type (ap (λ y. slice_get y i) p ∙ one)) (member_at s' t' i b.alternative.type (ap (λ y. slice_get y i) q ∙ other))
        (back (ms i a.type b.alternative.type one other) b.type v)

    row_back : {cs ds : List Component} {n : ℕ} {vs : Row} → Beside s s' cs ds → AreComponents s n cs vs → AllByRecursion (λ c. c.type < length s') ds → RowBack s s' (types cs) (types ds) vs
    row_back (appended {ds = ds} a) no_component th =
        record { same = kept_none s (all_absent (types ds)); none_out = absent_out s (types ds); as_many = absent_nodes (types ds) }
    row_back (beside {d = d} l mk b) (component_absent mb v) th =
        let r = row_back b v th.1 in
        record { same = ap (λ y. absent y) r.same; none_out = r.none_out; as_many = r.as_many }
    row_back (beside {d = d} l mk b) (component_present x v) th =
        let one = back l (type_there s' d.type th.0) x in
        let r = row_back b v th.1 in
        let p = one.none_out in
        let q = r.none_out in
        let m = one.as_many in
        let n = r.as_many in
        record { same = pair_present one.same r.same; none_out = omega (arith, p, q); as_many = omega (arith, m, n) }

    elements_back : {u u' n : ℕ} {vs : Row} → Later s u s' u' → HasType s' u' → AreElements s n u vs → ElementsBack s s' u u' vs
    elements_back l h no_element = record { same = refl; none_out = refl; as_many = refl }
    elements_back l h (one_element x v) =
        let one = back l h x in
        let r = elements_back l h v in
        let p = one.none_out in
        let q = r.none_out in
        let m = one.as_many in
        let n = r.as_many in
        record { same = pair_present one.same r.same; none_out = omega (arith, p, q); as_many = omega (arith, m, n) }

-- ---- again what it was

no_addition_left : (s : List Resolved) (v : AbstractValue) (vs : Row) → left_out_of_row s [] (present v vs) ≡ 0 → ⊥
no_addition_left s v vs z = absurd (omega (arith, z))

all_absent_is : (s : List Resolved) {s' : List Resolved} {n : ℕ} {ds : List Component} {vs : Row} → AreComponents s' n ds vs → left_out_of_row s [] vs ≡ 0 → all_absent (types ds) ≡ vs
all_absent_is s no_component z = refl
all_absent_is s (component_absent mb v) z = ap (λ y. absent y) (all_absent_is s v z)
all_absent_is s (component_present {v = w} {vs = vs} x v) z = absurd (no_addition_left s w vs z)

leaf_again : {k : Kind} {v : AbstractValue} (s s' : List Resolved) (t t' : ℕ) → IsPrimitive k v → lifted s' t' (projected s t v) ≡ v
leaf_again s s' t t' fits_boolean = refl
leaf_again s s' t t' (fits_integer a b) = refl
leaf_again s s' t t' (fits_enumerated a b) = refl
leaf_again s s' t t' (fits_bits a) = refl
leaf_again s s' t t' fits_named_bits = refl
leaf_again s s' t t' (fits_octets a b) = refl
leaf_again s s' t t' fits_null = refl
leaf_again s s' t t' (fits_oid a) = refl
leaf_again s s' t t' (fits_relative_oid a) = refl
leaf_again s s' t t' (fits_utf8 a b) = refl
leaf_again s s' t t' (fits_restricted a b) = refl

module _ (s s' : List Resolved) where
  mutual
    -- the later value first, which gives the shape
    pub again : {t t' n m : ℕ} {e : AbstractValue} → Later s t s' t' → ValueIn s' m t' e → ValueIn s n t (projected s t e) → left_out s t e ≡ 0 → lifted s' t' (projected s t e) ≡ e
    again {t} {t'} l (value_in j y) (value_in i x) z =
        again_of t t' (members_are i) (members_are j) (later_members l i j) (later_here l i j).kind y x z

    again_of : {k k' : Kind} {n m : ℕ} {e : AbstractValue} (t t' : ℕ) → members_of s t ≡ types_in k → members_of s' t' ≡ types_in k' → LaterMembers s s' (types_in k) (types_in k') → IsLaterKind s k k' → ValueOf s' m k' e → ValueOf s n k (projected s t e) → left_out s t e ≡ 0 → lifted s' t' (projected s t e) ≡ e
    again_of t t' p q ms kind (of_leaf f) x z = leaf_again s s' t t' f
    again_of {n = n} t t' p q ms (later_sequence {cs = cs} {ds = ds} a) (of_sequence {vs = vs} y h) (of_sequence x g) z =
        let side : Beside s s' cs ds = beside_of cs ds a.front.none_dropped a.front.projected a.appended ms in
        let r = row_again side y (subst (λ w. AreComponents s n cs (projected_row s w vs)) p x) (subst (λ w. left_out_of_row s w vs ≡ 0) p z) in
        ap (λ w. fields (lifted_row s' w (projected_row s (members_of s t) vs))) q ∙ ap (λ w. fields (lifted_row s' (types ds) (projected_row s w vs))) p ∙ ap (λ w. fields w) r
    again_of {n = n} t t' p q ms (later_set {cs = cs} {ds = ds} a) (of_set {vs = vs} y h) (of_set x g) z =
        let side : Beside s s' cs ds = beside_of cs ds a.front.none_dropped a.front.projected a.appended ms in
        let r = row_again side y (subst (λ w. AreComponents s n cs (projected_row s w vs)) p x) (subst (λ w. left_out_of_row s w vs ≡ 0) p z) in
        ap (λ w. fields (lifted_row s' w (projected_row s (members_of s t) vs))) q ∙ ap (λ w. fields (lifted_row s' (types ds) (projected_row s w vs))) p ∙ ap (λ w. fields w) r
    again_of {n = n} t t' p q ms (later_sequence_of {u = u} {v = u'} ls) (of_sequence_of {vs = vs} y h) (of_sequence_of x g) z =
        let one = element_at s t u p in
        let other = element_at s' t' u' q in
        let r = elements_again (ms 0 u u' refl refl) y (subst (λ w. AreElements s n u (projected_elements s w vs)) one x) (subst (λ w. left_out_of_elements s w vs ≡ 0) one z) in
        ap (λ w. list (lifted_elements s' w (projected_elements s (member_of s t 0) vs))) other ∙ ap (λ w. list (lifted_elements s' u' (projected_elements s w vs))) one ∙ ap (λ w. list w) r
    again_of {n = n} t t' p q ms (later_set_of {u = u} {v = u'} ls) (of_set_of {vs = vs} y h) (of_set_of x g) z =
        let one = element_at s t u p in
        let other = element_at s' t' u' q in
        let r = elements_again (ms 0 u u' refl refl) y (subst (λ w. AreElements s n u (projected_elements s w vs)) one x) (subst (λ w. left_out_of_elements s w vs ≡ 0) one z) in
        ap (λ w. list (lifted_elements s' w (projected_elements s (member_of s t 0) vs))) other ∙ ap (λ w. list (lifted_elements s' u' (projected_elements s w vs))) one ∙ ap (λ w. list w) r
    again_of {n = n} t t' p q ms (later_choice {root = root} {others = others} {more = more} {all = all} names front) (of_choice {i = i} {a = b} {v = v} h y) (of_choice {a = a} g x) z =
        let here = mapped (λ w. w.type) (root ++ more) i g in
        let over = mapped (λ w. w.type) (others ++ all) i h in
        let one = member_at s t i a.type (ap (λ w. slice_get w i) p ∙ here) in
        let other = member_at s' t' i b.type (ap (λ w. slice_get w i) q ∙ over) in
        let r = again (ms i a.type b.type here over) y (subst (λ w. ValueIn s n a.type (projected s w v)) one x) (subst (λ w. left_out s w v ≡ 0) one z) in
        ap (λ w. alternative i (lifted s' w (projected s (member_of s t i) v))) other ∙ ap (λ w. alternative i (lifted s' b.type (projected s w v))) one ∙ ap (λ w. alternative i w) r
    again_of t t' p q ms (later_sequence a) (of_sequence y h) (of_leaf f) z = elim f [ ]
    again_of t t' p q ms (later_set a) (of_set y h) (of_leaf f) z = elim f [ ]
    again_of t t' p q ms (later_sequence_of ls) (of_sequence_of y h) (of_leaf f) z = elim f [ ]
    again_of t t' p q ms (later_set_of ls) (of_set_of y h) (of_leaf f) z = elim f [ ]
    again_of t t' p q ms (later_choice names front) (of_choice h y) (of_leaf f) z = elim f [ ]

    row_again : {cs ds : List Component} {n m : ℕ} {vs : Row} → Beside s s' cs ds → AreComponents s' m ds vs → AreComponents s n cs (projected_row s (types cs) vs) → left_out_of_row s (types cs) vs ≡ 0 → lifted_row s' (types ds) (projected_row s (types cs) vs) ≡ vs
    row_again {vs = vs} (appended {ds = ds} a) y x z = ap (λ w. lifted_row s' (types ds) w) (kept_none s vs) ∙ all_absent_is s y z
    row_again (beside l mk b) (component_absent mb' y) (component_absent mb x) z = ap (λ w. absent w) (row_again b y x z)
    row_again (beside l mk b) (component_present y ys) (component_present x xs) z =
        pair_present (again l y x (omega (arith, z))) (row_again b ys xs (omega (arith, z)))

    elements_again : {u u' n m : ℕ} {vs : Row} → Later s u s' u' → AreElements s' m u' vs → AreElements s n u (projected_elements s u vs) → left_out_of_elements s u vs ≡ 0 → lifted_elements s' u' (projected_elements s u vs) ≡ vs
    elements_again l no_element x z = refl
    elements_again l (one_element y ys) (one_element x xs) z =
        pair_present (again l y x (omega (arith, z))) (elements_again l ys xs (omega (arith, z)))
