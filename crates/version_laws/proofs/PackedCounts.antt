-- How many additions the earlier type leaves out: none in packed encodings where no component is left out, and as many
-- of values that are the same.
use Rattle.std.proofs.Common.{arith, ◌≡◌, ℕ, suc, ◌+◌, Bool, true, false, cond, List, [], ◌∷◌, ◌++◌, refl, sym, ap, subst, ◌∙◌}
use Rattle.std.specs.Prelude.{slice_get, Option, Some, None}
use Rattle.asn_base.specs.declared.tag.Tag.{Tag}
use Rattle.asn_base.specs.Abstract.{AbstractValue, Row}
use Rattle.asn_base.specs.Types.{Kind, Presence, mandatory, optional, default, addition, Component, Resolved, Is}
use Rattle.asn_base.specs.Typed.{group_of, IsPrimitive, fits_boolean, fits_integer, fits_enumerated, fits_bits, fits_named_bits, fits_octets, fits_null, fits_oid, fits_relative_oid, fits_utf8, fits_restricted, ValueIn, value_in, ValueOf, of_leaf, of_sequence, of_set, of_sequence_of, of_set_of, of_choice, MayBeAbsent, where_default, AreComponents, no_component, component_absent, component_present, AreElements, no_element, one_element}
use Rattle.asn_base.specs.Same.{Inserted, here, there, Alike, alike, AlikeBy, equal, zeros, alike_sequence, alike_set, alike_sequence_of, alike_set_of, alike_choice, AlikeComponents, no_components, both_absent, both_present, first_default, second_default, AlikeElements, no_elements, alike_element, AlikeInAnyOrder, none_left, pair}
use Rattle.asn_base.specs.Schemas.{components, types_in}
use Rattle.later_versions.specs.Projected.{members_of, member_of, projected, projected_row, projected_elements, left_out, left_out_of_row, left_out_of_elements}
use Rattle.later_versions.specs.Later.{IsMarkedAlike, IsLaterKind, later_named_bits, later_sequence, later_set, later_sequence_of, later_set_of, later_choice, Later}
use Rattle.packed_encodings.specs.Orders.{Member, missing, standing, any_present, Beside as MembersBeside, beside_none, beside_absent, beside_present, Addition, alone, bracketed, is_of_group, in_front, additions}
use Rattle.version_laws.specs.LeftOut.{components_of, members_in, present_additions, left_out_packed, left_out_of_components, left_out_of_items}
use Rattle.version_laws.proofs.Beside.{later_here, members_are, later_members, LaterMembers, types, AreAdditions, Beside, appended, beside, beside_of}
use Rattle.version_laws.proofs.Apart.{mapped}
use Rattle.version_laws.proofs.Places.{element_at, member_at}
use Rattle.version_laws.proofs.Alikes.{Laws, alike_kept, earlier}
use Rattle.version_laws.proofs.Back.{same_kind}
use Rattle.version_laws.proofs.NewerAlike.{same_choice}
use Rattle.version_laws.proofs.PackedPairs.{OfComponents, OfValues, both_missing, both_sides_present, AdditionsMatched, only_more, present_matched, one_more_addition}

pub components_are : {s : List Resolved} {t : ℕ} {tags : List Tag} {k : Kind} → Is s t tags k → components_of s t ≡ components k
components_are i = ap (λ o. elim o [ None ↦ [] | Some r ↦ components r.kind ]) i.found

-- ---- none

-- one of two numbers is 0 if and only if the other one is
pub record BothZero (m n : ℕ) : Type 0 where
  pub forth : m ≡ 0 → n ≡ 0
  pub back : n ≡ 0 → m ≡ 0

both_zero : BothZero 0 0
both_zero = record { forth = λ e. e; back = λ e. e }

zero_sums : {a b c d : ℕ} → BothZero a b → BothZero c d → BothZero (a + c) (b + d)
zero_sums {a} {b} {c} {d} p q = record {
  forth = λ e. (let x = p.forth (omega (arith, e)) in let y = q.forth (omega (arith, e)) in omega (arith, x, y));
  back = λ e. (let x = p.back (omega (arith, e)) in let y = q.back (omega (arith, e)) in omega (arith, x, y));
}

zero_at : {m n i j : ℕ} → m ≡ i → n ≡ j → BothZero i j → BothZero m n
zero_at e f b = record { forth = λ g. f ∙ b.forth (sym e ∙ g); back = λ g. e ∙ b.back (sym f ∙ g) }

-- the number of additions with one more member
abbrev one_if : Member AbstractValue → ℕ
one_if (missing c) = 0
one_if (standing c v) = 1

own_brackets : (m : Member AbstractValue) (n : ℕ) → BothZero (one_if m + n) (cond (any_present (m ∷ [])) (suc n) n)
own_brackets (missing c) n = record { forth = λ e. omega (arith, e); back = λ e. omega (arith, e) }
own_brackets (standing c v) n = record { forth = λ e. omega (arith, e); back = λ e. omega (arith, e) }

same_brackets : (m : Member AbstractValue) (ms : List (Member AbstractValue)) (n : ℕ) → BothZero (one_if m + cond (any_present ms) (suc n) n) (cond (any_present (m ∷ ms)) (suc n) n)
same_brackets (missing c) ms n = record { forth = λ e. omega (arith, e); back = λ e. omega (arith, e) }
same_brackets (standing c v) ms n = record { forth = λ e. omega (arith, e); back = λ e. omega (arith, e) }

pub front_zero : (g : Option ℕ) (m : Member AbstractValue) (ds : List (Addition AbstractValue)) → BothZero (one_if m + present_additions ds) (present_additions (in_front g m ds))
front_zero None (missing c) ds = record { forth = λ e. omega (arith, e); back = λ e. omega (arith, e) }
front_zero None (standing c v) ds = record { forth = λ e. omega (arith, e); back = λ e. omega (arith, e) }
front_zero (Some g) m [] = own_brackets m 0
front_zero (Some g) m (alone n ∷ ds) = own_brackets m (present_additions (alone n ∷ ds))
front_zero (Some g) m (bracketed [] ∷ ds) = own_brackets m (present_additions (bracketed [] ∷ ds))
front_zero (Some g) m (bracketed (n ∷ ns) ∷ ds) = by (is_of_group g n)
  where
    by : (b : Bool) → BothZero (one_if m + present_additions (bracketed (n ∷ ns) ∷ ds)) (present_additions (cond b (bracketed (m ∷ (n ∷ ns)) ∷ ds) (bracketed (m ∷ []) ∷ (bracketed (n ∷ ns) ∷ ds))))
    by true = same_brackets m (n ∷ ns) (present_additions ds)
    by false = own_brackets m (present_additions (bracketed (n ∷ ns) ∷ ds))

zero_then : {a b c d : ℕ} (m : ℕ) → BothZero a b → BothZero (m + b) c → d ≡ m + a → BothZero d c
zero_then m p q e = record {
  forth = λ f. (let x = p.forth (omega (arith, e, f)) in q.forth (omega (arith, e, f, x)));
  back = λ f. (let x = q.back f in let y = p.back (omega (arith, x)) in omega (arith, e, x, y));
}

rest_zero : {s' : List Resolved} {n : ℕ} {ds : List Component} {vs : Row} (s : List Resolved) → AreComponents s' n ds vs → BothZero (left_out_of_row s [] vs) (present_additions (additions (members_in ds vs)))
rest_zero s no_component = both_zero
rest_zero s (component_absent {c = c} {cs = cs} {vs = vs} mb v) =
    zero_then 0 (rest_zero s v) (front_zero (group_of c.presence) (missing c) (additions (members_in cs vs))) (omega arith)
rest_zero s (component_present {c = c} {cs = cs} {v = x} {vs = vs} y v) =
    zero_then 1 (rest_zero s v) (front_zero (group_of c.presence) (standing c x) (additions (members_in cs vs))) (omega arith)

leaf_zero : {k : Kind} {v : AbstractValue} (s s' : List Resolved) (t t' : ℕ) → IsPrimitive k v → BothZero (left_out s t v) (left_out_packed s t s' t' v)
leaf_zero s s' t t' fits_boolean = both_zero
leaf_zero s s' t t' (fits_integer a b) = both_zero
leaf_zero s s' t t' (fits_enumerated a b) = both_zero
leaf_zero s s' t t' (fits_bits a) = both_zero
leaf_zero s s' t t' fits_named_bits = both_zero
leaf_zero s s' t t' (fits_octets a b) = both_zero
leaf_zero s s' t t' fits_null = both_zero
leaf_zero s s' t t' (fits_oid a) = both_zero
leaf_zero s s' t t' (fits_relative_oid a) = both_zero
leaf_zero s s' t t' (fits_utf8 a b) = both_zero
leaf_zero s s' t t' (fits_restricted a b) = both_zero

module _ (s s' : List Resolved) where
  mutual
    pub zero_both : {n t' : ℕ} {v : AbstractValue} (t : ℕ) → ValueIn s' n t' v → BothZero (left_out s t v) (left_out_packed s t s' t' v)
    zero_both {t' = t'} t (value_in i v) = kind_zero t t' (members_are i) (components_are i) v

    kind_zero : {n : ℕ} {k : Kind} {v : AbstractValue} (t t' : ℕ) → members_of s' t' ≡ types_in k → components_of s' t' ≡ components k → ValueOf s' n k v → BothZero (left_out s t v) (left_out_packed s t s' t' v)
    kind_zero t t' p q (of_leaf f) = leaf_zero s s' t t' f
    kind_zero t t' p q (of_sequence {vs = vs} v g) = zero_at refl (ap (λ y. left_out_of_components s (members_of s t) s' y vs) q) (row_zero (members_of s t) v)
    kind_zero t t' p q (of_set {vs = vs} v g) = zero_at refl (ap (λ y. left_out_of_components s (members_of s t) s' y vs) q) (row_zero (members_of s t) v)
    kind_zero t t' p q (of_sequence_of {u = u} {vs = vs} v g) = zero_at refl (ap (λ y. left_out_of_items s (member_of s t 0) s' y vs) (element_at s' t' u p)) (elements_zero (member_of s t 0) v)
    kind_zero t t' p q (of_set_of {u = u} {vs = vs} v g) = zero_at refl (ap (λ y. left_out_of_items s (member_of s t 0) s' y vs) (element_at s' t' u p)) (elements_zero (member_of s t 0) v)
    kind_zero t t' p q (of_choice {i = i} {root = root} {more = more} {a = a} {v = v} g x) =
        let at = member_at s' t' i a.type (ap (λ y. slice_get y i) p ∙ mapped (λ y. y.type) (root ++ more) i g) in
        zero_at refl (ap (λ y. left_out_packed s (member_of s t i) s' y v) at) (zero_both (member_of s t i) x)

    row_zero : {n : ℕ} {ds : List Component} {vs : Row} (us : List ℕ) → AreComponents s' n ds vs → BothZero (left_out_of_row s us vs) (left_out_of_components s us s' ds vs)
    row_zero [] v = rest_zero s v
    row_zero (u ∷ us) no_component = both_zero
    row_zero (u ∷ us) (component_absent mb v) = row_zero us v
    row_zero (u ∷ us) (component_present x v) = zero_sums (zero_both u x) (row_zero us v)

    elements_zero : {n u' : ℕ} {vs : Row} (u : ℕ) → AreElements s' n u' vs → BothZero (left_out_of_elements s u vs) (left_out_of_items s u s' u' vs)
    elements_zero u no_element = both_zero
    elements_zero u (one_element x v) = zero_sums (zero_both u x) (elements_zero u v)

-- ---- values that are the same

abbrev OneComponent : OfComponents
OneComponent c d = c ≡ d

abbrev AnyValues : OfValues
AnyValues c d v w k = k ≡ 0

record RestsMatched (ds : List Component) (vs ws : Row) : Type 0 where
  number : ℕ
  first : MembersBeside ds vs (members_in ds vs)
  second : MembersBeside ds ws (members_in ds ws)
  matched : AdditionsMatched OneComponent AnyValues (additions (members_in ds vs)) (additions (members_in ds ws)) [] number

abbrev adds : Presence → Bool
adds p = elim p [ mandatory ↦ false | optional ↦ false | default d ↦ false | addition o g ↦ true ]

no_default : (p : Presence) (d : AbstractValue) → adds p ≡ true → p ≡ default d → ⊥
no_default mandatory d e f = (cc)
no_default optional d e f = (cc)
no_default (default x) d e f = (cc)
no_default (addition o g) d e f = (cc)

rests_matched : {s' : List Resolved} {ds : List Component} {vs ws : Row} → AreAdditions ds → AlikeComponents s' ds vs ws → RestsMatched ds vs ws
rests_matched a no_components = record { number = 0; first = beside_none; second = beside_none; matched = only_more refl }
rests_matched a (both_absent {c = c} {cs = cs} r) =
    let p = rests_matched a.1 r in
    record { number = p.number; first = beside_absent p.first; second = beside_absent p.second; matched = one_more_addition {cs = cs} {ds = cs} (both_missing {c = c} {d = c} refl) refl refl p.first p.second p.matched (omega arith) }
rests_matched a (both_present {c = c} {cs = cs} {v = v} {w = w} x r) =
    let p = rests_matched a.1 r in
    record { number = p.number; first = beside_present p.first; second = beside_present p.second; matched = one_more_addition {cs = cs} {ds = cs} (both_sides_present {c = c} {d = c} {v = v} {w = w} {k = 0} refl refl) refl refl p.first p.second p.matched (omega arith) }
rests_matched a (first_default {c = c} {d = d} e x r) = absurd (no_default c.presence d a.0 e)
rests_matched a (second_default {c = c} {d = d} e x r) = absurd (no_default c.presence d a.0 e)

rests_same : {s' : List Resolved} {ds : List Component} {vs ws : Row} → AreAdditions ds → AlikeComponents s' ds vs ws → present_additions (additions (members_in ds vs)) ≡ present_additions (additions (members_in ds ws))
rests_same a r = let p = rests_matched a r in let e = present_matched p.matched in omega (arith, e)

levels_of : {s : List Resolved} {n t : ℕ} {p : Presence} {d : AbstractValue} → MayBeAbsent s n t p → p ≡ default d → ValueIn s n t d
levels_of {s} {n} {t} (where_default {d = x} v) e = let g : x ≡ _ = cc in subst (ValueIn s n t) g v
levels_of a e = absurd (cc)

sums_same : {a b c d : ℕ} → a ≡ b → c ≡ d → a + c ≡ b + d
sums_same e f = omega (arith, e, f)

taken_out : (s s' : List Resolved) (u u' : ℕ) {w : AbstractValue} {ws xs : Row} → Inserted w ws xs → left_out_of_items s u s' u' xs ≡ left_out_packed s u s' u' w + left_out_of_items s u s' u' ws
taken_out s s' u u' here = refl
taken_out s s' u u' (there i) = let r = taken_out s s' u u' i in omega (arith, r)

pub inserted_values : {s : List Resolved} {n u : ℕ} {w : AbstractValue} {ws xs : Row} → Inserted w ws xs → AreElements s n u xs → ValueIn s n u w × AreElements s n u ws
inserted_values here (one_element x v) = (x, v)
inserted_values (there i) (one_element x v) = let r = inserted_values i v in (r.0, one_element x r.1)

module _ (laws : Laws) (s s' : List Resolved) where
  -- nothing is left out of what is the same as its default
  default_zero : {t t' m n : ℕ} {p q : Presence} {e w : AbstractValue} → Later s t s' t' → IsMarkedAlike s t p q → q ≡ default e → Alike s' t' e w → ValueIn s n t (projected s t e) → ValueIn s' m t' w → left_out_packed s t s' t' w ≡ 0
  default_zero {t = t} l mk f a x y =
      let d = earlier mk f in
      (zero_both s s' t y).forth (sym (alike_kept laws s s' l a x).out ∙ d.none_out)

  mutual
    pub same_count : {t t' m m' n : ℕ} {v w : AbstractValue} → Later s t s' t' → Alike s' t' v w → ValueIn s n t (projected s t v) → ValueIn s' m t' v → ValueIn s' m' t' w → left_out_packed s t s' t' v ≡ left_out_packed s t s' t' w
    same_count {t} {t'} {m} {m'} {v = v} {w = w} l (alike j a) (value_in i x) (value_in {n = mv} jv y) (value_in {n = mw} jw z) =
        by_count t t' (members_are i) (members_are j) (components_are j) (later_members l i j) (later_here l i j).kind a x
        (subst (λ q. ValueOf s' mv q v) (same_kind jv j) y) (subst (λ q. ValueOf s' mw q w) (same_kind jw j) z)

    by_count : {k k' : Kind} {m m' n : ℕ} {v w : AbstractValue} (t t' : ℕ) → members_of s t ≡ types_in k → members_of s' t' ≡ types_in k' → components_of s' t' ≡ components k' → LaterMembers s s' (types_in k) (types_in k') → IsLaterKind s k k' → AlikeBy s' k' v w → ValueOf s n k (projected s t v) → ValueOf s' m k' v → ValueOf s' m' k' w → left_out_packed s t s' t' v ≡ left_out_packed s t s' t' w
    by_count t t' p q c ms kind (equal leaf) x y z = refl
    by_count t t' p q c ms (later_named_bits b) (zeros m n e) x y z = refl
    by_count {n = n} t t' p q c ms (later_sequence {cs = cs} {ds = ds} a) (alike_sequence {vs = vs} {ws = ws} r) (of_sequence x g) (of_sequence y g') (of_sequence z g'') =
        let side = beside_of cs ds a.front.none_dropped a.front.projected a.appended ms in
        let k = rows_count side r (subst (λ u. AreComponents s n cs (projected_row s u vs)) p x) y z in
        ap (λ u. left_out_of_components s u s' (components_of s' t') vs) p ∙ ap (λ u. left_out_of_components s (types cs) s' u vs) c ∙ k
        ∙ sym (ap (λ u. left_out_of_components s u s' (components_of s' t') ws) p ∙ ap (λ u. left_out_of_components s (types cs) s' u ws) c)
    by_count {n = n} t t' p q c ms (later_set {cs = cs} {ds = ds} a) (alike_set {vs = vs} {ws = ws} r) (of_set x g) (of_set y g') (of_set z g'') =
        let side = beside_of cs ds a.front.none_dropped a.front.projected a.appended ms in
        let k = rows_count side r (subst (λ u. AreComponents s n cs (projected_row s u vs)) p x) y z in
        ap (λ u. left_out_of_components s u s' (components_of s' t') vs) p ∙ ap (λ u. left_out_of_components s (types cs) s' u vs) c ∙ k
        ∙ sym (ap (λ u. left_out_of_components s u s' (components_of s' t') ws) p ∙ ap (λ u. left_out_of_components s (types cs) s' u ws) c)
    by_count {n = n} t t' p q c ms (later_sequence_of {u = u} {v = u'} ls) (alike_sequence_of {vs = vs} {ws = ws} r) (of_sequence_of x g) (of_sequence_of y g') (of_sequence_of z g'') =
        let at = element_at s t u p in
        let k = elements_count (ms 0 u u' refl refl) r (subst (λ o. AreElements s n u (projected_elements s o vs)) at x) y z in
        ap (λ o. left_out_of_items s o s' (member_of s' t' 0) vs) at ∙ ap (λ o. left_out_of_items s u s' o vs) (element_at s' t' u' q) ∙ k
        ∙ sym (ap (λ o. left_out_of_items s o s' (member_of s' t' 0) ws) at ∙ ap (λ o. left_out_of_items s u s' o ws) (element_at s' t' u' q))
    by_count {n = n} t t' p q c ms (later_set_of {u = u} {v = u'} ls) (alike_set_of {vs = vs} {ws = ws} r) (of_set_of x g) (of_set_of y g') (of_set_of z g'') =
        let at = element_at s t u p in
        let k = any_order_count (ms 0 u u' refl refl) r (subst (λ o. AreElements s n u (projected_elements s o vs)) at x) y z in
        ap (λ o. left_out_of_items s o s' (member_of s' t' 0) vs) at ∙ ap (λ o. left_out_of_items s u s' o vs) (element_at s' t' u' q) ∙ k
        ∙ sym (ap (λ o. left_out_of_items s o s' (member_of s' t' 0) ws) at ∙ ap (λ o. left_out_of_items s u s' o ws) (element_at s' t' u' q))
    by_count {m = m} {m' = m'} {n = n} t t' p q c ms (later_choice {root = root} {others = others} {more = more} {all = all} names front) (alike_choice {i = i} {a = a'} {v = v} {w = w} g' r) (of_choice {a = a} g x) (of_choice hy y) (of_choice hz z) =
        let one = mapped (λ o. o.type) (root ++ more) i g in
        let other = mapped (λ o. o.type) (others ++ all) i g' in
        let at = member_at s t i a.type (ap (λ o. slice_get o i) p ∙ one) in
        let at' = member_at s' t' i a'.type (ap (λ o. slice_get o i) q ∙ other) in
        let y' = subst (λ o. ValueIn s' m o v) (same_choice (others ++ all) i hy g') y in
        let z' = subst (λ o. ValueIn s' m' o w) (same_choice (others ++ all) i hz g') z in
        let k = same_count (ms i a.type a'.type one other) r (subst (λ o. ValueIn s n a.type (projected s o v)) at x) y' z' in
        ap (λ o. left_out_packed s o s' (member_of s' t' i) v) at ∙ ap (λ o. left_out_packed s a.type s' o v) at' ∙ k
        ∙ sym (ap (λ o. left_out_packed s o s' (member_of s' t' i) w) at ∙ ap (λ o. left_out_packed s a.type s' o w) at')
    by_count t t' p q c ms (later_sequence a) (alike_sequence r) (of_leaf f) y z = elim f [ ]
    by_count t t' p q c ms (later_set a) (alike_set r) (of_leaf f) y z = elim f [ ]
    by_count t t' p q c ms (later_sequence_of ls) (alike_sequence_of r) (of_leaf f) y z = elim f [ ]
    by_count t t' p q c ms (later_set_of ls) (alike_set_of r) (of_leaf f) y z = elim f [ ]
    by_count t t' p q c ms (later_choice names front) (alike_choice g r) (of_leaf f) y z = elim f [ ]
    by_count t t' p q c ms kind (alike_sequence r) x (of_leaf f) z = elim f [ ]
    by_count t t' p q c ms kind (alike_set r) x (of_leaf f) z = elim f [ ]
    by_count t t' p q c ms kind (alike_sequence_of r) x (of_leaf f) z = elim f [ ]
    by_count t t' p q c ms kind (alike_set_of r) x (of_leaf f) z = elim f [ ]
    by_count t t' p q c ms kind (alike_choice g r) x (of_leaf f) z = elim f [ ]
    by_count t t' p q c ms kind (alike_sequence r) x y (of_leaf f) = elim f [ ]
    by_count t t' p q c ms kind (alike_set r) x y (of_leaf f) = elim f [ ]
    by_count t t' p q c ms kind (alike_sequence_of r) x y (of_leaf f) = elim f [ ]
    by_count t t' p q c ms kind (alike_set_of r) x y (of_leaf f) = elim f [ ]
    by_count t t' p q c ms kind (alike_choice g r) x y (of_leaf f) = elim f [ ]

    rows_count : {cs ds : List Component} {m m' n : ℕ} {vs ws : Row} → Beside s s' cs ds → AlikeComponents s' ds vs ws → AreComponents s n cs (projected_row s (types cs) vs) → AreComponents s' m ds vs → AreComponents s' m' ds ws → left_out_of_components s (types cs) s' ds vs ≡ left_out_of_components s (types cs) s' ds ws
    rows_count (appended a) r x y z = rests_same a r
    rows_count (beside l mk b) (both_absent r) (component_absent mb x) (component_absent my y) (component_absent mz z) = rows_count b r x y z
    rows_count (beside l mk b) (both_present a r) (component_present x xs) (component_present y ys) (component_present z zs) =
        sums_same (same_count l a x y z) (rows_count b r xs ys zs)
    rows_count {n = n} (beside {c = c} l mk b) (first_default {d = e} f a r) (component_absent mb xs) (component_absent my ys) (component_present z zs) =
        let d = earlier mk f in
        let here = laws.levels s 64 n c.type d.value (projected s c.type e) d.same.are_alike (levels_of mb d.is) d.same.second in
        let none = default_zero l mk f a here z in
        let k = rows_count b r xs ys zs in
        omega (arith, none, k)
    rows_count {n = n} (beside {c = c} {d = d'} l mk b) (second_default {d = e} {v = v} f a r) (component_present x xs) (component_present y ys) (component_absent mz zs) =
        let d = earlier mk f in
        let k = alike_kept laws s s' l a x in
        let none = (zero_both s s' c.type y).forth (k.out ∙ d.none_out) in
        let rest = rows_count b r xs ys zs in
        omega (arith, none, rest)

    elements_count : {u u' m m' n : ℕ} {vs ws : Row} → Later s u s' u' → AlikeElements s' u' vs ws → AreElements s n u (projected_elements s u vs) → AreElements s' m u' vs → AreElements s' m' u' ws → left_out_of_items s u s' u' vs ≡ left_out_of_items s u s' u' ws
    elements_count l no_elements x y z = refl
    elements_count l (alike_element a r) (one_element x xs) (one_element y ys) (one_element z zs) = sums_same (same_count l a x y z) (elements_count l r xs ys zs)

    any_order_count : {u u' m m' n : ℕ} {vs ws : Row} → Later s u s' u' → AlikeInAnyOrder s' u' vs ws → AreElements s n u (projected_elements s u vs) → AreElements s' m u' vs → AreElements s' m' u' ws → left_out_of_items s u s' u' vs ≡ left_out_of_items s u s' u' ws
    any_order_count l none_left x y z = refl
    any_order_count {u} {u'} l (pair a r i) (one_element x xs) (one_element y ys) z =
        let zs = inserted_values i z in
        let out = taken_out s s' u u' i in
        sums_same (same_count l a x y zs.0) (any_order_count l r xs ys zs.1) ∙ sym out
