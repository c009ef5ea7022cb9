-- Of values of a later version that are alike the earlier type keeps values that are, and leaves as many components
-- out.
use Rattle.std.proofs.Common.{arith, ◌≡◌, ℕ, suc, ◌+◌, true, false, List, [], ◌++◌, refl, sym, ap, subst, ◌∙◌}
use Rattle.std.specs.Prelude.{slice_get}
use Rattle.asn_base.specs.Abstract.{AbstractValue, fields, list, alternative, Row, end, present}
use Rattle.asn_base.specs.Types.{Kind, Presence, mandatory, optional, default, addition, Component, Resolved}
use Rattle.asn_base.specs.Typed.{IsAllowedSize, members, fits_named_bits, ValueIn, value_in, ValueOf, of_leaf, of_sequence, of_set, of_sequence_of, of_set_of, of_choice, MayBeAbsent, where_default, AreComponents, no_component, component_absent, component_present, AreElements, no_element, one_element, GroupsAreWhole}
use Rattle.asn_base.specs.Same.{IsLeaf, Inserted, here, there, Alike, alike, AlikeBy, equal, zeros, alike_sequence, alike_set, alike_sequence_of, alike_set_of, alike_choice, AlikeComponents, no_components, both_absent, both_present, first_default, second_default, AlikeElements, no_elements, alike_element, AlikeInAnyOrder, none_left, pair, Same}
use Rattle.asn_base.specs.Schemas.{types_in}
use Rattle.later_versions.specs.Projected.{members_of, projected, projected_row, projected_elements, left_out, left_out_of_row, left_out_of_elements}
use Rattle.later_versions.specs.Later.{IsMarkedAlike, both_mandatory, both_optional, both_default, both_additions, IsLaterKind, later_boolean, later_integer, later_enumerated, later_bit_string, later_named_bits, later_octet_string, later_null, later_object_identifier, later_relative_oid, later_utf8_string, later_restricted_string, later_sequence, later_set, later_sequence_of, later_set_of, later_choice, Later}
use Rattle.version_laws.proofs.Beside.{later_here, members_are, later_members, LaterMembers, types, AreAdditions, Beside, appended, beside, beside_of}
use Rattle.version_laws.proofs.Apart.{mapped}
use Rattle.version_laws.proofs.Places.{element_at, member_at, kept_none}

-- what is known of values that are alike
pub record Laws : Type 0 where
  pub groups : (s : List Resolved) (cs : List Component) (vs ws : Row) → AlikeComponents s cs vs ws → GroupsAreWhole cs vs → GroupsAreWhole cs ws
  pub levels : (s : List Resolved) (m n t : ℕ) (v w : AbstractValue) → Alike s t v w → ValueIn s n t v → ValueIn s m t w → ValueIn s n t w
  pub joined : (s : List Resolved) (t : ℕ) (v w x : AbstractValue) → Alike s t v w → Alike s t w x → Alike s t v x
  pub turned : (s : List Resolved) (t : ℕ) (v w : AbstractValue) → Alike s t v w → Alike s t w v

-- the same laws, one by one
pub laws_of : ((s : List Resolved) (cs : List Component) (vs ws : Row) → AlikeComponents s cs vs ws → GroupsAreWhole cs vs → GroupsAreWhole cs ws) → ((s : List Resolved) (m n t : ℕ) (v w : AbstractValue) → Alike s t v w → ValueIn s n t v → ValueIn s m t w → ValueIn s n t w) → ((s : List Resolved) (t : ℕ) (v w x : AbstractValue) → Alike s t v w → Alike s t w x → Alike s t v x) → ((s : List Resolved) (t : ℕ) (v w : AbstractValue) → Alike s t v w → Alike s t w v) → Laws
laws_of g l j u = record { groups = g; levels = l; joined = j; turned = u }

leaf_same : {s : List Resolved} {k k' : Kind} → IsLaterKind s k k' → IsLeaf k' → IsLeaf k
leaf_same later_boolean h = h
leaf_same (later_integer q) h = h
leaf_same (later_enumerated q) h = h
leaf_same (later_bit_string q) h = h
leaf_same (later_named_bits q) h = h
leaf_same (later_octet_string q) h = h
leaf_same later_null h = h
leaf_same later_object_identifier h = h
leaf_same later_relative_oid h = h
leaf_same (later_utf8_string q) h = h
leaf_same (later_restricted_string q) h = h
leaf_same (later_sequence a) h = absurd h
leaf_same (later_set a) h = absurd h
leaf_same (later_sequence_of q) h = absurd h
leaf_same (later_set_of q) h = absurd h
leaf_same (later_choice q f) h = absurd h

pub record KeptAlike (s : List Resolved) (t n : ℕ) (v w : AbstractValue) : Type 0 where
  pub are_alike : Alike s t (projected s t v) (projected s t w)
  pub value : ValueIn s n t (projected s t w)
  pub out : left_out s t v ≡ left_out s t w

record KindKept (s : List Resolved) (k : Kind) (n : ℕ) (a b : AbstractValue) (i j : ℕ) : Type 0 where
  are_alike : AlikeBy s k a b
  value : ValueOf s n k b
  out : i ≡ j

kind_at : {s : List Resolved} {k : Kind} {n : ℕ} {a a' b b' : AbstractValue} {i i' j j' : ℕ} → a ≡ a' → b ≡ b' → i ≡ i' → j ≡ j' → KindKept s k n a b i j → KindKept s k n a' b' i' j'
kind_at {s} {k} {n} {a} {a'} {b} {b'} {i} {i'} {j} {j'} e f g h r =
    record {
      are_alike = subst (λ q. AlikeBy s k q b') e (subst (λ q. AlikeBy s k a q) f r.are_alike);
      value = subst (ValueOf s n k) f r.value;
      out = sym g ∙ r.out ∙ h;
    }

record RowsKept (s : List Resolved) (cs : List Component) (n : ℕ) (vs ws : Row) : Type 0 where
  are_alike : AlikeComponents s cs (projected_row s (types cs) vs) (projected_row s (types cs) ws)
  value : AreComponents s n cs (projected_row s (types cs) ws)
  out : left_out_of_row s (types cs) vs ≡ left_out_of_row s (types cs) ws

record ElementsKept (s : List Resolved) (u n : ℕ) (vs ws : Row) : Type 0 where
  are_alike : AlikeElements s u (projected_elements s u vs) (projected_elements s u ws)
  value : AreElements s n u (projected_elements s u ws)
  out : left_out_of_elements s u vs ≡ left_out_of_elements s u ws
  many : members (projected_elements s u vs) ≡ members (projected_elements s u ws)

record AnyOrderKept (s : List Resolved) (u n : ℕ) (vs ws : Row) : Type 0 where
  are_alike : AlikeInAnyOrder s u (projected_elements s u vs) (projected_elements s u ws)
  value : AreElements s n u (projected_elements s u ws)
  out : left_out_of_elements s u vs ≡ left_out_of_elements s u ws
  many : members (projected_elements s u vs) ≡ members (projected_elements s u ws)

-- one more member at some place
record OneMore (s : List Resolved) (u n : ℕ) (w : AbstractValue) (ws xs : Row) : Type 0 where
  inserted : Inserted (projected s u w) (projected_elements s u ws) (projected_elements s u xs)
  value : ValueIn s n u (projected s u w) → AreElements s n u (projected_elements s u ws) → AreElements s n u (projected_elements s u xs)
  out : left_out_of_elements s u xs ≡ left_out s u w + left_out_of_elements s u ws
  many : members (projected_elements s u xs) ≡ suc (members (projected_elements s u ws))

one_more : {s : List Resolved} {u n : ℕ} {w : AbstractValue} {ws xs : Row} → Inserted w ws xs → OneMore s u n w ws xs
one_more here = record { inserted = here; value = λ a b. one_element a b; out = refl; many = refl }
one_more {s} {u} {n} {w} (there {y = y} {xs = ws} {ys = xs} i) =
    let r = one_more {s = s} {u = u} {n = n} {w = w} i in
    let out = r.out in
    record {
      inserted = there r.inserted;
      value = λ a b. after_first r.value a b;
      out = omega (arith, out);
      many = ap suc r.many;
    }
  where
    after_first : {x a : AbstractValue} {os ps : Row} → (ValueIn s n u x → AreElements s n u os → AreElements s n u ps) → ValueIn s n u x → AreElements s n u (present a os) → AreElements s n u (present a ps)
    after_first f a (one_element b c) = one_element b (f a c)

-- the default of the earlier version
pub record Earlier (s : List Resolved) (t : ℕ) (p : Presence) (e : AbstractValue) : Type 0 where
  pub value : AbstractValue
  pub is : p ≡ default value
  pub none_out : left_out s t e ≡ 0
  pub same : Same s t value (projected s t e)

pub earlier : {s : List Resolved} {t : ℕ} {p q : Presence} {e : AbstractValue} → IsMarkedAlike s t p q → q ≡ default e → Earlier s t p e
earlier both_mandatory f = absurd (cc)
earlier both_optional f = absurd (cc)
earlier {s} {t} {p} (both_default {d = d} {e = x} z sm) f =
    let g : x ≡ _ = cc in subst (Earlier s t (default d)) g (record { value = d; is = refl; none_out = z; same = sm })
earlier both_additions f = absurd (cc)

levels_of : {s : List Resolved} {n t : ℕ} {p : Presence} {d : AbstractValue} → MayBeAbsent s n t p → p ≡ default d → ValueIn s n t d
levels_of {s} {n} {t} (where_default {d = x} v) e = let g : x ≡ _ = cc in subst (ValueIn s n t) g v
levels_of a e = absurd (cc)

no_default : (p : Presence) (d : AbstractValue) → (elim p [ mandatory ↦ false | optional ↦ false | default x ↦ false | addition o g ↦ true ]) ≡ true → p ≡ default d → ⊥
no_default mandatory d e f = (cc)
no_default optional d e f = (cc)
no_default (default x) d e f = (cc)
no_default (addition o g) d e f = (cc)

rest_out : (s : List Resolved) {s' : List Resolved} {ds : List Component} {vs ws : Row} → AreAdditions ds → AlikeComponents s' ds vs ws → left_out_of_row s [] vs ≡ left_out_of_row s [] ws
rest_out s a no_components = refl
rest_out s a (both_absent r) = rest_out s a.1 r
rest_out s a (both_present x r) = ap suc (rest_out s a.1 r)
rest_out s a (first_default {c = c} {d = d} e x r) = absurd (no_default c.presence d a.0 e)
rest_out s a (second_default {c = c} {d = d} e x r) = absurd (no_default c.presence d a.0 e)

module _ (laws : Laws) (s s' : List Resolved) where
  mutual
    pub alike_kept : {t t' n : ℕ} {v w : AbstractValue} → Later s t s' t' → Alike s' t' v w → ValueIn s n t (projected s t v) → KeptAlike s t n v w
    alike_kept {t = t} l (alike j a) (value_in i v) =
        let e = later_here l i j in
        let r = by_kept t (members_are i) (later_members l i j) e.kind a v in
        record { are_alike = alike i r.are_alike; value = value_in i r.value; out = r.out }

    by_kept : {k k' : Kind} {n : ℕ} {v w : AbstractValue} (t : ℕ) → members_of s t ≡ types_in k → LaterMembers s s' (types_in k) (types_in k') → IsLaterKind s k k' → AlikeBy s' k' v w → ValueOf s n k (projected s t v) → KindKept s k n (projected s t v) (projected s t w) (left_out s t v) (left_out s t w)
    by_kept t q ms kind (equal leaf) v = record { are_alike = equal (leaf_same kind leaf); value = v; out = refl }
    by_kept t q ms (later_named_bits x) (zeros m n e) v = record { are_alike = zeros m n e; value = of_leaf fits_named_bits; out = refl }
    by_kept {n = n} t q ms (later_sequence {cs = cs} {ds = ds} a) (alike_sequence {vs = vs} {ws = ws} r) (of_sequence v g) =
        let side = beside_of cs ds a.front.none_dropped a.front.projected a.appended ms in
        let k = rows_kept side r (subst (λ y. AreComponents s n cs (projected_row s y vs)) q v) in
        let whole = laws.groups s cs _ _ k.are_alike (subst (λ y. GroupsAreWhole cs (projected_row s y vs)) q g) in
        kind_at (ap (λ y. fields (projected_row s y vs)) (sym q)) (ap (λ y. fields (projected_row s y ws)) (sym q)) (ap (λ y. left_out_of_row s y vs) (sym q)) (ap (λ y. left_out_of_row s y ws) (sym q))
        (record { are_alike = alike_sequence k.are_alike; value = of_sequence k.value whole; out = k.out })
    by_kept {n = n} t q ms (later_set {cs = cs} {ds = ds} a) (alike_set {vs = vs} {ws = ws} r) (of_set v g) =
        let side = beside_of cs ds a.front.none_dropped a.front.projected a.appended ms in
        let k = rows_kept side r (subst (λ y. AreComponents s n cs (projected_row s y vs)) q v) in
        let whole = laws.groups s cs _ _ k.are_alike (subst (λ y. GroupsAreWhole cs (projected_row s y vs)) q g) in
        kind_at (ap (λ y. fields (projected_row s y vs)) (sym q)) (ap (λ y. fields (projected_row s y ws)) (sym q)) (ap (λ y. left_out_of_row s y vs) (sym q)) (ap (λ y. left_out_of_row s y ws) (sym q))
        (record { are_alike = alike_set k.are_alike; value = of_set k.value whole; out = k.out })
    by_kept {n = n} t q ms (later_sequence_of {c = c} {u = u} {v = u'} ls) (alike_sequence_of {vs = vs} {ws = ws} r) (of_sequence_of v g) =
        let at = element_at s t u q in
        let k = elements_kept (ms 0 u u' refl refl) r (subst (λ y. AreElements s n u (projected_elements s y vs)) at v) in
        let size = subst (IsAllowedSize c) (ap (λ y. members (projected_elements s y vs)) at ∙ k.many) g in
        kind_at (ap (λ y. list (projected_elements s y vs)) (sym at)) (ap (λ y. list (projected_elements s y ws)) (sym at)) (ap (λ y. left_out_of_elements s y vs) (sym at)) (ap (λ y. left_out_of_elements s y ws) (sym at))
        (record { are_alike = alike_sequence_of k.are_alike; value = of_sequence_of k.value size; out = k.out })
    by_kept {n = n} t q ms (later_set_of {c = c} {u = u} {v = u'} ls) (alike_set_of {vs = vs} {ws = ws} r) (of_set_of v g) =
        let at = element_at s t u q in
        let k = any_order_kept (ms 0 u u' refl refl) r (subst (λ y. AreElements s n u (projected_elements s y vs)) at v) in
        let size = subst (IsAllowedSize c) (ap (λ y. members (projected_elements s y vs)) at ∙ k.many) g in
        kind_at (ap (λ y. list (projected_elements s y vs)) (sym at)) (ap (λ y. list (projected_elements s y ws)) (sym at)) (ap (λ y. left_out_of_elements s y vs) (sym at)) (ap (λ y. left_out_of_elements s y ws) (sym at))
        (record { are_alike = alike_set_of k.are_alike; value = of_set_of k.value size; out = k.out })
    by_kept {n = n} t q ms (later_choice {root = root} {others = others} {more = more} {all = all} names front) (alike_choice {i = i} {a = a'} {v = v} {w = w} g' r) (of_choice {a = a} g x) =
        let one = mapped (λ y. y.type) (root ++ more) i g in
        let other = mapped (λ y. y.type) (others ++ all) i g' in
        let at = member_at s t i a.type (ap (λ y. slice_get y i) q ∙ one) in
        let k = alike_kept (ms i a.type a'.type one other) r (subst (λ y. ValueIn s n a.type (projected s y v)) at x) in
        kind_at (ap (λ y. alternative i (projected s y v)) (sym at)) (ap (λ y. alternative i (projected s y w)) (sym at)) (ap (λ y. left_out s y v) (sym at)) (ap (λ y. left_out s y w) (sym at))
        (record { are_alike = alike_choice g k.are_alike; value = of_choice g k.value; out = k.out })
    by_kept t q ms (later_sequence a) (alike_sequence r) (of_leaf f) = elim f [ ]
    by_kept t q ms (later_set a) (alike_set r) (of_leaf f) = elim f [ ]
    by_kept t q ms (later_sequence_of ls) (alike_sequence_of r) (of_leaf f) = elim f [ ]
    by_kept t q ms (later_set_of ls) (alike_set_of r) (of_leaf f) = elim f [ ]
    by_kept t q ms (later_choice names front) (alike_choice g r) (of_leaf f) = elim f [ ]

    rows_kept : {cs ds : List Component} {n : ℕ} {vs ws : Row} → Beside s s' cs ds → AlikeComponents s' ds vs ws → AreComponents s n cs (projected_row s (types cs) vs) → RowsKept s cs n vs ws
    rows_kept {n = n} {vs = vs} {ws = ws} (appended a) r v = record {
      are_alike = subst (λ y. AlikeComponents s [] y (projected_row s [] ws)) (sym (kept_none s vs)) (subst (λ y. AlikeComponents s [] end y) (sym (kept_none s ws)) no_components);
      value = subst (AreComponents s n []) (sym (kept_none s ws)) no_component;
      out = rest_out s a r;
    }
    rows_kept (beside l mk b) (both_absent r) (component_absent mb v) =
        let k = rows_kept b r v in
        record { are_alike = both_absent k.are_alike; value = component_absent mb k.value; out = k.out }
    rows_kept (beside l mk b) (both_present a r) (component_present x v) =
        let one = alike_kept l a x in
        let k = rows_kept b r v in
        let p = one.out in
        let q = k.out in
        record { are_alike = both_present one.are_alike k.are_alike; value = component_present one.value k.value; out = omega (arith, p, q) }
    rows_kept {n = n} (beside {c = c} l mk b) (first_default {d = e} {w = w} f a r) (component_absent mb v) =
        let d = earlier mk f in
        let here = laws.levels s 64 n c.type d.value (projected s c.type e) d.same.are_alike (levels_of mb d.is) d.same.second in
        let one = alike_kept l a here in
        let k = rows_kept b r v in
        let p = one.out in
        let q = k.out in
        let z = d.none_out in
        record {
          are_alike = first_default d.is (laws.joined s c.type d.value (projected s c.type e) (projected s c.type w) d.same.are_alike one.are_alike) k.are_alike;
          value = component_present one.value k.value;
          out = omega (arith, p, q, z);
        }
    rows_kept {n = n} (beside {c = c} l mk b) (second_default {d = e} {v = x} f a r) (component_present y v) =
        let d = earlier mk f in
        let one = alike_kept l a y in
        let k = rows_kept b r v in
        let back = laws.turned s c.type d.value (projected s c.type e) d.same.are_alike in
        let here = laws.levels s 64 n c.type (projected s c.type e) d.value back one.value d.same.first in
        let p = one.out in
        let q = k.out in
        let z = d.none_out in
        record {
          are_alike = second_default d.is (laws.joined s c.type (projected s c.type x) (projected s c.type e) d.value one.are_alike back) k.are_alike;
          value = component_absent (subst (MayBeAbsent s n c.type) (sym d.is) (where_default here)) k.value;
          out = omega (arith, p, q, z);
        }

    elements_kept : {u u' n : ℕ} {vs ws : Row} → Later s u s' u' → AlikeElements s' u' vs ws → AreElements s n u (projected_elements s u vs) → ElementsKept s u n vs ws
    elements_kept l no_elements v = record { are_alike = no_elements; value = no_element; out = refl; many = refl }
    elements_kept l (alike_element a r) (one_element x v) =
        let one = alike_kept l a x in
        let k = elements_kept l r v in
        let p = one.out in
        let q = k.out in
        record { are_alike = alike_element one.are_alike k.are_alike; value = one_element one.value k.value; out = omega (arith, p, q); many = ap suc k.many }

    any_order_kept : {u u' n : ℕ} {vs ws : Row} → Later s u s' u' → AlikeInAnyOrder s' u' vs ws → AreElements s n u (projected_elements s u vs) → AnyOrderKept s u n vs ws
    any_order_kept l none_left v = record { are_alike = none_left; value = no_element; out = refl; many = refl }
    any_order_kept {u} {u'} {n} l (pair {w = w} a r i) (one_element x v) =
        let one = alike_kept l a x in
        let k = any_order_kept l r v in
        let more = one_more {s = s} {u = u} {n = n} i in
        let p = one.out in
        let q = k.out in
        let o = more.out in
        record {
          are_alike = pair one.are_alike k.are_alike more.inserted;
          value = more.value one.value k.value;
          out = omega (arith, p, q, o);
          many = ap suc k.many ∙ sym more.many;
        }
