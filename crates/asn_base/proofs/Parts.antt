-- Whether values that hold others are of a kind, part by part.
use Rattle.std.proofs.Common.{arith, ◌≡◌, ℕ, zero, suc, ◌+◌, ◌-◌, ◌<◌, ◌≤◌, Bool, true, false, not, List, [], ◌∷◌, length, drop, inl, inr, refl, sym, subst, ap, ◌∙◌}
use Rattle.std.specs.Prelude.{◌↔◌, ◌⊎◌, IsTrue, Option, Some, None, slice_get}
use Rattle.asn_base.specs.Abstract.{AbstractValue, boolean, integer, enumerated, bits, octets, text, null, oid, relative_oid, fields, list, alternative, Row, absent, present, row_of_options, row_of_list}
use Rattle.asn_base.specs.Decided.{HoldsMembers, IsChosen, IsComponent, nodes_of}
use Rattle.asn_base.specs.declared.schema.Core.{Core}
use Rattle.asn_base.specs.declared.schema.Resolved.{Resolved as Resolved'}
use Rattle.asn_base.specs.Seen.{kind_of, resolved_of}
use Rattle.asn_base.specs.Types.{Alternative, Kind, a_sequence, a_set, a_sequence_of, a_set_of, a_choice, Presence, mandatory, optional, default, addition, Component, Resolved, Is}
use Rattle.asn_base.specs.Typed.{members, nodes, row_nodes, IsPrimitive, fits_boolean, fits_integer, fits_enumerated, fits_bits, fits_named_bits, fits_octets, fits_null, fits_oid, fits_relative_oid, fits_utf8, fits_restricted, ValueIn, value_in, ValueOf, of_leaf, of_sequence, of_set, of_sequence_of, of_set_of, of_choice, MayBeAbsent, where_optional, where_default, where_addition, AreComponents, no_component, component_absent, component_present, AreElements, no_element, one_element}
use Rattle.asn_base.proofs.Leaves.{without}
use Rattle.asn_base.specs.proving.OneKind.{same_kind}
use Rattle.asn_base.specs.proving.Lists.{onward}
use Rattle.asn_base.specs.proving.OneDefault.{value_of_at}

-- ---- the kind of the type

pub to_parts : {s : List Resolved} {n : ℕ} {k : Kind} {v : AbstractValue} → ValueOf s n k v → IsPrimitive k v ⊎ HoldsMembers s n k v
to_parts (of_leaf f) = inl f
to_parts (of_sequence a g) = inr (a, g)
to_parts (of_set a g) = inr (a, g)
to_parts (of_sequence_of a z) = inr (a, z)
to_parts (of_set_of a z) = inr (a, z)
to_parts (of_choice {a = b} g a) = inr (b, g, a)

pub from_parts : {s : List Resolved} {n : ℕ} (k : Kind) (v : AbstractValue) → HoldsMembers s n k v → ValueOf s n k v
from_parts (a_sequence e cs) (fields vs) h = of_sequence h.0 h.1
from_parts (a_set e cs) (fields vs) h = of_set h.0 h.1
from_parts (a_sequence_of c u) (list vs) h = of_sequence_of h.0 h.1
from_parts (a_set_of c u) (list vs) h = of_set_of h.0 h.1
from_parts (a_choice root e more) (alternative i v) h = of_choice h.1 h.2
from_parts k v h = absurd h

-- what is known of the kind
pub in_kind : {s : List Resolved} {n t : ℕ} {r : Resolved} {v : AbstractValue} → slice_get s t ≡ Some r → ValueIn s (suc n) t v → ValueOf s n r.kind v
in_kind {r = r} e (value_in i a) = value_of_at (same_kind (at e) i) a
  where
    at : {s : List Resolved} {t : ℕ} {r : Resolved} → slice_get s t ≡ Some r → Is s t r.tags r.kind
    at e = record { found = e }

pub of_kind : {s : List Resolved} {n t : ℕ} {r : Resolved} {v : AbstractValue} → slice_get s t ≡ Some r → ValueOf s n r.kind v → ValueIn s (suc n) t v
of_kind {r = r} e a = value_in {tags = r.tags} (record { found = e }) a

pub no_levels : {s : List Resolved} {t : ℕ} {v : AbstractValue} {n : ℕ} → n ≡ 0 → ValueIn s n t v → ⊥
no_levels e (value_in i a) = omega arith

beyond : (s : List Resolved) (t : ℕ) (r : Resolved) → slice_get s t ≡ Some r → length s ≤ t → ⊥
beyond [] t r e l = cc
beyond (x ∷ s) zero r e l = omega arith
beyond (x ∷ s) (suc t) r e l = beyond s t r e (omega arith)

pub no_type : {s : List Resolved} {n t : ℕ} {v : AbstractValue} → length s ≤ t → ValueIn s n t v → ⊥
no_type {s} {t = t} l (value_in i a) = beyond s t _ i.found l

-- a type whose core is shared
pub with_core : (s : List Resolved) (t : ℕ) (r : Resolved') {k : Core} → slice_get s t ≡ Some (resolved_of r) → k ≡ r.core.value →
    slice_get s t ≡ Some (record { tags = r.tags.items; kind = kind_of k })
with_core s t r {k} e h = e ∙ ap (λ (c : Core). Some (record { tags = r.tags.items; kind = kind_of c })) (sym h)

-- one level more
one_more : (n : ℕ) → 0 < n → suc (n - 1) ≡ n
one_more n l = omega arith

pub in_leaf_yes : {s : List Resolved} {t : ℕ} {r : Resolved} {v : AbstractValue} (n : ℕ) → 0 < n → slice_get s t ≡ Some r → IsPrimitive r.kind v → ValueIn s n t v
in_leaf_yes {s} {t} {v = v} n l e f = subst (λ q. ValueIn s q t v) (one_more n l) (of_kind e (of_leaf f))

pub in_leaf_only : {s : List Resolved} {t : ℕ} {r : Resolved} {v : AbstractValue} {b : Bool} (n : ℕ) → 0 < n → slice_get s t ≡ Some r → (HoldsMembers s (n - 1) r.kind v → ⊥) → IsTrue b ↔ IsPrimitive r.kind v → IsTrue b ↔ ValueIn s n t v
in_leaf_only {s} {t} {r} {v} n l e none f = onward f (in_leaf_yes n l e) (λ y. flat (to_parts (in_kind e (subst (λ q. ValueIn s q t v) (sym (one_more n l)) y))))
  where
    flat : IsPrimitive r.kind v ⊎ HoldsMembers s (n - 1) r.kind v → IsPrimitive r.kind v
    flat (inl h) = h
    flat (inr h) = absurd (none h)

pub in_holder : {s : List Resolved} {t : ℕ} {r : Resolved} {v : AbstractValue} {b : Bool} (n : ℕ) → 0 < n → slice_get s t ≡ Some r → (IsPrimitive r.kind v → ⊥) → IsTrue b ↔ HoldsMembers s (n - 1) r.kind v → IsTrue b ↔ ValueIn s n t v
in_holder {s} {t} {r} {v} n l e f h = (
  λ x. subst (λ q. ValueIn s q t v) (one_more n l) (of_kind e (from_parts r.kind v (h.0 x))),
  λ y. h.1 (without f (to_parts (in_kind e (subst (λ q. ValueIn s q t v) (sym (one_more n l)) y)))),
)

pub held : (s : List Resolved) (n : ℕ) {k m : Kind} {v w : AbstractValue} {r : Bool} → k ≡ m → v ≡ w → IsTrue r ↔ HoldsMembers s n m w → IsTrue r ↔ HoldsMembers s n k v
held s n {k = k} {m = m} {v = v} {w = w} {r = r} e f a = subst (λ q. IsTrue r ↔ HoldsMembers s n q v) (sym e) (subst (λ q. IsTrue r ↔ HoldsMembers s n m q) (sym f) a)

-- ---- components

pub as_many : {s : List Resolved} {n : ℕ} (cs : List Component) (vs : List (Option AbstractValue)) → AreComponents s n cs (row_of_options vs) → length cs ≡ length vs
as_many [] [] a = refl
as_many [] (None ∷ vs) a = elim a [ ]
as_many [] (Some v ∷ vs) a = elim a [ ]
as_many (c ∷ cs) [] a = elim a [ ]
as_many (c ∷ cs) (None ∷ vs) a = ap suc (as_many cs vs (tail_absent a))
  where
    tail_absent : {s : List Resolved} {n : ℕ} {c : Component} {cs : List Component} {vs : Row} → AreComponents s n (c ∷ cs) (absent vs) → AreComponents s n cs vs
    tail_absent (component_absent m a) = a
as_many (c ∷ cs) (Some v ∷ vs) a = ap suc (as_many cs vs (tail_present a))
  where
    tail_present : {s : List Resolved} {n : ℕ} {c : Component} {cs : List Component} {v : AbstractValue} {vs : Row} → AreComponents s n (c ∷ cs) (present v vs) → AreComponents s n cs vs
    tail_present (component_present m a) = a

pub first_and_rest : {s : List Resolved} {n : ℕ} {c : Component} {cs : List Component} (o : Option AbstractValue) (os : List (Option AbstractValue)) → AreComponents s n (c ∷ cs) (row_of_options (o ∷ os)) ↔ (IsComponent s n c o × AreComponents s n cs (row_of_options os))
first_and_rest None os = (λ a. split a, λ p. component_absent p.0 p.1)
  where
    split : {s : List Resolved} {n : ℕ} {c : Component} {cs : List Component} {vs : Row} → AreComponents s n (c ∷ cs) (absent vs) → MayBeAbsent s n c.type c.presence × AreComponents s n cs vs
    split (component_absent m a) = (m, a)
first_and_rest (Some v) os = (λ a. split a, λ p. component_present p.0 p.1)
  where
    split : {s : List Resolved} {n : ℕ} {c : Component} {cs : List Component} {v : AbstractValue} {vs : Row} → AreComponents s n (c ∷ cs) (present v vs) → ValueIn s n c.type v × AreComponents s n cs vs
    split (component_present m a) = (m, a)

-- what the whole list of components comes down to, from a place on
abbrev pub ComponentsFrom : List Resolved → ℕ → List Component → List (Option AbstractValue) → ℕ → Type 0
ComponentsFrom s n cs vs i = AreComponents s n cs (row_of_options vs) ↔ AreComponents s n (drop i cs) (row_of_options (drop i vs))

pub opened : (s : List Resolved) (n : ℕ) (cs : List Component) (vs : List (Option AbstractValue)) (i : ℕ) {c : Component} {o : Option AbstractValue} {cs' : List Component} {vs' : List (Option AbstractValue)} → drop i cs ≡ c ∷ cs' → drop i vs ≡ o ∷ vs' → ComponentsFrom s n cs vs i → AreComponents s n cs (row_of_options vs) ↔ (IsComponent s n c o × AreComponents s n cs' (row_of_options vs'))
opened s n cs vs i {c = c} {o = o} {cs' = cs'} {vs' = vs'} e f a =
    let b = subst (λ q. AreComponents s n cs (row_of_options vs) ↔ AreComponents s n q (row_of_options (drop i vs))) e a in
    let d = subst (λ q. AreComponents s n cs (row_of_options vs) ↔ AreComponents s n (c ∷ cs') (row_of_options q)) f b in
    let g = first_and_rest {s = s} {n = n} {c = c} {cs = cs'} o vs' in
    onward d g.0 g.1

pub next_component : {P Q R : Type 0} → P ↔ (Q × R) → Q → P ↔ R
next_component a q = onward a (λ p. p.1) (λ r. (q, r))

pub no_first : {P Q R : Type 0} → P ↔ (Q × R) → (Q → ⊥) → P → ⊥
no_first a n p = n (a.0 p).0

pub all_components : (s : List Resolved) (n : ℕ) (cs : List Component) (vs : List (Option AbstractValue)) (i : ℕ) → drop i cs ≡ [] → drop i vs ≡ [] → ComponentsFrom s n cs vs i → AreComponents s n cs (row_of_options vs)
all_components s n cs vs i e f a = a.1 (subst (λ q. AreComponents s n q (row_of_options (drop i vs))) (sym e) (subst (λ q. AreComponents s n [] (row_of_options q)) (sym f) no_component))

pub not_mandatory : {s : List Resolved} {n t : ℕ} → MayBeAbsent s n t mandatory → ⊥
not_mandatory a = elim a [ ]

pub in_default : {s : List Resolved} {n t : ℕ} {d : AbstractValue} → MayBeAbsent s n t (default d) → ValueIn s n t d
in_default (where_default v) = v

pub by_default : {s : List Resolved} {n t : ℕ} {d : AbstractValue} {p : Presence} {r : Bool} → p ≡ default d → IsTrue r ↔ ValueIn s n t d → IsTrue r ↔ MayBeAbsent s n t p
by_default {s} {n} {t} {r = r} e a = subst (λ q. IsTrue r ↔ MayBeAbsent s n t q) (sym e) (onward a where_default in_default)

-- ---- elements

pub member_count : (vs : List AbstractValue) → members (row_of_list vs) ≡ length vs
member_count [] = refl
member_count (v ∷ vs) = ap suc (member_count vs)

abbrev pub ElementsFrom : List Resolved → ℕ → ℕ → List AbstractValue → ℕ → Type 0
ElementsFrom s n u vs i = AreElements s n u (row_of_list vs) ↔ AreElements s n u (row_of_list (drop i vs))

pub split_elements : {s : List Resolved} {n u : ℕ} {v : AbstractValue} {vs : Row} → AreElements s n u (present v vs) → ValueIn s n u v × AreElements s n u vs
split_elements (one_element v a) = (v, a)

pub opened_elements : (s : List Resolved) (n u : ℕ) (vs : List AbstractValue) (i : ℕ) {v : AbstractValue} {vs' : List AbstractValue} → drop i vs ≡ v ∷ vs' → ElementsFrom s n u vs i → AreElements s n u (row_of_list vs) ↔ (ValueIn s n u v × AreElements s n u (row_of_list vs'))
opened_elements s n u vs i e a =
    let b = subst (λ q. AreElements s n u (row_of_list vs) ↔ AreElements s n u (row_of_list q)) e a in
    onward b split_elements (λ p. one_element p.0 p.1)

pub all_elements : (s : List Resolved) (n u : ℕ) (vs : List AbstractValue) (i : ℕ) → drop i vs ≡ [] → ElementsFrom s n u vs i → AreElements s n u (row_of_list vs)
all_elements s n u vs i e a = a.1 (subst (λ q. AreElements s n u (row_of_list q)) (sym e) no_element)

-- ---- alternatives

pub chosen : (s : List Resolved) (n i t : ℕ) (as' : List Alternative) {v : AbstractValue} {r : Bool} (a : Alternative) → slice_get as' i ≡ Some a → a.type ≡ t → IsTrue r ↔ ValueIn s n t v → IsTrue r ↔ IsChosen s n as' i v
chosen s n i t as' {v = v} a e f h = onward h (λ x. (a, e, subst (λ q. ValueIn s n q v) (sym f) x)) (λ p. subst (λ q. ValueIn s n q v) (same p.0 p.1 ∙ f) p.2)
  where
    same : (b : Alternative) → slice_get as' i ≡ Some b → b.type ≡ a.type
    same b g = let h : Some b ≡ Some a = sym g ∙ e in ap (λ o. type_in o) h
      where
        type_in : Option Alternative → ℕ
        type_in None = 0
        type_in (Some x) = x.type

pub none_chosen : (s : List Resolved) (n i : ℕ) (as' : List Alternative) {v : AbstractValue} → slice_get as' i ≡ None → IsChosen s n as' i v → ⊥
none_chosen s n i as' e p = let f = sym e ∙ p.1 in cc

-- ---- groups

pub absent_at : (s : List Resolved) (n : ℕ) (c : Component) {o : Option AbstractValue} {r : Bool} → o ≡ None → IsTrue r ↔ MayBeAbsent s n c.type c.presence → IsTrue r ↔ IsComponent s n c o
absent_at s n c {r = r} e a = subst (λ q. IsTrue r ↔ IsComponent s n c q) (sym e) a

pub present_at : (s : List Resolved) (n : ℕ) (c : Component) {o : Option AbstractValue} {v : AbstractValue} {r : Bool} → o ≡ Some v → IsTrue r ↔ ValueIn s n c.type v → IsTrue r ↔ IsComponent s n c o
present_at s n c {r = r} e a = subst (λ q. IsTrue r ↔ IsComponent s n c q) (sym e) a

pub may_optional : {s : List Resolved} {n t : ℕ} {p : Presence} → p ≡ optional → MayBeAbsent s n t p
may_optional {s} {n} {t} e = subst (MayBeAbsent s n t) (sym e) where_optional

pub may_addition : {s : List Resolved} {n t : ℕ} {p : Presence} {o : Bool} {g : Option ℕ} → p ≡ addition o g → MayBeAbsent s n t p
may_addition {s} {n} {t} e = subst (MayBeAbsent s n t) (sym e) where_addition

pub kept_some : (P S : ℕ → Type 0) {r : Bool} (g : ℕ) → ((h : ℕ) → (Some g ≡ Some h ↔ S h)) → IsTrue r ↔ P g → IsTrue (not r) ↔ ((h : ℕ) → S h → P h → ⊥)
kept_some P S {r = true} g e a = (λ t. absurd (cc), λ all. absurd (all g ((e g).0 refl) (a.0 refl)))
kept_some P S {r = false} g e a = (
  λ t h s p.
      let same : Some g ≡ Some h = (e h).1 s in
      let i : h ≡ g = cc in
      let is : false ≡ true = a.1 (subst P i p) in
      cc,
  λ all. refl,
)

pub kept_none : (P S : ℕ → Type 0) → ((h : ℕ) → (None ≡ Some h ↔ S h)) → IsTrue true ↔ ((h : ℕ) → S h → P h → ⊥)
kept_none P S e = (λ t h s p. let same : None ≡ Some h = (e h).1 s in cc, λ all. refl)

-- ---- nodes

pub some_nodes : (v : AbstractValue) → 1 ≤ nodes v
some_nodes (boolean b) = omega arith
some_nodes (integer z) = omega arith
some_nodes (enumerated z) = omega arith
some_nodes (bits s) = omega arith
some_nodes (octets o) = omega arith
some_nodes (text o) = omega arith
some_nodes null = omega arith
some_nodes (oid ns) = omega arith
some_nodes (relative_oid ns) = omega arith
some_nodes (fields vs) = omega arith
some_nodes (list vs) = omega arith
some_nodes (alternative i v) = omega arith

-- a value that holds no others is one node
pub one_node : {k : Kind} {v : AbstractValue} → IsPrimitive k v → nodes v ≡ 1
one_node fits_boolean = refl
one_node (fits_integer w a) = refl
one_node (fits_enumerated w a) = refl
one_node (fits_bits a) = refl
one_node fits_named_bits = refl
one_node (fits_octets b a) = refl
one_node fits_null = refl
one_node (fits_oid a) = refl
one_node (fits_relative_oid a) = refl
one_node (fits_utf8 u a) = refl
one_node (fits_restricted c a) = refl

-- the nodes of components from a place on are those of the component there and of those after it
pub row_at : (os : List (Option AbstractValue)) (i : ℕ) {o : Option AbstractValue} {os' : List (Option AbstractValue)} → drop i os ≡ o ∷ os' → row_nodes (row_of_options (drop i os)) ≡ nodes_of o + row_nodes (row_of_options os')
row_at os i {o = None} {os' = os'} e =
    let h : row_nodes (row_of_options (drop i os)) ≡ row_nodes (row_of_options os') = ap (λ q. row_nodes (row_of_options q)) e in
    omega (arith, h)
row_at os i {o = Some v} e = ap (λ q. row_nodes (row_of_options q)) e

-- what is left after one more of them
pub left_after : (before after one rest all : ℕ) → after ≡ before - one → before - (one + rest) ≡ all → after - rest ≡ all
left_after before after one rest all e f = omega arith
