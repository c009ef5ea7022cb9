-- Components without additions, as a loop goes over them.
use Rattle.std.proofs.Common.{arith, ◌≡◌, ℕ, zero, suc, ◌+◌, ◌<◌, ◌≤◌, Bool, true, false, List, [], ◌∷◌, length, drop, map, inl, inr, refl, sym, ap, subst, ◌∙◌, get_or}
use Rattle.std.specs.Prelude.{◌↔◌, IsTrue, Option, Some, None, if◌then◌else◌, slice_get}
use Rattle.asn_base.specs.declared.schema.Component.{Component as Component'}
use Rattle.asn_base.specs.declared.schema.Core.{Core}
use Rattle.asn_base.specs.declared.tag.Tag.{Tag}
use Rattle.asn_base.specs.Abstract.{AbstractValue, fields, Row, end, absent, present, placed, row_of_options}
use Rattle.asn_base.specs.Additions.{IsValueWithoutAdditions, without_additions}
use Rattle.asn_base.specs.Decided.{HoldsMembers, IsComponent}
use Rattle.asn_base.specs.Depths.{AreOf, IsOf}
use Rattle.asn_base.specs.Schemas.{components, is_addition}
use Rattle.asn_base.specs.Seen.{component_of, kind_of}
use Rattle.asn_base.specs.Types.{Component, Kind, a_null, a_sequence, a_set, Presence, mandatory, optional, default, addition, Resolved}
use Rattle.asn_base.specs.Typed.{AreComponents, no_component, GroupsAreWhole, HasOfGroup, IsPrimitive, IsValueWithoutNodes, MayBeAbsent, ValueIn, component_absent, component_present, group_of, where_addition}
use Rattle.asn_base.proofs.Leaves.{without}
use Rattle.asn_base.proofs.Parts.{from_parts, in_kind, next_component, no_first, of_kind, to_parts}
use Rattle.asn_base.specs.proving.Lists.{length_mapped, drop_end, drop_is, onward, place_is, places, drop_past}

-- ---- one component

may_be_absent : {s : List Resolved} {n : ℕ} (t : ℕ) (p : Presence) → elim p [ mandatory ↦ false | optional ↦ false | default d ↦ false | addition o g ↦ true ] ≡ true → MayBeAbsent s n t p
may_be_absent t mandatory e = cc
may_be_absent t optional e = cc
may_be_absent t (default d) e = cc
may_be_absent t (addition o g) e = where_addition

-- an addition that is left out
pub left_out : (s : List Resolved) (n : ℕ) (o : Option AbstractValue) (c : Component) → is_addition c ≡ true → IsComponent s n c (if is_addition c then None else o)
left_out s n o c e = subst (λ b. IsComponent s n c (if b then None else o)) (sym e) (may_be_absent c.type c.presence e)

-- one that stays
pub stays : (s : List Resolved) (n : ℕ) (o : Option AbstractValue) {r : Bool} (c : Component) → is_addition c ≡ false → IsTrue r ↔ IsComponent s n c o → IsTrue r ↔ IsComponent s n c (if is_addition c then None else o)
stays s n o {r} c e h = subst (λ b. IsTrue r ↔ IsComponent s n c (if b then None else o)) (sym e) h

-- ---- all of them

-- a component and those after it, as the row says them
absent_first : {s : List Resolved} {n : ℕ} {c : Component} {cs : List Component} {vs : Row} → AreComponents s n (c ∷ cs) (absent vs) ↔ (MayBeAbsent s n c.type c.presence × AreComponents s n cs vs)
absent_first = (λ a. split a, λ p. component_absent p.0 p.1)
  where
    split : {s : List Resolved} {n : ℕ} {c : Component} {cs : List Component} {vs : Row} → AreComponents s n (c ∷ cs) (absent vs) → MayBeAbsent s n c.type c.presence × AreComponents s n cs vs
    split (component_absent m a) = (m, a)

present_first : {s : List Resolved} {n : ℕ} {c : Component} {cs : List Component} {v : AbstractValue} {vs : Row} → AreComponents s n (c ∷ cs) (present v vs) ↔ (ValueIn s n c.type v × AreComponents s n cs vs)
present_first = (λ a. split a, λ p. component_present p.0 p.1)
  where
    split : {s : List Resolved} {n : ℕ} {c : Component} {cs : List Component} {v : AbstractValue} {vs : Row} → AreComponents s n (c ∷ cs) (present v vs) → ValueIn s n c.type v × AreComponents s n cs vs
    split (component_present m a) = (m, a)

first_in_root : {s : List Resolved} {n : ℕ} {cs : List Component} (c : Component) (o : Option AbstractValue) (os : List (Option AbstractValue))
    → AreComponents s n (c ∷ cs) (without_additions (c ∷ cs) (row_of_options (o ∷ os))) ↔ (IsComponent s n c (if is_addition c then None else o) × AreComponents s n cs (without_additions cs (row_of_options os)))
first_in_root {s} {n} {cs} c None os = by (is_addition c)
  where
    by : (b : Bool) → AreComponents s n (c ∷ cs) (absent (without_additions cs (row_of_options os))) ↔ (IsComponent s n c (if b then None else None) × AreComponents s n cs (without_additions cs (row_of_options os)))
    by true = absent_first
    by false = absent_first
first_in_root {s} {n} {cs} c (Some v) os = by (is_addition c)
  where
    by : (b : Bool) → AreComponents s n (c ∷ cs) (if b then absent (without_additions cs (row_of_options os)) else present v (without_additions cs (row_of_options os))) ↔ (IsComponent s n c (if b then None else Some v) × AreComponents s n cs (without_additions cs (row_of_options os)))
    by true = absent_first
    by false = present_first

as_long : {s : List Resolved} {n : ℕ} (cs : List Component) (vs : List (Option AbstractValue)) → AreComponents s n cs (without_additions cs (row_of_options vs)) → length cs ≡ length vs
as_long [] [] a = refl
as_long [] (None ∷ vs) a = elim a [ ]
as_long [] (Some v ∷ vs) a = elim a [ ]
as_long (c ∷ cs) [] a = elim a [ ]
as_long (c ∷ cs) (o ∷ vs) a = ap suc (as_long cs vs ((first_in_root c o vs).0 a).1)

-- what the whole list comes down to, from a place on
abbrev pub RootFrom : List Resolved → ℕ → List Component → List (Option AbstractValue) → ℕ → Type 0
RootFrom s n cs vs i = AreComponents s n cs (without_additions cs (row_of_options vs)) ↔ AreComponents s n (drop i cs) (without_additions (drop i cs) (row_of_options (drop i vs)))

-- What the whole comes down to when the components before place i were judged. Those that are left are the same.
pub record InRoot (s : List Resolved) (n : ℕ) (cs : List Component') (size : ℕ) (f left : ℕ → Option AbstractValue) (i : ℕ) : Type 0 where
  pub same : (j : ℕ) → i ≤ j → left j ≡ f j
  pub parts : RootFrom s n (map component_of cs) (placed size f) i

pub root_begin : {s : List Resolved} {n : ℕ} {cs : List Component'} {size : ℕ} (f : ℕ → Option AbstractValue) → InRoot s n cs size f f 0
root_begin f = record { same = λ j l. refl; parts = (λ a. a, λ a. a) }

opened : (s : List Resolved) (n : ℕ) (cs : List Component) (vs : List (Option AbstractValue)) (i : ℕ) {c : Component} {o : Option AbstractValue} {cs' : List Component} {vs' : List (Option AbstractValue)} → drop i cs ≡ c ∷ cs' → drop i vs ≡ o ∷ vs' → RootFrom s n cs vs i
    → AreComponents s n cs (without_additions cs (row_of_options vs)) ↔ (IsComponent s n c (if is_addition c then None else o) × AreComponents s n cs' (without_additions cs' (row_of_options vs')))
opened s n cs vs i {c = c} {o = o} {cs' = cs'} {vs' = vs'} e f a =
    let b = subst (λ q. AreComponents s n cs (without_additions cs (row_of_options vs)) ↔ AreComponents s n q (without_additions q (row_of_options (drop i vs)))) e a in
    let d = subst (λ q. AreComponents s n cs (without_additions cs (row_of_options vs)) ↔ AreComponents s n (c ∷ cs') (without_additions (c ∷ cs') (row_of_options q))) f b in
    let g = first_in_root {s = s} {n = n} {cs = cs'} c o vs' in
    onward d g.0 g.1

opened_at : {s : List Resolved} {n : ℕ} {cs : List Component'} {size : ℕ} {f left : ℕ → Option AbstractValue} {i : ℕ} → InRoot s n cs size f left i → (c : Component') {o : Option AbstractValue} → size ≡ length cs → i < length cs → c ≡ get_or cs i c → o ≡ left i
    → AreComponents s n (map component_of cs) (without_additions (map component_of cs) (row_of_options (placed size f))) ↔ (IsComponent s n (component_of c) (if is_addition (component_of c) then None else o) × AreComponents s n (drop (i + 1) (map component_of cs)) (without_additions (drop (i + 1) (map component_of cs)) (row_of_options (drop (i + 1) (placed size f)))))
opened_at {s} {n} {cs} {size} {f} {i = i} so_far c k l is e =
    let here = place_is size f i (omega (arith, k, l)) ∙ ap (λ q. q ∷ drop (i + 1) (placed size f)) (sym (e ∙ so_far.same i (omega arith))) in
    opened s n (map component_of cs) (placed size f) i (drop_is component_of cs i c l is) here so_far.parts

pub root_more : {s : List Resolved} {n : ℕ} {cs : List Component'} {size : ℕ} {f left : ℕ → Option AbstractValue} {i : ℕ} (after : ℕ → Option AbstractValue) (c : Component') {o : Option AbstractValue}
    → InRoot s n cs size f left i
    → size ≡ length cs
    → i < length cs
    → c ≡ get_or cs i c
    → o ≡ left i
    → ((j : ℕ) → i < j → after j ≡ left j)
    → IsComponent s n (component_of c) (if is_addition (component_of c) then None else o)
    → InRoot s n cs size f after (i + 1)
root_more after c so_far k l is e b h = record {
  same = λ j m. b j (omega (arith, m)) ∙ so_far.same j (omega (arith, m));
  parts = next_component (opened_at so_far c k l is e) h;
}

pub root_wrong : {s : List Resolved} {n : ℕ} {cs : List Component'} {size : ℕ} {f left : ℕ → Option AbstractValue} {i : ℕ} (c : Component') {o : Option AbstractValue}
    → InRoot s n cs size f left i
    → size ≡ length cs
    → i < length cs
    → c ≡ get_or cs i c
    → o ≡ left i
    → (IsComponent s n (component_of c) (if is_addition (component_of c) then None else o) → ⊥)
    → AreComponents s n (map component_of cs) (without_additions (map component_of cs) (row_of_options (placed size f)))
    → ⊥
root_wrong c so_far k l is e h = no_first (opened_at so_far c k l is e) h

pub root_all : {s : List Resolved} {n : ℕ} {cs : List Component'} {size : ℕ} {f left : ℕ → Option AbstractValue} {i : ℕ}
    → InRoot s n cs size f left i
    → size ≡ length cs
    → length cs ≤ i
    → AreComponents s n (map component_of cs) (without_additions (map component_of cs) (row_of_options (placed size f)))
root_all {s} {n} {cs} {size} {f} {i = i} so_far k l =
    let none : drop i (placed size f) ≡ [] = drop_past (placed size f) i (let e = places size f in omega (arith, e, k, l)) in
    let end' = drop_end component_of cs i l in
    so_far.parts.1 (subst (λ q. AreComponents s n q (without_additions q (row_of_options (drop i (placed size f))))) (sym end') (subst (λ q. AreComponents s n [] (row_of_options q)) (sym none) no_component))

pub root_size : {s : List Resolved} {n : ℕ} (cs : List Component') (size : ℕ) (f : ℕ → Option AbstractValue) → AreComponents s n (map component_of cs) (without_additions (map component_of cs) (row_of_options (placed size f))) → size ≡ length cs
root_size cs size f a =
    sym (sym (length_mapped component_of cs) ∙ as_long (map component_of cs) (placed size f) a ∙ places size f)

-- ---- groups

of_no_group : (g : ℕ) (p : Presence) → elim p [ mandatory ↦ false | optional ↦ false | default d ↦ false | addition o h ↦ true ] ≡ false → group_of p ≡ Some g → ⊥
of_no_group g mandatory e h = cc
of_no_group g optional e h = cc
of_no_group g (default d) e h = cc
of_no_group g (addition o i) e h = cc

-- without additions no group has a member
no_group : (g : ℕ) (cs : List Component) (vs : Row) → HasOfGroup g cs (without_additions cs vs) → ⊥
no_group g [] end h = h
no_group g [] (absent vs) h = h
no_group g [] (present v vs) h = h
no_group g (c ∷ cs) end h = h
no_group g (c ∷ cs) (absent vs) h = no_group g cs vs h
no_group g (c ∷ cs) (present v vs) h = by (is_addition c) refl h (no_group g cs vs)
  where
    by : (b : Bool) → is_addition c ≡ b → HasOfGroup g (c ∷ cs) (if b then absent (without_additions cs vs) else present v (without_additions cs vs)) → (HasOfGroup g cs (without_additions cs vs) → ⊥) → ⊥
    by true e k n = n k
    by false e (inl k) n = of_no_group g c.presence e k
    by false e (inr k) n = n k

with_groups : {s : List Resolved} {n : ℕ} {b : Bool} (cs : List Component) (vs : Row) → IsTrue b ↔ AreComponents s n cs (without_additions cs vs)
    → IsTrue b ↔ (AreComponents s n cs (without_additions cs vs) × GroupsAreWhole cs (without_additions cs vs))
with_groups cs vs h = onward h (λ a. (a, λ g x l. no_group g cs vs x)) (λ p. p.0)

-- ---- by kind

pub root_sequence : {s : List Resolved} {n : ℕ} {b : Bool} {k : Kind} {e : Bool} {cs : List Component} (vs : Row) → k ≡ a_sequence e cs → IsTrue b ↔ AreComponents s n cs (without_additions cs vs)
    → IsTrue b ↔ HoldsMembers s n k (fields (without_additions (components k) vs))
root_sequence {s} {n} {b} {cs = cs} vs g h = subst (λ q. IsTrue b ↔ HoldsMembers s n q (fields (without_additions (components q) vs))) (sym g) (with_groups cs vs h)

pub root_set : {s : List Resolved} {n : ℕ} {b : Bool} {k : Kind} {e : Bool} {cs : List Component} (vs : Row) → k ≡ a_set e cs → IsTrue b ↔ AreComponents s n cs (without_additions cs vs)
    → IsTrue b ↔ HoldsMembers s n k (fields (without_additions (components k) vs))
root_set {s} {n} {b} {cs = cs} vs g h = subst (λ q. IsTrue b ↔ HoldsMembers s n q (fields (without_additions (components q) vs))) (sym g) (with_groups cs vs h)

kind_in : Option Resolved → Kind
kind_in None = a_null
kind_in (Some r) = r.kind

no_leaf_fields : {k : Kind} {vs : Row} → IsPrimitive k (fields vs) → ⊥
no_leaf_fields h = elim h [ ]

-- type t has this kind after its tags
abbrev pub HasCore : List Resolved → ℕ → Core → Type 0
HasCore s t r = (tags : List Tag) × (slice_get s t ≡ Some (record { tags = tags; kind = kind_of r }))

pub is_of : (s : List Resolved) (t : ℕ) (r : Core) → HasCore s t r → IsOf s t (kind_of r)
is_of s t r e = (record { tags = e.0; kind = kind_of r }, e.1, refl)

pub are_of : (s : List Resolved) (t : ℕ) {k m : Kind} {cs : List Component} → k ≡ m → components m ≡ cs → IsOf s t k → AreOf s t cs
are_of s t e f i = (i.0, i.1, ap components (i.2 ∙ e) ∙ f)

pub root_as : (s : List Resolved) (t : ℕ) (r : Core) {b : Bool} {vs : Row} → HasCore s t r → IsTrue b ↔ HoldsMembers s 63 (kind_of r) (fields (without_additions (components (kind_of r)) vs))
    → IsTrue b ↔ IsValueWithoutAdditions s t vs
unfolding kind_in
root_as s t r {vs = vs} e h = onward h
    (λ a. record { type = record { tags = e.0; kind = kind_of r }; found = e.1; left = of_kind e.1 (from_parts (kind_of r) (fields (without_additions (components (kind_of r)) vs)) a) })
    (λ w.
    let same : w.type.kind ≡ kind_of r = ap kind_in (sym w.found ∙ e.1) in
    let left : IsValueWithoutNodes s t (fields (without_additions (components (kind_of r)) vs)) = subst (λ k. IsValueWithoutNodes s t (fields (without_additions (components k) vs))) same w.left in
    without no_leaf_fields (to_parts (in_kind {n = 63} e.1 left)))

pub no_such_type : {s : List Resolved} {t : ℕ} {vs : Row} → (t < length s → ⊥) → IsValueWithoutAdditions s t vs → ⊥
no_such_type {s} {t} n w = n (within s t w.found)
  where
    within : {A : Type 0} {x : A} (xs : List A) (i : ℕ) → slice_get xs i ≡ Some x → i < length xs
    within [] i e = cc
    within (y ∷ xs) zero e = omega arith
    within (y ∷ xs) (suc i) e = let l = within xs i e in omega (arith, l)
