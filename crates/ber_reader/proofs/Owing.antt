-- What the own fault of components means: of 85 that a group is not whole, of 95 that levels are too many.
use Rattle.std.proofs.Common.{arith, ◌≡◌, ℕ, suc, ◌+◌, ◌≤◌, inl, inr, Bool, true, false, List, [], ◌∷◌, refl, sym, ap, subst, IsTrue, ◌↔◌, ◌∙◌}
use Rattle.std.specs.Prelude.{Some, None, if◌then◌else◌}
use Rattle.std.specs.List.{AllByRecursion}
use Rattle.asn_base.specs.declared.tag.Tag.{Tag}
use Rattle.asn_base.specs.Abstract.{AbstractValue, fields, Row, end, absent, present}
use Rattle.asn_base.specs.Schemas.{components, is_addition}
use Rattle.asn_base.specs.Typed.{IsValue, IsValueWithoutNodes, ValueIn, value_in, ValueOf, of_leaf, of_sequence, of_set, MayBeAbsent, where_addition, AreComponents, component_absent, component_present, GroupsAreWhole, HasOfGroup, group_of, nodes, row_nodes}
use Rattle.asn_base.specs.Types.{TypeNumber, Kind, a_null, a_sequence, a_set, Presence, mandatory, optional, default, addition, Component, Resolved, Is}
use Rattle.decode_faults.specs.declared.read_fault.ReadFault.TheVariants.{Missing, TooDeep}
use Rattle.asn_base.specs.Additions.{IsValueWithoutAdditions, without_additions}
use Rattle.ber_reader.specs.Judged.{kind_at, component_pieces, IsOwn, half_a_group, deep_component}

kind_is : {s : List Resolved} {t : TypeNumber} {tags : List Tag} {k : Kind} → Is s t tags k → kind_at s t ≡ k
kind_is i = ap (λ o. elim o [ None ↦ a_null | Some r ↦ r.kind ]) i.found

-- components that are a value, and that others in their place are one
record Opened (s : List Resolved) (n : ℕ) (k : Kind) (ws : Row) : Type 0 where
  parts : AreComponents s n (components k) ws
  back : (vs : Row) → AreComponents s n (components k) vs → GroupsAreWhole (components k) vs → ValueOf s n k (fields vs)

opened : {s : List Resolved} {n : ℕ} {k : Kind} {ws : Row} → ValueOf s n k (fields ws) → Opened s n k ws
opened (of_leaf f) = elim f [ ]
opened (of_sequence a g) = record { parts = a; back = λ vs b w. of_sequence b w }
opened (of_set a g) = record { parts = a; back = λ vs b w. of_set b w }

-- within a value
record Within (s : List Resolved) (n t : ℕ) (ws : Row) : Type 0 where
  tags : List Tag
  kind : Kind
  is : Is s t tags kind
  opens : Opened s n kind ws

within : {s : List Resolved} {n t : ℕ} {ws : Row} → ValueIn s (suc n) t (fields ws) → Within s n t ws
within (value_in {tags = tags} {k = k} i v) = record { tags = tags; kind = k; is = i; opens = opened v }

AreShallow : List Resolved → List Component → Row → Type 0
AreShallow s cs vs = AllByRecursion (λ p. ValueIn s 63 p.piece.type p.piece.value) (component_pieces 0 cs vs)

-- ---- 85

rest_of : {s : List Resolved} {n : ℕ} {c : Component} {cs : List Component} (v : AbstractValue) (r : Row) (b : Bool) → AreComponents s n (c ∷ cs) (if b then absent r else present v r) → AreComponents s n cs r
rest_of v r true (component_absent m q) = q
rest_of v r false (component_present w q) = q

-- additions that were left out are put back
refilled : {s : List Resolved} {n : ℕ} (i : ℕ) (cs : List Component) (vs : Row) → AreComponents s n cs (without_additions cs vs) → AllByRecursion (λ p. ValueIn s n p.piece.type p.piece.value) (component_pieces i cs vs) → AreComponents s n cs vs
refilled i [] vs a b = a
refilled i (c ∷ cs) end a b = a
refilled i (c ∷ cs) (absent vs) (component_absent m r) b = component_absent m (refilled (suc i) cs vs r b)
refilled {s} {n} i (c ∷ cs) (present v vs) a b = component_present b.0 (refilled (suc i) cs vs (rest_of v (without_additions cs vs) (is_addition c) a) b.1)

pub half_group : (s : List Resolved) (t : TypeNumber) (vs : Row)
    → IsOwn s t (fields vs) Missing
    → (IsValue s t (fields vs) → ⊥)
    → nodes (fields vs) ≤ 16777216
    → AllByRecursion (λ p. ValueIn s 63 p.piece.type p.piece.value) (component_pieces 0 (components (kind_at s t)) vs)
    → GroupsAreWhole (components (kind_at s t)) vs
    → ⊥
half_group s t vs (half_a_group r) n few sh whole =
    let w = within {n = 63} r.shaped in
    let e = kind_is w.is in
    let cs = components (kind_at s t) in
    let a = subst (λ k. AreComponents s 63 (components k) (without_additions cs vs)) (sym e) w.opens.parts in
    let b = refilled 0 cs vs a sh in
    n (record {
      shaped = value_in w.is (w.opens.back vs (subst (λ k. AreComponents s 63 (components k) vs) e b) (subst (λ k. GroupsAreWhole (components k) vs) e whole));
      few_nodes = few;
    })

-- ---- 95

may_be_absent : {s : List Resolved} {n : ℕ} (t : ℕ) (p : Presence) → elim p [ mandatory ↦ false | optional ↦ false | default d ↦ false | addition o g ↦ true ] ≡ true → MayBeAbsent s n t p
may_be_absent t mandatory e = cc
may_be_absent t optional e = cc
may_be_absent t (default d) e = cc
may_be_absent t (addition o g) e = where_addition

-- additions that are left out may be
emptied : {s : List Resolved} {n : ℕ} (cs : List Component) (vs : Row) → AreComponents s n cs vs → AreComponents s n cs (without_additions cs vs)
emptied [] vs a = a
emptied (c ∷ cs) end a = a
emptied (c ∷ cs) (absent vs) (component_absent m r) = component_absent m (emptied cs vs r)
emptied {s} {n} (c ∷ cs) (present v vs) (component_present w r) = by (is_addition c) refl (emptied cs vs r)
  where
    by : (b : Bool) → is_addition c ≡ b → AreComponents s n cs (without_additions cs vs) → AreComponents s n (c ∷ cs) (if b then absent (without_additions cs vs) else present v (without_additions cs vs))
    by true e h = component_absent (may_be_absent c.type c.presence e) h
    by false e h = component_present w h

of_no_group : (g : ℕ) (p : Presence) → elim p [ mandatory ↦ false | optional ↦ false | default d ↦ false | addition o h ↦ true ] ≡ false → group_of p ≡ Some g → ⊥
of_no_group g mandatory e h = cc
of_no_group g optional e h = cc
of_no_group g (default d) e h = cc
of_no_group g (addition o i) e h = cc

-- without additions no group has a member
no_group : (g : ℕ) (cs : List Component) (vs : Row) → HasOfGroup g cs (without_additions cs vs) → ⊥
no_group g [] end h = h
no_group g [] (absent vs) h = h
no_group g [] (present v vs) h = h
no_group g (c ∷ cs) end h = h
no_group g (c ∷ cs) (absent vs) h = no_group g cs vs h
no_group g (c ∷ cs) (present v vs) h = by (is_addition c) refl h (no_group g cs vs)
  where
    by : (b : Bool) → is_addition c ≡ b → HasOfGroup g (c ∷ cs) (if b then absent (without_additions cs vs) else present v (without_additions cs vs)) → (HasOfGroup g cs (without_additions cs vs) → ⊥) → ⊥
    by true e k n = n k
    by false e (inl k) n = of_no_group g c.presence e k
    by false e (inr k) n = n k

fewer : (cs : List Component) (vs : Row) → row_nodes (without_additions cs vs) ≤ row_nodes vs
fewer [] vs = omega arith
fewer (c ∷ cs) end = omega arith
fewer (c ∷ cs) (absent vs) = fewer cs vs
fewer (c ∷ cs) (present v vs) = by (is_addition c) (fewer cs vs)
  where
    by : (b : Bool) → row_nodes (without_additions cs vs) ≤ row_nodes vs → row_nodes (if b then absent (without_additions cs vs) else present v (without_additions cs vs)) ≤ nodes v + row_nodes vs
    by true h = omega arith
    by false h = omega arith

deep : (s : List Resolved) (t : TypeNumber) (tags : List Tag) (k : Kind) (vs : Row)
    → ((ws : Row) → AreComponents s 63 (components k) ws → GroupsAreWhole (components k) ws → ValueOf s 63 k (fields ws))
    → Is s t tags k
    → IsOwn s t (fields vs) TooDeep
    → nodes (fields vs) ≤ 16777216
    → AreComponents s 63 (components k) vs
    → ⊥
deep s t tags k vs back i (deep_component n) few a =
    let cs = components k in
    let few2 = fewer cs vs in
    let q : IsValue s t (fields (without_additions cs vs)) = record {
      shaped = value_in i (back (without_additions cs vs) (emptied cs vs a) (λ g h l. no_group g cs vs h));
      few_nodes = omega arith;
    } in
    n (subst (λ j. IsValue s t (fields (without_additions (components j) vs))) (sym (kind_is i)) q)

pub deep_sequence : (s : List Resolved) (t : TypeNumber) (tags : List Tag) (e : Bool) (cs : List Component) (vs : Row)
    → Is s t tags (a_sequence e cs)
    → IsOwn s t (fields vs) TooDeep
    → nodes (fields vs) ≤ 16777216
    → AreComponents s 63 cs vs
    → ⊥
deep_sequence s t tags e cs vs = deep s t tags (a_sequence e cs) vs (λ ws a g. of_sequence a g)

pub deep_set : (s : List Resolved) (t : TypeNumber) (tags : List Tag) (e : Bool) (cs : List Component) (vs : Row)
    → Is s t tags (a_set e cs)
    → IsOwn s t (fields vs) TooDeep
    → nodes (fields vs) ≤ 16777216
    → AreComponents s 63 cs vs
    → ⊥
deep_set s t tags e cs vs = deep s t tags (a_set e cs) vs (λ ws a g. of_set a g)

-- ---- components that were judged without additions

pub half_as : {s : List Resolved} {t : TypeNumber} {vs : Row} (b : Bool) → b ≡ true → IsTrue b ↔ IsValueWithoutAdditions s t vs → nodes (fields vs) ≤ 16777216 → IsOwn s t (fields vs) Missing
half_as {s} {t} {vs} b e h l =
    let w = h.0 e in
    let cs = components (kind_at s t) in
    let f = fewer cs vs in
    let k : kind_at s t ≡ w.type.kind = ap (λ o. elim o [ None ↦ a_null | Some r ↦ r.kind ]) w.found in
    half_a_group (record {
      shaped = subst (λ q. IsValueWithoutNodes s t (fields (without_additions (components q) vs))) (sym k) w.left;
      few_nodes = omega (arith, f, l);
    })

out_of : {s : List Resolved} {t : TypeNumber} {vs ws : Row} → ws ≡ without_additions (components (kind_at s t)) vs → ValueIn s 64 t (fields ws) → IsValueWithoutAdditions s t vs
out_of {s} {t} {vs} e (value_in {tags = tags} {k = k} i v) = record {
  type = record { tags = tags; kind = k };
  found = i.found;
  left = subst (λ q. IsValueWithoutNodes s t (fields q)) (e ∙ ap (λ q. without_additions (components q) vs) (kind_is i)) (value_in i v);
}

pub deep_as : {s : List Resolved} {t : TypeNumber} {vs : Row} (b : Bool) → b ≡ false → IsTrue b ↔ IsValueWithoutAdditions s t vs → IsOwn s t (fields vs) TooDeep
deep_as b e h = deep_component (λ i. let z = h.1 (out_of refl i.shaped) in cc)
