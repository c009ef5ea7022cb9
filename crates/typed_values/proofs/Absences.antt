-- A component that may be absent with some levels left may be absent with more. A component is in only one list.
use Rattle.std.proofs.Common.{inl, inr, ◌≡◌, ℕ, zero, suc, ◌≤◌, refl, sym, ap, subst, ◌∙◌, Some, arith}
use Rattle.std.specs.Prelude.{List, [], ◌∷◌, ◌++◌, slice_get, ℤ}
use Rattle.asn_base.specs.Abstract.{AbstractValue, Row}
use Rattle.trees.specs.Values.{Name}
use Rattle.type_table.specs.Table.{Type', WrittenKind, Part, IsWrittenType, IsLinked}
use Rattle.type_table.specs.Table as table
use Rattle.resolve.specs.Program.{Program, IsAssignment}
use Rattle.value_notations.specs.Values.{NotatedValueIn, NotatedValueOf, AreNotatedComponents, AreNotatedElements, MayLackValue, value_in}
use Rattle.value_notations.specs.Values as values
use Rattle.values.specs.Allowing.{Allows, AllowsCode}
use Rattle.typed_values.specs.declared.levels.DefaultLevels.{DefaultLevels}
use Rattle.typed_values.specs.Known.{AreKnownDefaults, IsListed}
use Rattle.value_notations.specs.proving.Places.{one_some, less_or_more}
use Rattle.value_notations.specs.proving.Following.{one_header}
use Rattle.typed_values.proofs.Found.{at_end}
use Rattle.typed_values.proofs.Readings.{in_core}

-- ---- levels

mutual
  one_more : {p : Program} {A : ℕ → ℤ → Type 0} {C : ℕ → ℕ → Type 0} {n i : ℕ} {v : AbstractValue} →
      NotatedValueIn p A C n i v → NotatedValueIn p A C (suc n) i v
  one_more (value_in a b c h) = value_in a b c (more_of h)

  more_of : {p : Program} {A : ℕ → ℤ → Type 0} {C : ℕ → ℕ → Type 0} {n i : ℕ} {M : Name} {k : WrittenKind} {v : AbstractValue} →
      NotatedValueOf p A C n i M k v → NotatedValueOf p A C (suc n) i M k v
  more_of (values.of_leaf a) = values.of_leaf a
  more_of (values.of_fields none m g) = values.of_fields none (more_components m) g
  more_of (values.of_list m a) = values.of_list (more_elements m) a
  more_of (values.of_choice s h) = values.of_choice s (one_more h)

  more_absent : {p : Program} {A : ℕ → ℤ → Type 0} {C : ℕ → ℕ → Type 0} {n : ℕ} {M : Name} {c : Part} →
      MayLackValue p A C n M c → MayLackValue p A C (suc n) M c
  more_absent (values.where_optional e) = values.where_optional e
  more_absent (values.where_addition e) = values.where_addition e
  more_absent (values.where_default e f h g l) = values.where_default e f h (one_more g) l

  more_components : {p : Program} {A : ℕ → ℤ → Type 0} {C : ℕ → ℕ → Type 0} {n : ℕ} {M : Name} {cs : List Part} {r : Row} →
      AreNotatedComponents p A C n M cs r → AreNotatedComponents p A C (suc n) M cs r
  more_components values.no_component = values.no_component
  more_components (values.component_absent m r) = values.component_absent (more_absent m) (more_components r)
  more_components (values.component_present v r) = values.component_present (one_more v) (more_components r)

  more_elements : {p : Program} {A : ℕ → ℤ → Type 0} {C : ℕ → ℕ → Type 0} {n j : ℕ} {r : Row} →
      AreNotatedElements p A C n j r → AreNotatedElements p A C (suc n) j r
  more_elements values.no_element = values.no_element
  more_elements (values.one_element v r) = values.one_element (one_more v) (more_elements r)

pub absent_at_more : {p : Program} {M : Name} {c : Part} (m n : ℕ) → m ≤ n →
    MayLackValue p (Allows p) (AllowsCode p) m M c → MayLackValue p (Allows p) (AllowsCode p) n M c
absent_at_more {p} {M} {c} m zero l a =
    subst (λ q. MayLackValue p (Allows p) (AllowsCode p) q M c) (let e : m ≡ 0 = omega (arith, l) in e) a
absent_at_more {p} {M} {c} m (suc n) l a =
    elim (less_or_more m (suc n)) [
      | inl e ↦ subst (λ q. MayLackValue p (Allows p) (AllowsCode p) q M c) e a
      | inr h ↦ elim h [
        | inl b ↦ more_absent (absent_at_more m n (omega (arith, b)) a)
        | inr b ↦ absurd (omega (arith, b, l))
      ]
    ]

pub value_at_more : {p : Program} {i : ℕ} {v : AbstractValue} (m n : ℕ) → m ≤ n →
    NotatedValueIn p (Allows p) (AllowsCode p) m i v → NotatedValueIn p (Allows p) (AllowsCode p) n i v
value_at_more {p} {i} {v} m zero l a =
    subst (λ q. NotatedValueIn p (Allows p) (AllowsCode p) q i v) (let e : m ≡ 0 = omega (arith, l) in e) a
value_at_more {p} {i} {v} m (suc n) l a =
    elim (less_or_more m (suc n)) [
      | inl e ↦ subst (λ q. NotatedValueIn p (Allows p) (AllowsCode p) q i v) e a
      | inr h ↦ elim h [
        | inl b ↦ one_more (value_at_more m n (omega (arith, b)) a)
        | inr b ↦ absurd (omega (arith, b, l))
      ]
    ]

-- ---- one list

listed_at : {p : Program} {N : Name} {c : Part} → IsLinked p.types → (l : IsListed p N c) → (t : Type')
    × (slice_get p.types c.ty ≡ Some t) × (t.place ≡ Some (l.listed.written.core, l.there.0))
listed_at {p} {N} {c} k l =
    let w = l.listed.written in
    let at = k.places w.core l.there.0 l.listed.kind l.listed.marked l.parts w.type.default w.type.place c (in_core w) l.there.1 in (
      record { kind = at.0; constraints = at.1.constraints; default = w.type.default; place = Some (w.core, l.there.0); assignment = at.1.assignment },
      at.1.found,
      refl,
    )

abbrev parts_in : WrittenKind → List Part
parts_in (table.members k e cs) = cs
parts_in k = []

pub one_component : {p : Program} {M N : Name} {b c : Part} → IsLinked p.types → IsListed p M b → IsListed p N c →
    b.ty ≡ c.ty → (M ≡ N) × (b ≡ c)
one_component {p} {M} {N} {b} {c} k l m e =
    let s = listed_at k l in
    let t = listed_at k m in
    let v = l.listed.written in
    let w = m.listed.written in
    let types = one_some (slice_get p.types c.ty) s.0 t.0 (subst (λ q. slice_get p.types q ≡ Some s.0) e s.1) t.1 in
    let places = one_some t.0.place (v.core, l.there.0) (w.core, m.there.0)
    (subst (λ (q : Type'). q.place ≡ Some (v.core, l.there.0)) types s.2) t.2 in
    let cores : v.core ≡ w.core = ap (λ (q : ℕ × ℕ). q.0) places in
    let steps : l.there.0 ≡ m.there.0 = ap (λ (q : ℕ × ℕ). q.1) places in
    let lists = one_some (slice_get p.types w.core) v.type w.type (subst (λ q. slice_get p.types q ≡ Some v.type) cores v.there) w.there in
    let same : l.parts ≡ m.parts = ap parts_in (sym v.kind) ∙ ap (λ (q : Type'). parts_in q.kind) lists ∙ ap parts_in w.kind in (
      one_header p v.type.assignment M N v.assigns w.assigns v.is_so
          (subst (λ (q : Type'). IsAssignment p q.assignment N w.assigns) (sym lists) w.is_so),
      one_some (slice_get m.parts m.there.0) b c
          (subst (λ q. slice_get m.parts q ≡ Some b) steps (subst (λ (q : List Part). slice_get q l.there.0 ≡ Some b) same l.there.1))
          m.there.1,
    )

-- ---- the table

absent_as : {p : Program} {m n : ℕ} {M N : Name} {b c : Part} → m ≡ n → M ≡ N → b ≡ c →
    MayLackValue p (Allows p) (AllowsCode p) n N c → MayLackValue p (Allows p) (AllowsCode p) m M b
absent_as {p} {m} {n} {M} {N} {b} {c} e f g a =
    subst (λ q. MayLackValue p (Allows p) (AllowsCode p) q M b) (sym e)
    (subst (λ q. MayLackValue p (Allows p) (AllowsCode p) n q b) (sym f)
    (subst (λ (q : Part). MayLackValue p (Allows p) (AllowsCode p) n N q) (sym g) a))

pub noted : {p : Program} {N : Name} (ls ms : List DefaultLevels) (c : Part) (x : DefaultLevels) → ms ≡ ls ++ x ∷ [] →
    x.ty ≡ c.ty → IsLinked p.types → AreKnownDefaults p ls → IsListed p N c →
    MayLackValue p (Allows p) (AllowsCode p) x.levels N c → AreKnownDefaults p ms
noted {p} {N} ls ms c x q u k a h m = λ M d e g o t. elim (at_end ls x e o.0 (subst (λ zs. slice_get zs o.0 ≡ Some e) q o.1)) [
  | inl s ↦ a M d e g s t
  | inr s ↦
      let same = one_component k g h (sym t ∙ sym (ap (λ (z : DefaultLevels). z.ty) s) ∙ u) in
      absent_as (sym (ap (λ (z : DefaultLevels). z.levels) s)) same.0 same.1 m
]
