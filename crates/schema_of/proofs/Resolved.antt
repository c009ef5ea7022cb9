-- The values of a program's types are those of the schema's.
use Rattle.std.proofs.Common.{◌≡◌, ℕ, zero, suc, List, [], ◌∷◌, length, Option, Some, None, refl, sym, ap, subst, ◌∙◌}
use Rattle.std.specs.Prelude.{ℤ, slice_get}
use Rattle.std.specs.List.{AllByRecursion}
use Rattle.std.proofs.lemmas.Option.{same_Some, none-some}
use Rattle.asn_base.specs.Abstract.{AbstractValue, Row, boolean, integer, enumerated, bits, octets, text, null, oid, relative_oid, fields, list, alternative}
use Rattle.asn_base.specs.Names.{IsMember}
use Rattle.asn_base.specs.Types.{Component, Presence, Resolved}
use Rattle.asn_base.specs.Types as types
use Rattle.asn_base.specs.Typed as typed
use Rattle.asn_base.specs.Typed.{IsPrimitive, fits_boolean, fits_integer, fits_enumerated, fits_bits, fits_named_bits, fits_octets, fits_null, fits_oid, fits_relative_oid, fits_utf8, fits_restricted}
use Rattle.trees.specs.declared.module.TagDefault.{TagDefault}
use Rattle.trees.specs.Values.{Name, Tree}
use Rattle.trees.specs.Types.{Plain, default}
use Rattle.type_table.specs.Lists.{AreSound, IsSoundKind, IsSoundPlain}
use Rattle.type_table.specs.Walks.{follow, onward}
use Rattle.type_table.specs.Table.{Part, WrittenKind, Type', simple, IsUnderlying, next, target_of}
use Rattle.resolve.specs.Program.{Program, IsAssignment}
use Rattle.value_notations.specs.Notations.{Notation}
use Rattle.value_notations.specs.Values as values
use Rattle.value_notations.specs.Values.{IsPlainValue}
use Rattle.schema_of.specs.SchemaOf as schema_of
use Rattle.schema_of.specs.SchemaOf.{IsSchemaOf, IsKindOf, IsPresenceOf, AreComponentsOf}
use Rattle.schema_of.proofs.Lists.{groups_alike, resolved_alternative, there_too, number_resolved}

-- ---- one core

same_end : (f : ℕ → Option ℕ) (k m i c d : ℕ) → follow f k i ≡ Some c → f c ≡ None → follow f m i ≡ Some d → f d ≡ None → c ≡ d
same_end f zero zero i c d e n g o = same_Some c d (sym e ∙ g)
same_end f zero (suc m) i c d e n g o = absurd (go (f i) refl)
  where
    go : (x : Option ℕ) → f i ≡ x → ⊥
    go None q = none-some d (sym (ap (λ y. onward y (λ j. follow f m j)) q) ∙ g)
    go (Some j) q = none-some j (sym n ∙ sym (ap f (same_Some i c e)) ∙ q)
same_end f (suc k) zero i c d e n g o = absurd (go (f i) refl)
  where
    go : (x : Option ℕ) → f i ≡ x → ⊥
    go None q = none-some c (sym (ap (λ y. onward y (λ j. follow f k j)) q) ∙ e)
    go (Some j) q = none-some j (sym o ∙ sym (ap f (same_Some i d g)) ∙ q)
same_end f (suc k) (suc m) i c d e n g o = go (f i) refl (λ j. same_end f k m j c d)
  where
    go : (x : Option ℕ) → f i ≡ x → ((j : ℕ) → follow f k j ≡ Some c → f c ≡ None → follow f m j ≡ Some d → f d ≡ None → c ≡ d) → c ≡ d
    go None q more = absurd (none-some c (sym (ap (λ y. onward y (λ j. follow f k j)) q) ∙ e))
    go (Some j) q more = more j (sym (ap (λ y. onward y (λ j. follow f k j)) q) ∙ e) n (sym (ap (λ y. onward y (λ j. follow f m j)) q) ∙ g) o

one_core : (ts : List Type') (i c d : ℕ) → IsUnderlying ts i c → IsUnderlying ts i d → c ≡ d
one_core ts i c d a b = same_end (next ts) a.steps b.steps i c d a.chain a.ends b.chain b.ends

-- what unfolds is a type of the table
in_table : (ts : List Type') (i c : ℕ) (t : Type') → IsUnderlying ts i c → slice_get ts c ≡ Some t → (u : Type') × (slice_get ts i ≡ Some u)
in_table ts i c t a e = go (slice_get ts i) refl
  where
    go : (x : Option Type') → slice_get ts i ≡ x → (u : Type') × (slice_get ts i ≡ Some u)
    go (Some u) q = (u, q)
    go None q =
        let n : next ts i ≡ None = ap target_of q in
        let same : i ≡ c = same_end (next ts) 0 a.steps i i c refl n a.chain a.ends in
        absurd (none-some t (sym q ∙ ap (slice_get ts) same ∙ e))

-- one module
one_home : (p : Program) (a : ℕ) (M K x y : Name) → IsAssignment p a M x → IsAssignment p a K y → M ≡ K
one_home p a M K x y f g =
    let o : f.owner ≡ g.owner = ap (λ (z : ℕ × Name). z.0) (same_Some (f.owner, x) (g.owner, y) (sym f.assigned ∙ g.assigned)) in
    ap (λ (z : Name × TagDefault). z.0) (same_Some (M, f.tags) (K, g.tags) (sym f.header ∙ ap (slice_get p.headers) o ∙ g.header))

codes_members : (C : ℕ → Type 0) (alphabet o : List ℕ) → ((x : ℕ) → C x → IsMember x alphabet) → AllByRecursion C o → AllByRecursion (λ x. IsMember x alphabet) o
codes_members C alphabet [] f h = tt
codes_members C alphabet (c ∷ o) f h = (f c h.0, codes_members C alphabet o f h.1)

-- type i of the schema, with what it is of the program
record Found (p : Program) (Allows : ℕ → ℤ → Type 0) (AllowsCode : ℕ → ℕ → Type 0) (s : List Resolved) (i : ℕ) (M : Name) (K : WrittenKind) : Type 0 where
  resolved : Resolved
  there : slice_get s i ≡ Some resolved
  kind : IsKindOf p Allows AllowsCode i M K resolved.kind

module _ (p : Program) (Allows : ℕ → ℤ → Type 0) (AllowsCode : ℕ → ℕ → Type 0) (s : List Resolved) where
  found : (i core : ℕ) (t : Type') (M x : Name)
      → IsSchemaOf p Allows AllowsCode s
      → IsUnderlying p.types i core
      → slice_get p.types core ≡ Some t
      → IsAssignment p t.assignment M x
      → Found p Allows AllowsCode s i M t.kind
  found i core t M x of c e a =
      let u = in_table p.types i core t c e in
      let r = there_too p.types s i u.0 of.as_many u.1 in
      let f = of.each i r.0 r.1 in
      let same : f.core ≡ core = one_core p.types i f.core core f.chain c in
      let one : f.type ≡ t = same_Some f.type t (sym f.there ∙ ap (slice_get p.types) same ∙ e) in
      let home : f.within ≡ M = one_home p t.assignment f.within M f.assigns x (subst (λ (w : Type'). IsAssignment p w.assignment f.within f.assigns) one f.is_so) a in
      record {
        resolved = r.0;
        there = r.1;
        kind = subst (λ (N : Name). IsKindOf p Allows AllowsCode i N t.kind r.0.kind) home (subst (λ (w : Type'). IsKindOf p Allows AllowsCode i f.within w.kind r.0.kind) one f.kind);
      }

  leaf_resolved : {k : types.Kind} {K : Plain} {M : Name} (i : ℕ) (v : AbstractValue) → IsSoundPlain K → IsPlainValue Allows AllowsCode i K v → IsKindOf p Allows AllowsCode i M (simple K) k → IsPrimitive k v
  leaf_resolved i (boolean b) d h schema_of.boolean = fits_boolean
  leaf_resolved i (integer z) d h schema_of.boolean = absurd h
  leaf_resolved i (enumerated z) d h schema_of.boolean = absurd h
  leaf_resolved i (bits b) d h schema_of.boolean = absurd h
  leaf_resolved i (octets o) d h schema_of.boolean = absurd h
  leaf_resolved i (text o) d h schema_of.boolean = absurd h
  leaf_resolved i null d h schema_of.boolean = absurd h
  leaf_resolved i (oid ns) d h schema_of.boolean = absurd h
  leaf_resolved i (relative_oid ns) d h schema_of.boolean = absurd h
  leaf_resolved i (fields r) d h schema_of.boolean = absurd h
  leaf_resolved i (list r) d h schema_of.boolean = absurd h
  leaf_resolved i (alternative j w) d h schema_of.boolean = absurd h
  leaf_resolved i (boolean b) d h (schema_of.integer f) = absurd h
  leaf_resolved i (integer z) d h (schema_of.integer f) = (fits_integer h.0 ((f z).1 h.1))
  leaf_resolved i (enumerated z) d h (schema_of.integer f) = absurd h
  leaf_resolved i (bits b) d h (schema_of.integer f) = absurd h
  leaf_resolved i (octets o) d h (schema_of.integer f) = absurd h
  leaf_resolved i (text o) d h (schema_of.integer f) = absurd h
  leaf_resolved i null d h (schema_of.integer f) = absurd h
  leaf_resolved i (oid ns) d h (schema_of.integer f) = absurd h
  leaf_resolved i (relative_oid ns) d h (schema_of.integer f) = absurd h
  leaf_resolved i (fields r) d h (schema_of.integer f) = absurd h
  leaf_resolved i (list r) d h (schema_of.integer f) = absurd h
  leaf_resolved i (alternative j w) d h (schema_of.integer f) = absurd h
  leaf_resolved i (boolean b) d h (schema_of.enumerated a) = absurd h
  leaf_resolved i (integer z) d h (schema_of.enumerated a) = absurd h
  leaf_resolved i (enumerated z) d h (schema_of.enumerated {root} {more} {in_root} {added} {marker} a) = (fits_enumerated (d.within h.0 z h.1) (number_resolved root more in_root added marker z a h))
  leaf_resolved i (bits b) d h (schema_of.enumerated a) = absurd h
  leaf_resolved i (octets o) d h (schema_of.enumerated a) = absurd h
  leaf_resolved i (text o) d h (schema_of.enumerated a) = absurd h
  leaf_resolved i null d h (schema_of.enumerated a) = absurd h
  leaf_resolved i (oid ns) d h (schema_of.enumerated a) = absurd h
  leaf_resolved i (relative_oid ns) d h (schema_of.enumerated a) = absurd h
  leaf_resolved i (fields r) d h (schema_of.enumerated a) = absurd h
  leaf_resolved i (list r) d h (schema_of.enumerated a) = absurd h
  leaf_resolved i (alternative j w) d h (schema_of.enumerated a) = absurd h
  leaf_resolved i (boolean b) d h (schema_of.bits f) = absurd h
  leaf_resolved i (integer z) d h (schema_of.bits f) = absurd h
  leaf_resolved i (enumerated z) d h (schema_of.bits f) = absurd h
  leaf_resolved i (bits b) d h (schema_of.bits f) = (fits_bits ((f (length b)).1 h))
  leaf_resolved i (octets o) d h (schema_of.bits f) = absurd h
  leaf_resolved i (text o) d h (schema_of.bits f) = absurd h
  leaf_resolved i null d h (schema_of.bits f) = absurd h
  leaf_resolved i (oid ns) d h (schema_of.bits f) = absurd h
  leaf_resolved i (relative_oid ns) d h (schema_of.bits f) = absurd h
  leaf_resolved i (fields r) d h (schema_of.bits f) = absurd h
  leaf_resolved i (list r) d h (schema_of.bits f) = absurd h
  leaf_resolved i (alternative j w) d h (schema_of.bits f) = absurd h
  leaf_resolved i (boolean b) d h (schema_of.named_bits f) = absurd h
  leaf_resolved i (integer z) d h (schema_of.named_bits f) = absurd h
  leaf_resolved i (enumerated z) d h (schema_of.named_bits f) = absurd h
  leaf_resolved i (bits b) d h (schema_of.named_bits f) = fits_named_bits
  leaf_resolved i (octets o) d h (schema_of.named_bits f) = absurd h
  leaf_resolved i (text o) d h (schema_of.named_bits f) = absurd h
  leaf_resolved i null d h (schema_of.named_bits f) = absurd h
  leaf_resolved i (oid ns) d h (schema_of.named_bits f) = absurd h
  leaf_resolved i (relative_oid ns) d h (schema_of.named_bits f) = absurd h
  leaf_resolved i (fields r) d h (schema_of.named_bits f) = absurd h
  leaf_resolved i (list r) d h (schema_of.named_bits f) = absurd h
  leaf_resolved i (alternative j w) d h (schema_of.named_bits f) = absurd h
  leaf_resolved i (boolean b) d h (schema_of.octets f) = absurd h
  leaf_resolved i (integer z) d h (schema_of.octets f) = absurd h
  leaf_resolved i (enumerated z) d h (schema_of.octets f) = absurd h
  leaf_resolved i (bits b) d h (schema_of.octets f) = absurd h
  leaf_resolved i (octets o) d h (schema_of.octets f) = (fits_octets h.0 ((f (length o)).1 h.1))
  leaf_resolved i (text o) d h (schema_of.octets f) = absurd h
  leaf_resolved i null d h (schema_of.octets f) = absurd h
  leaf_resolved i (oid ns) d h (schema_of.octets f) = absurd h
  leaf_resolved i (relative_oid ns) d h (schema_of.octets f) = absurd h
  leaf_resolved i (fields r) d h (schema_of.octets f) = absurd h
  leaf_resolved i (list r) d h (schema_of.octets f) = absurd h
  leaf_resolved i (alternative j w) d h (schema_of.octets f) = absurd h
  leaf_resolved i (boolean b) d h schema_of.null = absurd h
  leaf_resolved i (integer z) d h schema_of.null = absurd h
  leaf_resolved i (enumerated z) d h schema_of.null = absurd h
  leaf_resolved i (bits b) d h schema_of.null = absurd h
  leaf_resolved i (octets o) d h schema_of.null = absurd h
  leaf_resolved i (text o) d h schema_of.null = absurd h
  leaf_resolved i null d h schema_of.null = fits_null
  leaf_resolved i (oid ns) d h schema_of.null = absurd h
  leaf_resolved i (relative_oid ns) d h schema_of.null = absurd h
  leaf_resolved i (fields r) d h schema_of.null = absurd h
  leaf_resolved i (list r) d h schema_of.null = absurd h
  leaf_resolved i (alternative j w) d h schema_of.null = absurd h
  leaf_resolved i (boolean b) d h schema_of.object_identifier = absurd h
  leaf_resolved i (integer z) d h schema_of.object_identifier = absurd h
  leaf_resolved i (enumerated z) d h schema_of.object_identifier = absurd h
  leaf_resolved i (bits b) d h schema_of.object_identifier = absurd h
  leaf_resolved i (octets o) d h schema_of.object_identifier = absurd h
  leaf_resolved i (text o) d h schema_of.object_identifier = absurd h
  leaf_resolved i null d h schema_of.object_identifier = absurd h
  leaf_resolved i (oid ns) d h schema_of.object_identifier = (fits_oid h)
  leaf_resolved i (relative_oid ns) d h schema_of.object_identifier = absurd h
  leaf_resolved i (fields r) d h schema_of.object_identifier = absurd h
  leaf_resolved i (list r) d h schema_of.object_identifier = absurd h
  leaf_resolved i (alternative j w) d h schema_of.object_identifier = absurd h
  leaf_resolved i (boolean b) d h schema_of.relative_oid = absurd h
  leaf_resolved i (integer z) d h schema_of.relative_oid = absurd h
  leaf_resolved i (enumerated z) d h schema_of.relative_oid = absurd h
  leaf_resolved i (bits b) d h schema_of.relative_oid = absurd h
  leaf_resolved i (octets o) d h schema_of.relative_oid = absurd h
  leaf_resolved i (text o) d h schema_of.relative_oid = absurd h
  leaf_resolved i null d h schema_of.relative_oid = absurd h
  leaf_resolved i (oid ns) d h schema_of.relative_oid = absurd h
  leaf_resolved i (relative_oid ns) d h schema_of.relative_oid = (fits_relative_oid h)
  leaf_resolved i (fields r) d h schema_of.relative_oid = absurd h
  leaf_resolved i (list r) d h schema_of.relative_oid = absurd h
  leaf_resolved i (alternative j w) d h schema_of.relative_oid = absurd h
  leaf_resolved i (boolean b) d h (schema_of.utf8 f) = absurd h
  leaf_resolved i (integer z) d h (schema_of.utf8 f) = absurd h
  leaf_resolved i (enumerated z) d h (schema_of.utf8 f) = absurd h
  leaf_resolved i (bits b) d h (schema_of.utf8 f) = absurd h
  leaf_resolved i (octets o) d h (schema_of.utf8 f) = absurd h
  leaf_resolved i (text o) d h (schema_of.utf8 f) = (fits_utf8 h.0 ((f _).1 h.1))
  leaf_resolved i null d h (schema_of.utf8 f) = absurd h
  leaf_resolved i (oid ns) d h (schema_of.utf8 f) = absurd h
  leaf_resolved i (relative_oid ns) d h (schema_of.utf8 f) = absurd h
  leaf_resolved i (fields r) d h (schema_of.utf8 f) = absurd h
  leaf_resolved i (list r) d h (schema_of.utf8 f) = absurd h
  leaf_resolved i (alternative j w) d h (schema_of.utf8 f) = absurd h
  leaf_resolved i (boolean b) d h (schema_of.restricted g f) = absurd h
  leaf_resolved i (integer z) d h (schema_of.restricted g f) = absurd h
  leaf_resolved i (enumerated z) d h (schema_of.restricted g f) = absurd h
  leaf_resolved i (bits b) d h (schema_of.restricted g f) = absurd h
  leaf_resolved i (octets o) d h (schema_of.restricted g f) = absurd h
  leaf_resolved i (text o) d h (schema_of.restricted {codes} g f) = (fits_restricted (codes_members (AllowsCode i) codes o (λ x. (g x).1) h.0) ((f (length o)).1 h.1))
  leaf_resolved i null d h (schema_of.restricted g f) = absurd h
  leaf_resolved i (oid ns) d h (schema_of.restricted g f) = absurd h
  leaf_resolved i (relative_oid ns) d h (schema_of.restricted g f) = absurd h
  leaf_resolved i (fields r) d h (schema_of.restricted g f) = absurd h
  leaf_resolved i (list r) d h (schema_of.restricted g f) = absurd h
  leaf_resolved i (alternative j w) d h (schema_of.restricted g f) = absurd h

  module _ (one : (os : List ℕ) (M : Name) (i : ℕ) (n : Tree) (v w : AbstractValue) → Notation p os M i n v → Notation p os M i n w → v ≡ w) (sound : AreSound p.types) (of : IsSchemaOf p Allows AllowsCode s) where
    same_default : (c : Part) (M : Name) (m n : Tree) (d e : AbstractValue) → c.presence ≡ default m → c.presence ≡ default n → Notation p [] M c.ty m d → Notation p [] M c.ty n e → d ≡ e
    same_default c M m n d e f g a b =
        let q : m ≡ n = let h = sym f ∙ g in cc in
        one [] M c.ty n d e (subst (λ (t : Tree). Notation p [] M c.ty t d) q a) b

    mutual
      pub resolved : {n i : ℕ} {v : AbstractValue} → values.NotatedValueIn p Allows AllowsCode n i v →
          typed.ValueIn s n i v
      resolved (values.value_in {n} {i} {core} {t} {M} {x} chain there is_so h) =
          let f = found i core t M x of chain there is_so in
          typed.value_in (record { found = f.there }) (value_resolved i h f.kind (sound core t there))

      value_resolved : {n : ℕ} {k : types.Kind} {v : AbstractValue} {K : WrittenKind} {M : Name} (i : ℕ) → values.NotatedValueOf p Allows AllowsCode n i M K v → IsKindOf p Allows AllowsCode i M K k → IsSoundKind K → typed.ValueOf s n k v
      value_resolved i (values.of_leaf {v} h) kind d = typed.of_leaf (leaf_resolved i v d h kind)
      value_resolved {M} i (values.of_fields {r} other h g) (schema_of.sequence {cs} {ds} a) d = typed.of_sequence (components_resolved h a) ((groups_alike p M cs ds r a).1 g)
      value_resolved {M} i (values.of_fields {r} other h g) (schema_of.set {cs} {ds} a) d = typed.of_set (components_resolved h a) ((groups_alike p M cs ds r a).1 g)
      value_resolved i (values.of_fields other h g) (schema_of.choice a) d = absurd (other refl)
      value_resolved i (values.of_list {r} h a) (schema_of.sequence_of f) d = typed.of_sequence_of (elements_resolved h) ((f (typed.members r)).1 a)
      value_resolved i (values.of_list {r} h a) (schema_of.set_of f) d = typed.of_set_of (elements_resolved h) ((f (typed.members r)).1 a)
      value_resolved {n} i (values.of_choice {a = j} {c} {v = w} at h) (schema_of.choice {cs} {root} {more} as') d =
          let a = resolved_alternative cs root more j c as' at in
          typed.of_choice a.there (subst (λ (u : ℕ). typed.ValueIn s n u w) (sym a.alike.type) (resolved h))

      components_resolved : {n : ℕ} {cs : List Part} {ds : List Component} {vs : Row} {M : Name} → values.AreNotatedComponents p Allows AllowsCode n M cs vs → AreComponentsOf p M cs ds → typed.AreComponents s n ds vs
      components_resolved values.no_component schema_of.no_component = typed.no_component
      components_resolved (values.component_absent m r) (schema_of.component_and {c} {d} a as') =
          typed.component_absent (absence_resolved c d.type a.type m a.presence) (components_resolved r as')
      components_resolved {n} (values.component_present {v} h r) (schema_of.component_and a as') =
          typed.component_present (subst (λ (u : ℕ). typed.ValueIn s n u v) (sym a.type) (resolved h)) (components_resolved r as')

      absence_resolved : {n : ℕ} {q : Presence} {M : Name} (c : Part) (u : ℕ) → u ≡ c.ty → values.MayLackValue p Allows AllowsCode n M c → IsPresenceOf p M c q → typed.MayBeAbsent s n u q
      absence_resolved c u e m (schema_of.is_addition f g) = typed.where_addition
      absence_resolved c u e m (schema_of.is_optional_addition f g) = typed.where_addition
      absence_resolved c u e m (schema_of.is_optional f g) = typed.where_optional
      absence_resolved c u e (values.where_optional o) (schema_of.is_mandatory f g) = absurd (let h = sym o ∙ g in cc)
      absence_resolved c u e (values.where_addition o) (schema_of.is_mandatory f g) = absurd (let h = sym o ∙ f in cc)
      absence_resolved c u e (values.where_default r o is_so h l) (schema_of.is_mandatory f g) = absurd (let w = sym o ∙ g in cc)
      absence_resolved c u e (values.where_optional o) (schema_of.has_default f g is_so) = absurd (let h = sym o ∙ g in cc)
      absence_resolved c u e (values.where_addition o) (schema_of.has_default f g is_so) = absurd (let h = sym o ∙ f in cc)
      absence_resolved {n} {M} c u e (values.where_default {d = m} {v = w} r o is_so h l) (schema_of.has_default {n = k} {d} f g said) =
          let q = same_default c M m k w d o g is_so said in
          typed.where_default (subst (λ (x : AbstractValue). typed.ValueIn s n u x) q (subst (λ (j : ℕ). typed.ValueIn s n j w) (sym e) (resolved h)))

      elements_resolved : {n u : ℕ} {vs : Row} → values.AreNotatedElements p Allows AllowsCode n u vs → typed.AreElements s n u vs
      elements_resolved values.no_element = typed.no_element
      elements_resolved (values.one_element h r) = typed.one_element (resolved h) (elements_resolved r)
