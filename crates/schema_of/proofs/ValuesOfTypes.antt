-- The values of a schema's types are those of the program's.
use Rattle.std.proofs.Common.{◌≡◌, ℕ, List, [], ◌∷◌, length, refl, sym, subst, ◌∙◌}
use Rattle.std.specs.Prelude.{◌≤◌, ℤ}
use Rattle.std.specs.List.{AllByRecursion}
use Rattle.asn_base.specs.Abstract.{AbstractValue, Row}
use Rattle.asn_base.specs.Names.{IsMember}
use Rattle.asn_base.specs.Schemas.{IsSchema, IsSound, HasValue}
use Rattle.asn_base.specs.Types.{Component, Presence, Resolved}
use Rattle.asn_base.specs.Types as types
use Rattle.asn_base.specs.Typed as typed
use Rattle.asn_base.specs.Typed.{IsPrimitive, fits_boolean, fits_integer, fits_enumerated, fits_bits, fits_named_bits, fits_octets, fits_null, fits_oid, fits_relative_oid, fits_utf8, fits_restricted}
use Rattle.trees.specs.declared.types.ListKind.{ListKind}
use Rattle.trees.specs.declared.types.ListKind.TheVariants.{Sequence, Set, Choice}
use Rattle.trees.specs.Values.{Name}
use Rattle.type_table.specs.Table.{Part, WrittenKind}
use Rattle.resolve.specs.Program.{Program}
use Rattle.value_notations.specs.Values as values
use Rattle.schema_of.specs.SchemaOf as schema_of
use Rattle.schema_of.specs.SchemaOf.{IsSchemaOf, IsKindOf, IsPresenceOf, AreComponentsOf}
use Rattle.schema_of.proofs.Lists.{groups_alike, written_alternative, number_written}

codes_allowed : (C : ℕ → Type 0) (alphabet o : List ℕ) → ((x : ℕ) → IsMember x alphabet → C x) → AllByRecursion (λ x. IsMember x alphabet) o → AllByRecursion C o
codes_allowed C alphabet [] f h = tt
codes_allowed C alphabet (c ∷ o) f h = (f c h.0, codes_allowed C alphabet o f h.1)

module _ (p : Program) (Allows : ℕ → ℤ → Type 0) (AllowsCode : ℕ → ℕ → Type 0) (s : List Resolved) where
  leaf_written : {k : types.Kind} {v : AbstractValue} {K : WrittenKind} {M : Name} (n i : ℕ) → IsPrimitive k v → IsKindOf p Allows AllowsCode i M K k → values.NotatedValueOf p Allows AllowsCode n i M K v
  leaf_written n i fits_boolean schema_of.boolean = values.of_leaf tt
  leaf_written n i (fits_integer {z} w a) (schema_of.integer f) = values.of_leaf (w, (f z).0 a)
  leaf_written n i (fits_enumerated {z} w h) (schema_of.enumerated {root} {more} {in_root} {added} {marker} a) = values.of_leaf (number_written root more in_root added marker z a h)
  leaf_written n i (fits_bits {s = b} a) (schema_of.bits f) = values.of_leaf ((f (length b)).0 a)
  leaf_written n i fits_named_bits (schema_of.named_bits f) = values.of_leaf tt
  leaf_written n i (fits_octets {o} b a) (schema_of.octets f) = values.of_leaf (b, (f (length o)).0 a)
  leaf_written n i fits_null schema_of.null = values.of_leaf tt
  leaf_written n i (fits_oid a) schema_of.object_identifier = values.of_leaf a
  leaf_written n i (fits_relative_oid r) schema_of.relative_oid = values.of_leaf r
  leaf_written n i (fits_utf8 u a) (schema_of.utf8 f) = values.of_leaf (u, (f _).0 a)
  leaf_written n i (fits_restricted {alphabet} {o} m a) (schema_of.restricted g f) = values.of_leaf (codes_allowed (AllowsCode i) alphabet o (λ x. (g x).0) m, (f (length o)).0 a)

  no_choice : (k : ListKind) → k ≡ Sequence → k ≡ Choice → ⊥
  no_choice k e f = absurd (let g = sym e ∙ f in cc)

  no_choice_set : (k : ListKind) → k ≡ Set → k ≡ Choice → ⊥
  no_choice_set k e f = absurd (let g = sym e ∙ f in cc)

  module _ (schema : IsSchema s) (of : IsSchemaOf p Allows AllowsCode s) where
    mutual
      pub written : {n i : ℕ} {v : AbstractValue} → typed.ValueIn s n i v →
          values.NotatedValueIn p Allows AllowsCode n i v
      written (typed.value_in {n} {t} {tags} {k} is h) =
          let f = of.each t (record { tags = tags; kind = k }) is.found in
          values.value_in f.chain f.there f.is_so (value_written t h (schema.sound t tags k is) f.kind)

      value_written : {n : ℕ} {k : types.Kind} {v : AbstractValue} {K : WrittenKind} {M : Name} (i : ℕ) → typed.ValueOf s n k v → IsSound s k → IsKindOf p Allows AllowsCode i M K k → values.NotatedValueOf p Allows AllowsCode n i M K v
      value_written {n} i (typed.of_leaf h) d kind = leaf_written n i h kind
      value_written {M} i (typed.of_sequence {cs = ds} {vs} h g) d (schema_of.sequence {cs} a) =
          values.of_fields (no_choice Sequence refl) (components_written h d.defaults a) ((groups_alike p M cs ds vs a).0 g)
      value_written {M} i (typed.of_set {cs = ds} {vs} h g) d (schema_of.set {cs} a) =
          values.of_fields (no_choice_set Set refl) (components_written h d.0.defaults a) ((groups_alike p M cs ds vs a).0 g)
      value_written i (typed.of_sequence_of {vs} h a) d (schema_of.sequence_of f) = values.of_list (elements_written h) ((f (typed.members vs)).0 a)
      value_written i (typed.of_set_of {vs} h a) d (schema_of.set_of f) = values.of_list (elements_written h) ((f (typed.members vs)).0 a)
      value_written {n} i (typed.of_choice {i = j} {root} {more} {a} {v = w} at h) d (schema_of.choice {cs} as') =
          let c = written_alternative cs root more j a as' at in
          values.of_choice c.there (subst (λ (u : ℕ). values.NotatedValueIn p Allows AllowsCode n u w) c.alike.type (written h))

      components_written : {n : ℕ} {cs : List Part} {ds : List Component} {vs : Row} {M : Name} → typed.AreComponents s n ds vs → AllByRecursion (HasValue s) ds → AreComponentsOf p M cs ds → values.AreNotatedComponents p Allows AllowsCode n M cs vs
      components_written typed.no_component d schema_of.no_component = values.no_component
      components_written (typed.component_absent {c = d} m r) w (schema_of.component_and {c} a as') =
          values.component_absent (absence_written c d.type a.type m (λ v e. (w.0 v e).few_nodes) a.presence)
          (components_written r w.1 as')
      components_written {n} (typed.component_present {v} h r) w (schema_of.component_and a as') =
          values.component_present (subst (λ (u : ℕ). values.NotatedValueIn p Allows AllowsCode n u v) a.type (written h)) (components_written r w.1 as')

      absence_written : {n : ℕ} {q : Presence} {M : Name} (c : Part) (u : ℕ) → u ≡ c.ty → typed.MayBeAbsent s n u q → ((d : AbstractValue) → q ≡ types.default d → typed.nodes d ≤ 16777216) → IsPresenceOf p M c q → values.MayLackValue p Allows AllowsCode n M c
      absence_written c u e typed.where_optional few (schema_of.is_optional f g) = values.where_optional g
      absence_written {n} c u e (typed.where_default {d} h) few (schema_of.has_default f g is_so) =
          values.where_default f g is_so (subst (λ (u : ℕ). values.NotatedValueIn p Allows AllowsCode n u d) e
          (written h)) (few d refl)
      absence_written c u e typed.where_addition few (schema_of.is_addition f g) = values.where_addition f
      absence_written c u e typed.where_addition few (schema_of.is_optional_addition f g) = values.where_addition f

      elements_written : {n u : ℕ} {vs : Row} → typed.AreElements s n u vs → values.AreNotatedElements p Allows AllowsCode n u vs
      elements_written typed.no_element = values.no_element
      elements_written (typed.one_element h r) = values.one_element (written h) (elements_written r)
