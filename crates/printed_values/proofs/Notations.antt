-- The tree of a printed value is a notation of this value: by recursion over the value under its type.
use Rattle.std.proofs.Common.{◌≡◌, ℕ, ◌≤◌, Bool, true, false, List, [], ◌∷◌, ◌++◌, Option, Some, None, refl, sym, ap, subst, ◌∙◌, arith, length}
use Rattle.std.specs.Prelude.{◌↔◌, ℤ, slice_get, map, if◌then◌else◌}
use Rattle.asn_base.specs.declared.tag.Tag.{Tag}
use Rattle.asn_base.specs.Abstract.{AbstractValue, boolean, enumerated, bits, text, relative_oid, fields as fields', list, alternative, Row, absent, present}
use Rattle.asn_base.specs.Names.{IsMember}
use Rattle.asn_base.specs.Names as base
use Rattle.asn_base.specs.Types.{Component, Alternative, Resolved, Is}
use Rattle.asn_base.specs.Types as types
use Rattle.asn_base.specs.Schemas.{components, IsSchema, IsSound}
use Rattle.asn_base.specs.Typed.{IsPrimitive, fits_boolean, fits_integer, fits_enumerated, fits_bits, fits_named_bits, fits_octets, fits_null, fits_oid, fits_relative_oid, fits_utf8, fits_restricted, HasNumber, arcs, ValueIn, value_in, ValueOf, of_leaf, of_sequence, of_set, of_sequence_of, of_set_of, of_choice, AreComponents, no_component, component_absent, component_present, AreElements, no_element, one_element, GroupsAreWhole}
use Rattle.trees.specs.declared.types.ListKind.{ListKind}
use Rattle.trees.specs.declared.types.ListKind.TheVariants.{Sequence, Set, Choice}
use Rattle.trees.specs.declared.types.ElementsKind.{ElementsKind}
use Rattle.trees.specs.Values.{Name, Tree, hex, chars, chosen, nothing}
use Rattle.trees.specs.Types.{Plain, a_utf8_string, a_restricted_string, a_bit_string, an_enumerated, a_relative_oid, a_boolean}
use Rattle.type_table.specs.Items.{WrittenItem, additions_of}
use Rattle.type_table.specs.Table.{Part, WrittenKind, simple, members, elements}
use Rattle.resolve.specs.Program.{Program}
use Rattle.value_text.specs.Print.{kind_in, kind_at, items_in, name_with, name_in, element_in, alternatives_in}
use Rattle.laws_print.specs.Back.{nibbles, numbers_tree, fields_tree, items_tree, tree_of, members_of, trees_of}
use Rattle.value_notations.specs.References.{IsOwn, own}
use Rattle.value_notations.specs.Leaves as leaves
use Rattle.value_notations.specs.Leaves.{IsItem, is_rooted}
use Rattle.value_notations.specs.Notations.{Notation, notation, NotationOf, Fields, no_part, part_absent, part_present, NotatedElements, field_names, part_names, IsPartOf, none_left, left_out, taken, AreArranged}
use Rattle.value_notations.specs.Notations as notations
use Rattle.schema_of.specs.SchemaOf.{IsSchemaOf, IsKindOf, AreItemsOf, AreComponentsOf, AreAlternativesOf, IsChosenPart}
use Rattle.schema_of.specs.SchemaOf as schema_of
use Rattle.printed_values.specs.LineEnds.{HasNoLineEnd, HaveNoLineEnd}
use Rattle.printed_values.proofs.Leaves.{below_two, bits_back, octets_back, characters}
use Rattle.printed_values.proofs.Items.{found_item, own_item}
use Rattle.printed_values.proofs.Lists.{values_back, fields_back, distinct, in_whole, distinct_part, placed, member_of_place, names_alike, absent_too, one_more}

-- the notation determines its value under a type of kind k by itself, in any module and whatever is being read
pub record Determines (p : Program) (k : WrittenKind) (n : Tree) (v : AbstractValue) : Type 0 where
  pub own : IsOwn k n
  pub determined : (os : List ℕ) (M : Name) → NotationOf p os M k n v

own_fields : (k : WrittenKind) (ms : List (Name × Tree)) → IsOwn k (fields_tree ms)
own_fields k [] = tt
own_fields k (m ∷ ms) = tt

own_items : (k : WrittenKind) (ts : List Tree) → IsOwn k (items_tree ts)
own_items k [] = tt
own_items k (t ∷ ts) = tt

kind_is : (s : List Resolved) (t : ℕ) (tags : List Tag) (k : types.Kind) → Is s t tags k → kind_at s t ≡ k
kind_is s t tags k is = ap kind_in is.found

-- ---- values that hold no others

-- what a schema has of what is written
pub record SchemaLaws : Type 0 where
  pub items : (root : List WrittenItem) (more : Option (List WrittenItem)) (in_root added : List types.Item) (marker : Bool) (x : Name) (z : ℤ)
      → AreItemsOf root more in_root marker added
      → IsMember (schema_of.numbered_item x z) (in_root ++ added)
      → IsItem root (additions_of more) x z
  pub groups : (p : Program) (M : Name) (cs : List Part) (ds : List Component) (r : Row)
      → AreComponentsOf p M cs ds
      → (GroupsAreWhole ds r ↔ GroupsAreWhole (map notations.component_of cs) r)
  pub alternatives : (cs : List Part) (root more : List Alternative) (i : ℕ) (a : Alternative)
      → AreAlternativesOf cs root more
      → slice_get (root ++ more) i ≡ Some a
      → IsChosenPart cs i a

module _ (laws : SchemaLaws) (p : Program) (Allows : ℕ → ℤ → Type 0) (AllowsCode : ℕ → ℕ → Type 0) (s : List Resolved) where
  determines_item : (t : ℕ) (root : List WrittenItem) (more : Option (List WrittenItem)) (in_root added : List types.Item) (marker : Bool) (z : ℤ)
      → kind_at s t ≡ types.an_enumerated in_root marker added
      → AreItemsOf root more in_root marker added
      → HasNumber (in_root ++ added) z
      → Determines p (simple (an_enumerated root more)) (tree_of s t (enumerated z)) (enumerated z)
  determines_item t root more in_root added marker z e a h =
      let x = name_in (name_with (in_root ++ added) z) in
      let i = laws.items root more in_root added marker x z a (found_item (in_root ++ added) z h) in
      let there = subst (λ (k : types.Kind). IsItem root (additions_of more) (name_in (name_with (items_in k) z)) z) (sym e) i in
      record {
        own = own_item root (additions_of more) (name_in (name_with (items_in (kind_at s t)) z)) z there;
        determined = λ os M. notations.of_leaf (leaves.named_item there);
      }

  determines_text : (t : ℕ) (k : Plain) (o : List ℕ)
      → HasNoLineEnd (text o)
      → leaves.IsLeafNotation k (chars o) (text o)
      → Determines p (simple k) (tree_of s t (text o)) (text o)
  determines_text t k o l leaf =
      let e : tree_of s t (text o) ≡ chars o = ap (λ q. if q then hex (nibbles o) else chars o) l in
      subst (λ (n : Tree). Determines p (simple k) n (text o)) (sym e) (record { own = tt; determined = λ os M. notations.of_leaf leaf })

  determines_relative : (t : ℕ) (ns : List ℕ) → 1 ≤ length ns → Determines p (simple a_relative_oid) (numbers_tree ns) (relative_oid ns)
  determines_relative t [] l = absurd (omega (arith, l))
  determines_relative t (n ∷ []) l = record { own = tt; determined = λ os M. notations.of_leaf leaves.relative_alone }
  determines_relative t (m ∷ n ∷ ns) l = record { own = tt; determined = λ os M. notations.of_leaf leaves.relative }

  determines_truth : (t : ℕ) (b : Bool) → Determines p (simple a_boolean) (tree_of s t (boolean b)) (boolean b)
  determines_truth t true = record { own = tt; determined = λ os M. notations.of_leaf leaves.truth }
  determines_truth t false = record { own = tt; determined = λ os M. notations.of_leaf leaves.falsehood }

  determines_bits : (t : ℕ) (bs : List (Name × ℕ)) (b : List Bool) → Determines p (simple (a_bit_string bs)) (tree_of s t (bits b)) (bits b)
  determines_bits t bs b = record { own = tt; determined = λ os M. notations.of_leaf (leaves.bit_digits (below_two b) (bits_back b)) }

  determines_leaf : {k : types.Kind} {v : AbstractValue} {K : WrittenKind} {W : Name} (t : ℕ)
      → kind_at s t ≡ k
      → IsSound s k
      → IsPrimitive k v
      → IsKindOf p Allows AllowsCode t W K k
      → HasNoLineEnd v
      → Determines p K (tree_of s t v) v
  determines_leaf t e d (fits_boolean {b}) schema_of.boolean l = determines_truth t b
  determines_leaf t e d (fits_integer w a) (schema_of.integer f) l = record { own = tt; determined = λ os M. notations.of_leaf leaves.written_number }
  determines_leaf t e d (fits_enumerated {z} w h) (schema_of.enumerated {root} {more} {in_root} {added} {marker} a) l = determines_item t root more in_root added marker z e a h
  determines_leaf t e d (fits_bits {s = b} a) (schema_of.bits f) l = determines_bits t [] b
  determines_leaf t e d (fits_named_bits {s = b}) (schema_of.named_bits {b = x} {bs} f) l = determines_bits t (x ∷ bs) b
  determines_leaf t e d (fits_octets {o} b a) (schema_of.octets f) l = record { own = tt; determined = λ os M. notations.of_leaf (leaves.octet_hex (octets_back o b)) }
  determines_leaf t e d fits_null schema_of.null l = record { own = tt; determined = λ os M. notations.of_leaf leaves.nothing_more }
  determines_leaf t e d (fits_oid (arcs a b c f n)) schema_of.object_identifier l = record { own = tt; determined = λ os M. notations.of_leaf (leaves.identifier (is_rooted a b)) }
  determines_leaf t e d (fits_relative_oid {ns} r) schema_of.relative_oid l = determines_relative t ns r.some
  determines_leaf t e d (fits_utf8 {o} u a) (schema_of.utf8 f) l = determines_text t a_utf8_string o l (leaves.utf8 u)
  determines_leaf t e d (fits_restricted {k} {alphabet} {c} {o} m a) (schema_of.restricted g f) l =
      determines_text t (a_restricted_string k) o l (leaves.restricted (characters k alphabet o d.0.are_characters m))

  -- ---- values that hold others

  determines_fields : (t : ℕ) (k : types.Kind) (ds : List Component) (vs : Row) (K : ListKind) (marker : Bool) (cs : List Part)
      → kind_at s t ≡ k
      → components k ≡ ds
      → AreArranged K (part_names cs) (field_names (members_of s ds vs))
      → ((os : List ℕ) (M : Name) → Fields p os M (members_of s ds vs) cs vs)
      → GroupsAreWhole (map notations.component_of cs) vs
      → Determines p (members K marker cs) (tree_of s t (fields' vs)) (fields' vs)
  determines_fields t k ds vs K marker cs e f arranged h groups =
      let g : ds ≡ components (kind_at s t) = sym (ap components e ∙ f) in
      subst (λ (ds : List Component). Determines p (members K marker cs) (fields_tree (members_of s ds vs)) (fields' vs)) g
      (record {
        own = own_fields (members K marker cs) (members_of s ds vs);
        determined = λ os M. notations.of_fields (fields_back (members_of s ds vs)) arranged (h os M) groups;
      })

  abbrev listed_tree : Option ℕ → Row → Tree
  listed_tree o vs = elim o [ None ↦ nothing | Some u ↦ items_tree (trees_of s u vs) ]

  determines_list : (t : ℕ) (k : types.Kind) (u : ℕ) (vs : Row) (K : ElementsKind)
      → kind_at s t ≡ k
      → element_in k ≡ Some u
      → ((os : List ℕ) (M : Name) → NotatedElements p os M u (trees_of s u vs) vs)
      → Determines p (elements K u) (tree_of s t (list vs)) (list vs)
  determines_list t k u vs K e f h =
      let g : Some u ≡ element_in (kind_at s t) = sym (ap element_in e ∙ f) in
      subst (λ (o : Option ℕ). Determines p (elements K u) (listed_tree o vs) (list vs)) g
      (record {
        own = own_items (elements K u) (trees_of s u vs);
        determined = λ os M. notations.of_list (values_back (trees_of s u vs)) (h os M);
      })

  abbrev chosen_tree : Option Alternative → AbstractValue → Tree
  chosen_tree o v = elim o [ None ↦ nothing | Some a ↦ chosen a.name (tree_of s a.type v) ]

  determines_choice : (t : ℕ) (k : types.Kind) (i : ℕ) (a : Alternative) (v : AbstractValue) (marker : Bool) (cs : List Part)
      → kind_at s t ≡ k
      → slice_get (alternatives_in k) i ≡ Some a
      → IsChosenPart cs i a
      → ((os : List ℕ) (M : Name) → Notation p os M a.type (tree_of s a.type v) v)
      → Determines p (members Choice marker cs) (tree_of s t (alternative i v)) (alternative i v)
  determines_choice t k i a v marker cs e f c h =
      let g : Some a ≡ slice_get (alternatives_in (kind_at s t)) i = sym (ap (λ (k : types.Kind). slice_get (alternatives_in k) i) e ∙ f) in
      subst (λ (o : Option Alternative). Determines p (members Choice marker cs) (chosen_tree o v) (alternative i v)) g
      (record {
        own = tt;
        determined = λ os M. notations.of_choice c.there (sym c.alike.name) (subst (λ (j : ℕ). Notation p os M j (tree_of s a.type v) v) c.alike.type (h os M));
      })

  -- components as they are in braces
  record Filled (cs : List Part) (ds : List Component) (vs : Row) : Type 0 where
    part : IsPartOf (field_names (members_of s ds vs)) (part_names cs)
    stand : (os : List ℕ) (M : Name) → Fields p os M (members_of s ds vs) cs vs

  in_order : (cs : List Part) (ds : List Component) (vs : Row) → base.AreDistinct (part_names cs) → Filled cs ds vs → AreArranged Sequence (part_names cs) (field_names (members_of s ds vs))
  in_order cs ds vs d f = (distinct (field_names (members_of s ds vs)) (distinct_part f.part d), f.part)

  in_any_order : (cs : List Part) (ds : List Component) (vs : Row) → base.AreDistinct (part_names cs) → Filled cs ds vs → AreArranged Set (part_names cs) (field_names (members_of s ds vs))
  in_any_order cs ds vs d f = (
    distinct (field_names (members_of s ds vs)) (distinct_part f.part d),
    λ x here. placed (in_whole f.part (member_of_place x (field_names (members_of s ds vs)) here)),
  )

  filled_absent : (c : Part) (d : Component) (cs : List Part) (ds : List Component) (vs : Row)
      → base.AreDistinct (c.name ∷ part_names cs)
      → notations.may_lack_value c ≡ true
      → Filled cs ds vs
      → Filled (c ∷ cs) (d ∷ ds) (absent vs)
  filled_absent c d cs ds vs distinct may f = record {
    part = left_out f.part;
    stand = λ os M. part_absent (λ here. distinct.0 (in_whole f.part (member_of_place c.name (field_names (members_of s ds vs)) here))) may (f.stand os M);
  }

  filled_present : (c : Part) (d : Component) (cs : List Part) (ds : List Component) (v : AbstractValue) (vs : Row)
      → base.AreDistinct (c.name ∷ part_names cs)
      → d.name ≡ c.name
      → d.type ≡ c.ty
      → ((os : List ℕ) (M : Name) → Notation p os M d.type (tree_of s d.type v) v)
      → Filled cs ds vs
      → Filled (c ∷ cs) (d ∷ ds) (present v vs)
  filled_present c d cs ds v vs distinct e g h f = record {
    part = subst (λ (x : Name). IsPartOf (x ∷ field_names (members_of s ds vs)) (c.name ∷ part_names cs)) (sym e) (taken f.part);
    stand = λ os M.
        part_present (0, ap (λ (x : Name). Some (x, tree_of s d.type v)) e) (subst (λ (j : ℕ). Notation p os M j (tree_of s d.type v) v) g (h os M))
        (one_more (d.name, tree_of s d.type v) (subst (λ (x : Name). IsMember x (part_names cs) → ⊥) (sym e) distinct.0) (f.stand os M));
  }

  module _ (schema : IsSchema s) (seen : IsSchemaOf p Allows AllowsCode s) where
    mutual
      pub notated : {n t : ℕ} {v : AbstractValue} → ValueIn s n t v → HasNoLineEnd v → (os : List ℕ) (M : Name) → Notation p os M t (tree_of s t v) v
      notated (value_in {n} {t} {tags} {k} {v} is of) l os M =
          let f = seen.each t (record { tags = tags; kind = k }) is.found in
          let w = is_determined t tags is of f.kind l in
          notation (record { core = f.core; type = f.type; chain = f.chain; there = f.there; kind = refl }) (own w.own) (w.determined os M)

      is_determined : {n : ℕ} {k : types.Kind} {v : AbstractValue} {K : WrittenKind} {W : Name} (t : ℕ)
          (tags : List Tag)
          → Is s t tags k
          → ValueOf s n k v
          → IsKindOf p Allows AllowsCode t W K k
          → HasNoLineEnd v
          → Determines p K (tree_of s t v) v
      is_determined {k} t tags is (of_leaf h) kind l = determines_leaf t (kind_is s t tags k is) (schema.sound t tags k is) h kind l
      is_determined {k} t tags is (of_sequence {cs = ds} {vs} h g) (schema_of.sequence {marker} {cs} a) l =
          let d = subst base.AreDistinct (names_alike a) (schema.sound t tags k is).names.distinct in
          let f = filled h a d l in
          determines_fields t k ds vs Sequence marker cs (kind_is s t tags k is) refl (in_order cs ds vs d f) f.stand ((laws.groups p _ cs ds vs a).0 g)
      is_determined {k} t tags is (of_set {cs = ds} {vs} h g) (schema_of.set {marker} {cs} a) l =
          let d = subst base.AreDistinct (names_alike a) (schema.sound t tags k is).0.names.distinct in
          let f = filled h a d l in
          determines_fields t k ds vs Set marker cs (kind_is s t tags k is) refl (in_any_order cs ds vs d f) f.stand ((laws.groups p _ cs ds vs a).0 g)
      is_determined {k} t tags is (of_sequence_of {u} {vs} h a) (schema_of.sequence_of f) l = determines_list t k u vs _ (kind_is s t tags k is) refl (notated_elements h l)
      is_determined {k} t tags is (of_set_of {u} {vs} h a) (schema_of.set_of f) l = determines_list t k u vs _ (kind_is s t tags k is) refl (notated_elements h l)
      is_determined {k} t tags is (of_choice {i} {e} {root} {more} {a} {v = w} at h) (schema_of.choice {marker} {cs} as') l =
          determines_choice t k i a w marker cs (kind_is s t tags k is) at (laws.alternatives cs root more i a as' at) (notated h l)

      filled : {n : ℕ} {cs : List Part} {ds : List Component} {vs : Row} {W : Name}
          → AreComponents s n ds vs
          → AreComponentsOf p W cs ds
          → base.AreDistinct (part_names cs)
          → HaveNoLineEnd vs
          → Filled cs ds vs
      filled no_component schema_of.no_component d l = record { part = none_left; stand = λ os M. no_part }
      filled (component_absent {c = b} {cs = ds} {vs} m r) (schema_of.component_and {c} {cs} a as') d l =
          filled_absent c b cs ds vs d (absent_too c a.presence m) (filled r as' d.1 l)
      filled (component_present {c = b} {cs = ds} {v} {vs} h r) (schema_of.component_and {c} {cs} a as') d l =
          filled_present c b cs ds v vs d a.name a.type (notated h l.0) (filled r as' d.1 l.1)

      notated_elements : {n u : ℕ} {vs : Row} → AreElements s n u vs → HaveNoLineEnd vs → (os : List ℕ) (M : Name) → NotatedElements p os M u (trees_of s u vs) vs
      notated_elements no_element l os M = notations.no_element
      notated_elements (one_element h r) l os M = notations.one_element (notated h l.0 os M) (notated_elements r l.1 os M)
