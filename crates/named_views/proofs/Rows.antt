-- Worked rows: a reading {count 5, state failed}, a list and a choice, and what names say of it.
use Rattle.std.proofs.Common.{◌≡◌, ℕ, pos, false, List, [], ◌∷◌, Option, Some, refl, sym, ap, ◌∙◌}
use Rattle.std.specs.Prelude.{codes, slice_get}
use Rattle.std.proofs.lemmas.Option.{same_Some}
use Rattle.asn_base.specs.Types.{Item, Alternative, Component, Kind, Resolved, any_number, any_size, mandatory, optional, a_sequence, an_integer, an_enumerated, a_sequence_of, a_choice}
use Rattle.value_builders.specs.Named.{Has, component_names, components_in, place_of}
use Rattle.views.specs.Tree.{ViewTree, ViewMembers, leaf, fields, list, alternative, integer, enumerated, member, members_in, no_member}
use Rattle.views.specs.Tree.{component as component_at}
use Rattle.named_views.specs.Typed.{Typed, TypedMembers, NamedMembers, IsField, IsChosen, IsNamedItem, AreElements, IsNextElement, AreFields, IsNextField, HasNoField, HasNoChoice, HasNoItem, HasNoElements, HasNoFields, HasNoNextField}

abbrev count : Component
count = record { name = codes "count"; type = 1; presence = mandatory }

abbrev state : Component
state = record { name = codes "state"; type = 2; presence = optional }

abbrev failed : Item
failed = record { name = codes "failed"; number = pos 7 }

abbrev one : Alternative
one = record { name = codes "one"; type = 1 }

abbrev types : List Resolved
types =
    record { tags = []; kind = a_sequence false (count ∷ state ∷ []) }
    ∷ record { tags = []; kind = an_integer any_number }
    ∷ record { tags = []; kind = an_enumerated (failed ∷ []) false [] }
    ∷ record { tags = []; kind = a_sequence_of any_size 1 }
    ∷ record { tags = []; kind = a_choice (one ∷ []) false [] }
    ∷ []

abbrev five : ViewTree
five = leaf (integer (pos 5))

abbrev seven : ViewTree
seven = leaf (enumerated (pos 7))

abbrev reading : ViewTree
reading = fields 2 (member 0 five (member 1 seven no_member))

abbrev typed : ℕ → ViewTree → Typed
typed t x = record { schema = types; type = t; tree = x }

the_count : IsField (typed 0 reading) (codes "count") (typed 1 five)
the_count = record {
  components = count ∷ state ∷ [];
  of = record { kind = a_sequence false (count ∷ state ∷ []); is = refl; are = refl };
  place = 0;
  named = refl;
  component = count;
  at = refl;
  there = refl;
  type = refl;
  schema = refl;
}

the_state : IsField (typed 0 reading) (codes "state") (typed 2 seven)
the_state = record {
  components = count ∷ state ∷ [];
  of = record { kind = a_sequence false (count ∷ state ∷ []); is = refl; are = refl };
  place = 1;
  named = refl;
  component = state;
  at = refl;
  there = refl;
  type = refl;
  schema = refl;
}

the_item : IsNamedItem (typed 2 seven) (codes "failed")
the_item = record { kind = an_enumerated (failed ∷ []) false []; of = refl; number = pos 7; item = refl; named = refl }

the_alternative : IsChosen (typed 4 (alternative 0 five)) (codes "one") (typed 1 five)
the_alternative = record {
  kind = a_choice (one ∷ []) false [];
  of = refl;
  number = 0;
  chosen = refl;
  alternative = one;
  at = refl;
  named = refl;
  type = refl;
  schema = refl;
}

abbrev fives : ViewMembers
fives = member 0 five no_member

abbrev typed_members : ViewMembers → TypedMembers
typed_members ms = record { schema = types; type = 1; members = ms }

the_elements : AreElements (typed 3 (list fives)) (typed_members fives)
the_elements = record { kind = a_sequence_of any_size 1; of = refl; element = refl; are = refl; schema = refl }

the_first : IsNextElement (typed_members fives) (typed 1 five) (typed_members no_member)
the_first = record {
  number = 0;
  are = refl;
  type = refl;
  schema = refl;
  same_type = refl;
  same_schema = refl;
}

abbrev named_members : ViewMembers → NamedMembers
named_members ms = record { schema = types; components = count ∷ state ∷ []; members = ms }

the_fields : AreFields (typed 0 reading) (named_members (member 0 five (member 1 seven no_member)))
the_fields = record {
  of = record { kind = a_sequence false (count ∷ state ∷ []); is = refl; are = refl };
  are = refl;
  schema = refl;
}

-- the second component follows the first
the_next_field : IsNextField (named_members (member 1 seven no_member)) (codes "state") (typed 2 seven) (named_members no_member)
the_next_field = record {
  number = 1;
  are = refl;
  component = state;
  at = refl;
  named = refl;
  type = refl;
  schema = refl;
  same_components = refl;
  same_schema = refl;
}

-- ---- what does not hold

one_list : {A : Type 0} (parts : Kind → Option (List A)) (s : List Resolved) (t : ℕ) (xs ys : List A)
    → Has parts s t xs
    → Has parts s t ys
    → xs ≡ ys
one_list parts s t xs ys a b =
    same_Some xs ys (sym a.are ∙ ap parts (same_Some a.kind b.kind (sym a.is ∙ b.is)) ∙ b.are)

-- what is the component with a name, in full
module _ (p q : Typed) (name : List ℕ) (h : IsField p name q) where
  field_named : Has components_in p.schema p.type h.components
      × (place_of (component_names h.components) name ≡ Some h.place)
      × (slice_get h.components h.place ≡ Some h.component)
  field_named = (h.of, h.named, h.at)

  field_there : component_at (members_in p.tree) h.place ≡ Some q.tree
  field_there = h.there

  field_typed : (q.type ≡ h.component.type) × (q.schema ≡ p.schema)
  field_typed = (h.type, h.schema)

-- a part has one component with a name
one_field : (p q r : Typed) (name : List ℕ) → IsField p name q → IsField p name r → q.tree ≡ r.tree
one_field p q r name a b =
    let c : a.components ≡ b.components =
    one_list components_in p.schema p.type a.components b.components a.of b.of in
    let i : a.place ≡ b.place =
    same_Some a.place b.place (sym a.named ∙ ap (λ cs. place_of (component_names cs) name) c ∙ b.named) in
    same_Some q.tree r.tree (sym a.there ∙ ap (component_at (members_in p.tree)) i ∙ b.there)

not_the_state : IsField (typed 0 reading) (codes "count") (typed 2 seven) → ⊥
not_the_state h =
    let e : five ≡ seven = one_field (typed 0 reading) (typed 1 five) (typed 2 seven) (codes "count") the_count h in
    absurd cc

has_a_field : HasNoField (typed 0 reading) (codes "count") → ⊥
has_a_field h =
    let e =
    h (count ∷ state ∷ []) 0 (record { kind = a_sequence false (count ∷ state ∷ []); is = refl; are = refl }) refl in
    absurd cc

has_a_choice : HasNoChoice (typed 4 (alternative 0 five)) → ⊥
has_a_choice h = let e = h (a_choice (one ∷ []) false []) 0 five refl refl in absurd cc

has_an_item : HasNoItem (typed 2 seven) → ⊥
has_an_item h = let e = h (an_enumerated (failed ∷ []) false []) (pos 7) refl refl in absurd cc

has_elements : HasNoElements (typed 3 (list fives)) → ⊥
has_elements h = let e = h (a_sequence_of any_size 1) refl in absurd cc

has_fields : HasNoFields (typed 0 reading) → ⊥
has_fields h =
    h (count ∷ state ∷ []) (record { kind = a_sequence false (count ∷ state ∷ []); is = refl; are = refl })

has_a_next_field : HasNoNextField (named_members (member 1 seven no_member)) → ⊥
has_a_next_field h = let e = h 1 seven no_member refl in absurd cc
