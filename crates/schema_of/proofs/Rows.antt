-- A program with its schema, and parts of schemas that are none of it.
use Rattle.std.proofs.Common.{◌≡◌, ℕ, zero, suc, ◌<◌, Bool, true, false, List, [], ◌∷◌, Option, Some, None, refl, sym, ap, subst, ◌∙◌, arith, inl, inr}
use Rattle.std.specs.Prelude.{◌⊎◌, ◌≤◌, ◌++◌, ℤ, pos, negsuc, slice_get, slice_index}
use Rattle.std.proofs.lemmas.Option.{same_Some}
use Rattle.asn_base.specs.Abstract.{boolean}
use Rattle.asn_base.specs.Names.{IsMember, is_first, is_later}
use Rattle.asn_base.specs.Types.{Component, Resolved, any_number}
use Rattle.asn_base.specs.Types as types
use Rattle.trees.specs.declared.types.ListKind.TheVariants.{Sequence}
use Rattle.trees.specs.declared.types.Standing.TheVariants.{Root, Addition}
use Rattle.trees.specs.declared.module.TagDefault.TheVariants.{Automatic}
use Rattle.trees.specs.Values.{Name, Tree, yes}
use Rattle.trees.specs.Types.{a_boolean, an_integer, mandatory, optional, default}
use Rattle.type_table.specs.Items.{WrittenItem, numbers_of}
use Rattle.type_table.specs.Table.{Part, WrittenKind, Type', simple, reference, members, walk}
use Rattle.resolve.specs.Program.{Program}
use Rattle.value_notations.specs.References.{own}
use Rattle.value_notations.specs.Leaves as leaves
use Rattle.value_notations.specs.Notations.{Notation, notation, of_leaf}
use Rattle.schema_of.specs.SchemaOf as schema_of
use Rattle.schema_of.specs.SchemaOf.{IsSchemaOf, IsTypeOf, IsComponentOf, IsPresenceOf, IsKindOf, numbered_item, AreItemsOf, IsRootItem, IsAddedItem}

-- `S ::= SEQUENCE {a B, b B DEFAULT TRUE, ..., c INTEGER {o(1)} OPTIONAL}` and `B ::= BOOLEAN` in module M, AUTOMATIC
-- TAGS
a_part : Part
a_part = record { name = 97 ∷ []; ty = 1; presence = mandatory; standing = Root }

b_part : Part
b_part = record { name = 98 ∷ []; ty = 2; presence = default yes; standing = Root }

c_part : Part
c_part = record { name = 99 ∷ []; ty = 3; presence = optional; standing = Addition None }

abbrev type_of : WrittenKind → Option (ℕ × ℕ) → ℕ → Type'
type_of k at g = record { kind = k; constraints = []; default = Automatic; place = at; assignment = g }

abbrev p : Program
p = record {
  modules = [];
  headers = (77 ∷ [], Automatic) ∷ [];
  assignments = (0, 83 ∷ []) ∷ (0, 66 ∷ []) ∷ [];
  types =
      type_of (members Sequence true (a_part ∷ b_part ∷ c_part ∷ [])) None 0
      ∷ type_of (reference 4) (Some (0, 0)) 0
      ∷ type_of (reference 4) (Some (0, 1)) 0
      ∷ type_of (simple (an_integer ((111 ∷ [], pos 1) ∷ []))) (Some (0, 2)) 0
      ∷ type_of (simple a_boolean) None 1
      ∷ [];
  values = [];
}

a_component : Component
a_component = record { name = 97 ∷ []; type = 1; presence = types.mandatory }

abbrev b_component : Bool → Component
b_component b = record { name = 98 ∷ []; type = 2; presence = types.default (boolean b) }

c_component : Component
c_component = record { name = 99 ∷ []; type = 3; presence = types.addition true None }

abbrev kind_of : types.Kind → Resolved
kind_of k = record { tags = []; kind = k }

abbrev s : List Resolved
s =
    kind_of (types.a_sequence true (a_component ∷ b_component true ∷ c_component ∷ []))
    ∷ kind_of types.a_boolean
    ∷ kind_of types.a_boolean
    ∷ kind_of (types.an_integer any_number)
    ∷ kind_of types.a_boolean
    ∷ []

abbrev Any : ℕ → ℤ → Type 0
Any i z = Unit {0}

abbrev NoCode : ℕ → ℕ → Type 0
NoCode i x = ⊥

-- TRUE is a notation under the type of b
true_stands : Notation p [] (77 ∷ []) 2 yes (boolean true)
true_stands =
    notation
    (record { core = 4; type = type_of (simple a_boolean) None 1; chain = record { steps = 1; few = omega arith; chain = refl; ends = refl }; there = refl; kind = refl })
    (own tt) (of_leaf leaves.truth)

first : IsTypeOf p Any NoCode 0 (types.a_sequence true (a_component ∷ b_component true ∷ c_component ∷ []))
unfolding a_part b_part c_part a_component c_component
first = record {
  core = 0;
  type = type_of (members Sequence true (a_part ∷ b_part ∷ c_part ∷ [])) None 0;
  chain = record { steps = 0; few = omega arith; chain = refl; ends = refl };
  there = refl;
  within = 77 ∷ [];
  assigns = 83 ∷ [];
  is_so = record { owner = 0; tags = Automatic; assigned = refl; header = refl };
  kind = schema_of.sequence (
      schema_of.component_and (record { name = refl; type = refl; presence = schema_of.is_mandatory refl refl }) (
      schema_of.component_and (record { name = refl; type = refl; presence = schema_of.has_default refl refl true_stands }) (
      schema_of.component_and (record { name = refl; type = refl; presence = schema_of.is_optional_addition refl refl }) schema_of.no_component
      )
      )
      );
}

the_boolean : (i : ℕ) → (steps : ℕ) → steps < 5 → walk p.types steps i ≡ Some 4 → IsTypeOf p Any NoCode i types.a_boolean
the_boolean i steps few chain = record {
  core = 4;
  type = type_of (simple a_boolean) None 1;
  chain = record { steps = steps; few = few; chain = chain; ends = refl };
  there = refl;
  within = 77 ∷ [];
  assigns = 66 ∷ [];
  is_so = record { owner = 0; tags = Automatic; assigned = refl; header = refl };
  kind = schema_of.boolean;
}

the_integer : IsTypeOf p Any NoCode 3 (types.an_integer any_number)
the_integer = record {
  core = 3;
  type = type_of (simple (an_integer ((111 ∷ [], pos 1) ∷ []))) (Some (0, 2)) 0;
  chain = record { steps = 0; few = omega arith; chain = refl; ends = refl };
  there = refl;
  within = 77 ∷ [];
  assigns = 83 ∷ [];
  is_so = record { owner = 0; tags = Automatic; assigned = refl; header = refl };
  kind = schema_of.integer (λ z. (λ h. tt, λ h. tt));
}

each : (i : ℕ) (r : Resolved) → slice_get s i ≡ Some r → IsTypeOf p Any NoCode i r.kind
each zero r e = subst (λ (r : Resolved). IsTypeOf p Any NoCode 0 r.kind) (same_Some _ r e) first
each (suc zero) r e = subst (λ (r : Resolved). IsTypeOf p Any NoCode 1 r.kind) (same_Some _ r e) (the_boolean 1 1 (omega arith) refl)
each (suc (suc zero)) r e = subst (λ (r : Resolved). IsTypeOf p Any NoCode 2 r.kind) (same_Some _ r e) (the_boolean 2 1 (omega arith) refl)
each (suc (suc (suc zero))) r e = subst (λ (r : Resolved). IsTypeOf p Any NoCode 3 r.kind) (same_Some _ r e) the_integer
each (suc (suc (suc (suc zero)))) r e = subst (λ (r : Resolved). IsTypeOf p Any NoCode 4 r.kind) (same_Some _ r e) (the_boolean 4 0 (omega arith) refl)
each (suc (suc (suc (suc (suc i))))) r e = absurd cc

-- the schema is one of the program
holds : IsSchemaOf p Any NoCode s
holds = record { as_many = refl; each = each }

-- ---- what isn't the schema's type

-- TRUE stands for no other value
no_false : Notation p [] (77 ∷ []) 2 yes (boolean false) → ⊥
no_false (notation k (own o) (of_leaf l)) = elim l [ ]

-- FALSE in place of TRUE
other_default : IsPresenceOf p (77 ∷ []) b_part (types.default (boolean false)) → ⊥
unfolding b_part
other_default (schema_of.has_default {n} e f h) = no_false (let g : default yes ≡ default n = f in let q : n ≡ yes = cc in subst (λ (n : Tree). Notation p [] (77 ∷ []) 2 n (boolean false)) q h)

-- another name, and another type
other_name : IsComponentOf p (77 ∷ []) a_part (record { name = 98 ∷ []; type = 1; presence = types.mandatory }) → ⊥
unfolding a_part
other_name h = let e : 98 ≡ 97 = ap (λ (x : Name). slice_index x 0) h.name in omega (arith, e)

other_type : IsComponentOf p (77 ∷ []) a_part (record { name = 97 ∷ []; type = 2; presence = types.mandatory }) → ⊥
unfolding a_part
other_type h = let e : 2 ≡ 1 = h.type in omega (arith, e)

-- a component that must be present, but may be absent
other_presence : IsPresenceOf p (77 ∷ []) c_part types.mandatory → ⊥
unfolding c_part
other_presence (schema_of.is_mandatory e f) = cc

-- a BOOLEAN for an INTEGER
other_kind : (i : ℕ) (M : Name) → IsKindOf p Any NoCode i M (simple a_boolean) (types.an_integer any_number) → ⊥
other_kind i M h = elim h [ ]

-- ---- `ENUMERATED {r, l(-5), ..., n}`: the items of the root in order of number, and those after the marker

the_root : List WrittenItem
the_root = (114 ∷ [], None) ∷ (108 ∷ [], Some (negsuc 4)) ∷ []

the_additions : List WrittenItem
the_additions = (110 ∷ [], None) ∷ []

abbrev low : types.Item
low = numbered_item (108 ∷ []) (negsuc 4)

abbrev red : types.Item
red = numbered_item (114 ∷ []) (pos 0)

abbrev new : types.Item
new = numbered_item (110 ∷ []) (pos 1)

one_of_two : {A : Type 0} (x y z : A) → IsMember x (y ∷ z ∷ []) → (x ≡ y) ⊎ (x ≡ z)
one_of_two x y z is_first = inl refl
one_of_two x y z (is_later is_first) = inr refl
one_of_two x y z (is_later (is_later m)) = elim m [ ]

one_of_one : {A : Type 0} (x y : A) → IsMember x (y ∷ []) → x ≡ y
one_of_one x y is_first = refl
one_of_one x y (is_later m) = elim m [ ]

-- an item with the name and the number of another one
moved : (P : Name → ℤ → Type 0) (x y : Name) (z w : ℤ) → P y w → numbered_item x z ≡ numbered_item y w → P x z
moved P x y z w h e =
    subst (λ (x : Name). P x z) (sym (ap (λ (i : types.Item). i.name) e)) (subst (λ (z : ℤ). P y z) (sym (ap (λ (i : types.Item). i.number) e)) h)

low_written : IsRootItem the_root the_additions (108 ∷ []) (negsuc 4)
unfolding the_root the_additions
low_written = record { item = record { place = 1; item = (108 ∷ [], Some (negsuc 4)); there = refl; named = refl; numbered = refl }; in_root = omega arith }

red_written : IsRootItem the_root the_additions (114 ∷ []) (pos 0)
unfolding the_root the_additions
red_written = record { item = record { place = 0; item = (114 ∷ [], None); there = refl; named = refl; numbered = refl }; in_root = omega arith }

new_written : IsAddedItem the_root the_additions (110 ∷ []) (pos 1)
unfolding the_root the_additions
new_written = record { item = record { place = 2; item = (110 ∷ [], None); there = refl; named = refl; numbered = refl }; following = omega arith }

root_written : (x : Name) (z : ℤ) → IsMember (numbered_item x z) (low ∷ red ∷ []) → IsRootItem the_root the_additions x z
root_written x z m =
    elim (one_of_two (numbered_item x z) low red m) [
      | inl e ↦ moved (IsRootItem the_root the_additions) x (108 ∷ []) z (negsuc 4) low_written e
      | inr e ↦ moved (IsRootItem the_root the_additions) x (114 ∷ []) z (pos 0) red_written e
    ]

added_written : (x : Name) (z : ℤ) → IsMember (numbered_item x z) (new ∷ []) → IsAddedItem the_root the_additions x z
added_written x z m = moved (IsAddedItem the_root the_additions) x (110 ∷ []) z (pos 1) new_written (one_of_one (numbered_item x z) new m)

-- the item at a place
named_so : (is : List types.Item) (x y : Name) (z w : ℤ) → IsMember (numbered_item y w) is → y ≡ x → w ≡ z → IsMember (numbered_item x z) is
named_so is x y z w m e f = subst (λ (x : Name). IsMember (numbered_item x z) is) e (subst (λ (z : ℤ). IsMember (numbered_item y z) is) f m)

root_at : (n : ℕ) (j : WrittenItem) (x : Name) (z : ℤ) → n < 2 → slice_get (the_root ++ the_additions) n ≡ Some j → j.0 ≡ x → slice_get (numbers_of the_root the_additions) n ≡ Some z → IsMember (numbered_item x z) (low ∷ red ∷ [])
unfolding the_root the_additions
root_at zero j x z l e f g = named_so (low ∷ red ∷ []) x (114 ∷ []) z (pos 0) (is_later is_first) (ap (λ (j : WrittenItem). j.0) (same_Some _ j e) ∙ f) (same_Some _ z g)
root_at (suc zero) j x z l e f g = named_so (low ∷ red ∷ []) x (108 ∷ []) z (negsuc 4) is_first (ap (λ (j : WrittenItem). j.0) (same_Some _ j e) ∙ f) (same_Some _ z g)
root_at (suc (suc n)) j x z l e f g = absurd (omega (arith, l))

added_at : (n : ℕ) (j : WrittenItem) (x : Name) (z : ℤ) → 2 ≤ n → slice_get (the_root ++ the_additions) n ≡ Some j → j.0 ≡ x → slice_get (numbers_of the_root the_additions) n ≡ Some z → IsMember (numbered_item x z) (new ∷ [])
unfolding the_root the_additions
added_at zero j x z l e f g = absurd (omega (arith, l))
added_at (suc zero) j x z l e f g = absurd (omega (arith, l))
added_at (suc (suc zero)) j x z l e f g = named_so (new ∷ []) x (110 ∷ []) z (pos 1) is_first (ap (λ (j : WrittenItem). j.0) (same_Some _ j e) ∙ f) (same_Some _ z g)
added_at (suc (suc (suc n))) j x z l e f g = absurd cc

items_hold : AreItemsOf the_root (Some the_additions) (low ∷ red ∷ []) true (new ∷ [])
unfolding the_root the_additions
items_hold = record {
  roots = λ x z. (root_written x z, λ i. root_at i.item.place i.item.item x z i.in_root i.item.there i.item.named i.item.numbered);
  additions = λ x z. (added_written x z, λ i. added_at i.item.place i.item.item x z i.following i.item.there i.item.named i.item.numbered);
  marked = (λ e. absurd cc, λ e. absurd cc);
}
