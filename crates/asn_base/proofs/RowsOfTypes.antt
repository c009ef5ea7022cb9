-- Worked rows: what tags and bits keep, what Rust types are without memory, and what a schema of today leaves out.
use Rattle.std.proofs.Common.{arith, lit<, ◌≡◌, ℕ, zero, suc, ◌<◌, ◌≤◌, ◌^◌, inl, inr, true, false, List, [], ◌∷◌, length, refl, sym, ap, subst, ◌∙◌}
use Rattle.std.specs.Prelude.{◌*◌, ◌-◌, pos, Option, Some, None, Bool, Vec, map, string_bytes, take, flat_map, chars}
use Rattle.std.specs.declared.alloc.Global.{Global}
use Rattle.asn_base.specs.declared.tag.Class.TheVariants.{Universal}
use Rattle.asn_base.specs.declared.tag.Tag.{Tag}
use Rattle.asn_base.specs.declared.value.BitString.{BitString}
use Rattle.asn_base.specs.declared.constraint.Constraint.{Constraint as Constraint'}
use Rattle.asn_base.specs.declared.schema.Presence.TheVariants.{Optional, Default, Addition}
use Rattle.asn_base.specs.declared.schema.Component.{Component as Component'}
use Rattle.asn_base.specs.declared.schema.Alternative.{Alternative as Alternative'}
use Rattle.asn_base.specs.declared.schema.Alternatives.{Alternatives}
use Rattle.asn_base.specs.declared.schema.Item.{Item as Item'}
use Rattle.asn_base.specs.declared.schema.NamedBit.{NamedBit as NamedBit'}
use Rattle.asn_base.specs.declared.schema.TypeId.{TypeId}
use Rattle.asn_base.specs.declared.schema.Core.TheVariants as cores
use Rattle.asn_base.specs.declared.schema.Resolved.{Resolved as Resolved'}
use Rattle.asn_base.specs.Abstract.{AbstractValue, abstract, enumerated, text, bits_of_octet, bits_of}
use Rattle.asn_base.specs.Types.{Constraint, any_number, optional, default, addition, Component, an_enumerated, a_null, a_utf8_string, an_octet_string, a_sequence, a_set, a_set_of, a_choice, Resolved}
use Rattle.asn_base.specs.Typed.{IsAllowedSize, IsObjectIdentifier, arcs, IsPrimitive, fits_enumerated, fits_utf8, IsValue, nodes}
use Rattle.asn_base.specs.Tags.{HasFewTags}
use Rattle.asn_base.specs.Same.{IsLeaf}
use Rattle.asn_base.specs.Seen.{range_of, bounds_of, constraint_of, presence_of, component_of, alternative_of, item_of, named_bit_of, kind_of, resolved_of}
use Rattle.asn_base.specs.Accepted.{IsOfFirstStage}

-- a tag's number is below 2^31, and not 0 in the universal class; a bit string has at most seven unused bits
number_below : (g : Tag) → g.number < 2147483648
number_below g = g.in_range

universal_above_0 : (g : Tag) → g.class ≡ Universal → 0 < g.number
universal_above_0 g = g.not_reserved

at_most_seven : (b : BitString) → b.unused < 8
at_most_seven b = b.few_unused

-- six tags are few enough
abbrev tags_in : Option Resolved → List Tag
tags_in None = []
tags_in (Some r) = r.tags

six_tags : (g : Tag) → HasFewTags (record { tags = g ∷ g ∷ g ∷ g ∷ g ∷ g ∷ []; kind = a_null } ∷ [])
six_tags g zero tags k i = let e = ap length (ap tags_in i.found) in omega arith
six_tags g (suc t) tags k i = absurd (subst IsFound (sym i.found) tt)
  where
    IsFound : Option Resolved → Type 0
    IsFound None = ⊥
    IsFound (Some r) = Unit {0}

-- A0 with four unused bits is '1010'B
four_bits : (b : BitString) → b.octets.items ≡ 160 ∷ [] → b.unused ≡ 4 → bits_of b ≡ true ∷ false ∷ true ∷ false ∷ []
four_bits b e f = ap (λ o. take (8 * length o - b.unused) (flat_map bits_of_octet o)) e ∙ ap (λ n. take (8 - n) (bits_of_octet 160)) f

-- the size of a UTF8String is in characters
size_in_characters : {c : Constraint} {o : List ℕ} → IsPrimitive (a_utf8_string c) (text o) → IsAllowedSize c (length (chars o))
size_in_characters (fits_utf8 u a) = a

-- an object identifier has at most 64 numbers, each below 2^64 and the first at most 2
first_at_most_2 : {x y : ℕ} {zs : List ℕ} → IsObjectIdentifier (x ∷ y ∷ zs) → x ≤ 2
first_at_most_2 (arcs a b c d e) = a

second_below_2_64 : {x y : ℕ} {zs : List ℕ} → IsObjectIdentifier (x ∷ y ∷ zs) → y < 2 ^ 64
second_below_2_64 (arcs a b c d e) = c

at_most_64 : {ns : List ℕ} → IsObjectIdentifier ns → length ns ≤ 64
at_most_64 (arcs a b c d e) = omega arith

below_2_64 : {x y z : ℕ} {zs : List ℕ} → IsObjectIdentifier (x ∷ y ∷ z ∷ zs) → z < 2 ^ 64
below_2_64 (arcs a b c d e) = d.0

-- an item after the marker is an item
new_item : IsPrimitive (an_enumerated (record { name = []; number = pos 0 } ∷ []) true (record { name = []; number = pos 2 } ∷ [])) (enumerated (pos 2))
new_item = fits_enumerated (lit< tt) (inr (inl refl))

-- a value has at most 2^24 nodes
at_most_nodes : {s : List Resolved} {t : ℕ} {v : AbstractValue} → IsValue s t v → nodes v ≤ 16777216
at_most_nodes a = a.few_nodes

-- elements of a SET OF may be in any order, so that being alike is more than being equal
set_of_is_no_leaf : (c : Constraint) (u : ℕ) → IsLeaf (a_set_of c u) → ⊥
set_of_is_no_leaf c u h = h

-- types without memory
range_from_1 : range_of (record { least = Some (pos 1); greatest = None }) ≡ record { least = Some (pos 1); greatest = None }
range_from_1 = refl

bounds_are : bounds_of (record { least = Some (pos 1); greatest = Some (pos 2); extensible = true }) ≡ record { least = Some (pos 1); greatest = Some (pos 2); extensible = true }
bounds_are = refl

optional_is : presence_of Optional ≡ optional
optional_is = refl

default_is : (v : _) → presence_of (Default v) ≡ default (abstract v.value)
default_is v = refl

addition_is : presence_of (Addition (record { optional = true; group = Some 3 })) ≡ addition true (Some 3)
addition_is = refl

component_is : (c : Component') → (component_of c).name ≡ string_bytes c.name
component_is c = refl

alternative_is : (a : Alternative') → alternative_of a ≡ record { name = string_bytes a.name; type = a.ty.index }
alternative_is a = refl

item_is : (i : Item') → item_of i ≡ record { name = string_bytes i.name; number = i.number }
item_is i = refl

named_bit_is : (b : NamedBit') → named_bit_of b ≡ record { name = string_bytes b.name; place = b.place }
named_bit_is b = refl

octet_string_is : (c : Constraint') → kind_of (cores.OctetString c) ≡ an_octet_string (constraint_of c)
octet_string_is c = refl

set_is : (e : Bool) (cs : Vec Component' Global) → kind_of (cores.Set e cs) ≡ a_set e (map component_of cs.items)
set_is e cs = refl

set_of_is : (c : Constraint') (u : TypeId) → kind_of (cores.SetOf c u) ≡ a_set_of (constraint_of c) u.index
set_of_is c u = refl

additions_last : (as' : Alternatives) → kind_of (cores.Choice as') ≡ a_choice (map alternative_of as'.root.items) as'.extensible (map alternative_of as'.additions.items)
additions_last as' = refl

outermost_first : (r : Resolved') (g : Tag) (gs : List Tag) → r.tags.items ≡ g ∷ gs → (resolved_of r).tags ≡ g ∷ gs
outermost_first r g gs e = e

-- a schema of today's writer has no constraints and no markers
no_constraint : (c : Constraint) → c.allowed ≡ Some [] → c ≡ any_number → ⊥
no_constraint c e u = let f : None ≡ Some [] = sym (ap (λ q. q.allowed) u) ∙ e in cc

no_marker : (s : List Resolved) (cs : List Component) → IsOfFirstStage s (a_sequence true cs) → ⊥
no_marker s cs h = let e : true ≡ false = h.0 in cc
