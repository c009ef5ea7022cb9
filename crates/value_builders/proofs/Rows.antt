-- Worked rows: what the definitions say of small types, and what they do not.
use Rattle.std.proofs.Common.{◌≡◌, ℕ, zero, suc, pos, true, false, List, [], ◌∷◌, Some, None, refl, ap}
use Rattle.std.specs.Prelude.{codes, slice_get}
use Rattle.asn_base.specs.Abstract.{integer, enumerated, alternative, null}
use Rattle.asn_base.specs.Types.{Item, NamedBit, Alternative, Component, Resolved, mandatory, optional, default, addition, a_sequence, a_set, a_null, a_choice, an_enumerated, a_named_bit_string}
use Rattle.value_builders.specs.Named.{Has, IsOther, kind_at, components_in, alternatives_in, items_in, bits_in, place_of, number_of, bit_of, component_names}
use Rattle.value_builders.specs.Building.{begun, IsSet, missing}
use Rattle.value_builders.specs.Made.{IsAlternative, IsItem, AreBitPlaces, AreSetBits}

abbrev station : Component
station = record { name = codes "station"; type = 1; presence = mandatory }

abbrev note : Component
note = record { name = codes "note"; type = 1; presence = optional }

abbrev level : Component
level = record { name = codes "level"; type = 1; presence = default (integer (pos 3)) }

abbrev newer : Component
newer = record { name = codes "newer"; type = 1; presence = addition false None }

abbrev last : Component
last = record { name = codes "last"; type = 1; presence = mandatory }

abbrev all_of : List Component
all_of = station ∷ note ∷ level ∷ newer ∷ last ∷ []

abbrev ok : Item
ok = record { name = codes "ok"; number = pos 0 }

abbrev failed : Item
failed = record { name = codes "failed"; number = pos 7 }

abbrev number : Alternative
number = record { name = codes "number"; type = 3 }

abbrev nothing : Alternative
nothing = record { name = codes "nothing"; type = 3 }

abbrev low : NamedBit
low = record { name = codes "low"; place = 4 }

abbrev high : NamedBit
high = record { name = codes "high"; place = 1 }

abbrev types : List Resolved
types =
    record { tags = []; kind = a_sequence true all_of }
    ∷ record { tags = []; kind = an_enumerated (ok ∷ []) true (failed ∷ []) }
    ∷ record { tags = []; kind = a_choice (number ∷ []) true (nothing ∷ []) }
    ∷ record { tags = []; kind = a_null }
    ∷ record { tags = []; kind = a_named_bit_string (low ∷ high ∷ []) }
    ∷ []

-- ---- names

a_place : place_of (component_names all_of) (codes "level") ≡ Some 2
a_place = refl

no_place : place_of (component_names all_of) (codes "levels") ≡ None
no_place = refl

an_additions_number : number_of (ok ∷ failed ∷ []) (codes "failed") ≡ Some (pos 7)
an_additions_number = refl

no_number : number_of (ok ∷ failed ∷ []) (codes "Ok") ≡ None
no_number = refl

a_bit : bit_of (low ∷ high ∷ []) (codes "high") ≡ Some 1
a_bit = refl

no_bit : bit_of (low ∷ high ∷ []) (codes "middle") ≡ None
no_bit = refl

no_type : kind_at types 5 ≡ None
no_type = refl

has_components : Has components_in types 0 all_of
has_components = record { kind = a_sequence true all_of; is = refl; are = refl }

a_set_has_them : components_in (a_set false all_of) ≡ Some all_of
a_set_has_them = refl

has_items : Has items_in types 1 (ok ∷ failed ∷ [])
has_items = record { kind = an_enumerated (ok ∷ []) true (failed ∷ []); is = refl; are = refl }

has_bits : Has bits_in types 4 (low ∷ high ∷ [])
has_bits = record { kind = a_named_bit_string (low ∷ high ∷ []); is = refl; are = refl }

null_has_none : IsOther components_in types 3
null_has_none = record { kind = a_null; is = refl; none = refl }

null_is_no_choice : IsOther alternatives_in types 3
null_is_no_choice = record { kind = a_null; is = refl; none = refl }

-- ---- a SEQUENCE

begun_empty : (begun (station ∷ note ∷ [])).values ≡ None ∷ None ∷ []
begun_empty = refl

set_one : IsSet (begun (station ∷ note ∷ [])) (codes "note") null (record { components = station ∷ note ∷ []; values = None ∷ Some null ∷ [] })
set_one = record { place = 1; named = refl; was_absent = refl; values = refl; components = refl }

not_set_twice : (i : IsSet (record { components = note ∷ []; values = Some null ∷ [] }) (codes "note") null (record { components = note ∷ []; values = Some null ∷ [] })) → i.place ≡ 0 → ⊥
not_set_twice i e = let h = i.was_absent in let f = ap (λ k. slice_get (Some null ∷ []) k) e in cc

the_first_is_missing : missing all_of (None ∷ None ∷ None ∷ None ∷ None ∷ []) ≡ Some (codes "station")
the_first_is_missing = refl

only_the_last_is_missing : missing all_of (Some null ∷ None ∷ None ∷ None ∷ None ∷ []) ≡ Some (codes "last")
only_the_last_is_missing = refl

none_is_missing : missing all_of (Some null ∷ None ∷ None ∷ None ∷ Some null ∷ []) ≡ None
none_is_missing = refl

-- ---- names alone

an_addition_chosen : IsAlternative types 2 (codes "nothing") null (alternative 1 null)
an_addition_chosen = record {
  alternatives = number ∷ nothing ∷ [];
  of = record { kind = a_choice (number ∷ []) true (nothing ∷ []); is = refl; are = refl };
  place = 1;
  named = refl;
  is = refl;
}

an_item : IsItem types 1 (codes "failed") (enumerated (pos 7))
an_item = record { items = ok ∷ failed ∷ []; of = has_items; number = pos 7; named = refl; is = refl }

places_of_bits : AreBitPlaces (low ∷ high ∷ []) (codes "low" ∷ codes "high" ∷ codes "low" ∷ []) (4 ∷ 1 ∷ 4 ∷ [])
places_of_bits = record { found = refl }

-- bits 1 and 4, and no zeros after them
no_zeros_at_the_end : AreSetBits (1 ∷ []) (false ∷ true ∷ false ∷ []) → ⊥
no_zeros_at_the_end s = let a = s.greatest 2 refl in none a.place a.there
  where
    none : (k : ℕ) → slice_get {X = ℕ} (1 ∷ []) k ≡ Some 2 → ⊥
    none zero e = cc
    none (suc k) e = cc

none_is_forgotten : AreSetBits (1 ∷ []) [] → ⊥
none_is_forgotten s = let e = (s.set 1).1 (record { place = 0; there = refl }) in cc
