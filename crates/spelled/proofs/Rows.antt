-- Worked rows: types that are spelled as the notation asks, and for each clause one that isn't.
use Rattle.std.proofs.Common.{arith, true, false, [], ◌∷◌, Some, None, refl}
use Rattle.std.specs.Prelude.{pos}
use Rattle.trees.specs.declared.module.TagDefault.TheVariants.{Automatic}
use Rattle.trees.specs.declared.types.ElementsKind.TheVariants.{SequenceOf}
use Rattle.trees.specs.declared.types.ListKind.TheVariants.{Sequence, Set, Choice}
use Rattle.trees.specs.declared.types.Standing.TheVariants.{Root, Addition}
use Rattle.trees.specs.Values.{Name, yes}
use Rattle.trees.specs.Types.{mandatory, an_integer, a_bit_string, an_enumerated, a_boolean, TypeTree, a_type, a_simple, a_list, an_elements, TypeMembers, no_member, member_and}
use Rattle.trees.specs.Modules.{assigns_type, assigns_value, ModuleTree}
use Rattle.type_table.specs.Table.{Part, simple, members}
use Rattle.spelled.specs.Written.{IsSpelledPlain, IsSpelledTree, IsSpelledModule}
use Rattle.spelled.specs.Spelled.{IsSpelledKind, AreSpelled}

-- a, a-1, A and a-
abbrev a : Name
a = 97 ∷ []

abbrev a_1 : Name
a_1 = 97 ∷ 45 ∷ 49 ∷ []

abbrev capital : Name
capital = 65 ∷ []

abbrev hyphen_last : Name
hyphen_last = 97 ∷ 45 ∷ []

-- ---- types that hold no type

-- INTEGER {a(1)}, INTEGER {A(1)}
number : IsSpelledPlain (an_integer ((a, pos 1) ∷ []))
number = (refl, tt)

number_capital : IsSpelledPlain (an_integer ((capital, pos 1) ∷ [])) → ⊥
number_capital h = let e = h.0 in absurd cc

-- BIT STRING {a(0), a-1(1)}, BIT STRING {a(0), a-(1)}
bits : IsSpelledPlain (a_bit_string ((a, 0) ∷ (a_1, 1) ∷ []))
bits = (refl, (refl, tt))

bits_open : IsSpelledPlain (a_bit_string ((a, 0) ∷ (hyphen_last, 1) ∷ [])) → ⊥
bits_open h = let e = h.1.0 in absurd cc

-- ENUMERATED {a, ..., a-1}, {A}, {..., a} and {a, ..., A}
items : IsSpelledPlain (an_enumerated ((a, None) ∷ []) (Some ((a_1, None) ∷ [])))
items = (omega arith, (refl, (refl, tt)))

item_capital : IsSpelledPlain (an_enumerated ((capital, None) ∷ []) None) → ⊥
item_capital h = let e = h.1.0 in absurd cc

no_item : IsSpelledPlain (an_enumerated [] (Some ((a, None) ∷ []))) → ⊥
no_item h = omega (arith, h.0)

addition_capital : IsSpelledPlain (an_enumerated ((a, None) ∷ []) (Some ((capital, None) ∷ []))) → ⊥
addition_capital h = let e = h.1.1.0 in absurd cc

-- ---- types

abbrev boolean : TypeTree
boolean = a_type (a_simple a_boolean) []

-- INTEGER {A(1)}
abbrev misspelled : TypeTree
misspelled = a_type (a_simple (an_integer ((capital, pos 1) ∷ []))) []

-- a BOOLEAN after the marker
abbrev added : TypeMembers
added = member_and a boolean mandatory (Addition None) no_member

-- CHOICE {a BOOLEAN} and CHOICE {..., a BOOLEAN}
choice : IsSpelledTree (a_type (a_list Choice false (member_and a boolean mandatory Root no_member)) [])
choice = ((refl, tt, tt), omega arith)

choice_of_additions : IsSpelledTree (a_type (a_list Choice true added) []) → ⊥
choice_of_additions h = omega (arith, h.1)

-- SEQUENCE {..., a BOOLEAN} and SET {..., a BOOLEAN}
sequence_of_additions : IsSpelledTree (a_type (a_list Sequence true added) [])
sequence_of_additions = ((refl, tt, tt), tt)

set_of_additions : IsSpelledTree (a_type (a_list Set true added) [])
set_of_additions = ((refl, tt, tt), tt)

-- SEQUENCE {A BOOLEAN}
member_capital : IsSpelledTree (a_type (a_list Sequence false (member_and capital boolean mandatory Root no_member)) []) → ⊥
member_capital h = let e = h.0.0 in absurd cc

-- SEQUENCE {a INTEGER {A(1)}}
member_inside : IsSpelledTree (a_type (a_list Sequence false (member_and a misspelled mandatory Root no_member)) []) → ⊥
member_inside h = let e = h.0.1.0 in absurd cc

-- SEQUENCE {a BOOLEAN, a- BOOLEAN}
second_member :
    IsSpelledTree (a_type (a_list Sequence false (member_and a boolean mandatory Root (member_and hyphen_last boolean mandatory Root no_member))) []) → ⊥
second_member h = let e = h.0.2.0 in absurd cc

-- SEQUENCE OF INTEGER {A(1)}
element_inside : IsSpelledTree (a_type (an_elements SequenceOf misspelled) []) → ⊥
element_inside h = let e = h.0 in absurd cc

-- ---- modules

abbrev two : TypeTree → ModuleTree
two t = record { name = capital; tag_default = Automatic; exports = None; imports = []; assignments = assigns_type capital boolean ∷ assigns_value a t yes ∷ [] }

well : IsSpelledModule (two boolean)
well = (tt, (tt, tt))

second_assignment : IsSpelledModule (two misspelled) → ⊥
second_assignment h = let e = h.1.0.0 in absurd cc

-- ---- tables

abbrev part : Name → Part
part x = record { name = x; ty = 0; presence = mandatory; standing = Root }

choice_in_table : IsSpelledKind (members Choice false (part a ∷ []))
choice_in_table = ((refl, tt), omega arith)

empty_choice : IsSpelledKind (members Choice true []) → ⊥
empty_choice h = omega (arith, h.1)

part_capital : IsSpelledKind (members Set false (part a ∷ part capital ∷ [])) → ⊥
part_capital h = let e = h.0.1.0 in absurd cc

plain_in_table : IsSpelledKind (simple (an_integer ((capital, pos 1) ∷ []))) → ⊥
plain_in_table h = let e = h.0 in absurd cc

-- a table with a type that isn't spelled so, at its second place
not_all : AreSpelled (record { kind = simple a_boolean; constraints = []; default = Automatic; place = None; assignment = 0 } ∷ record { kind = members Choice true []; constraints = []; default = Automatic; place = None; assignment = 0 } ∷ []) → ⊥
not_all h = empty_choice (h 1 _ refl)
