-- The names that a written type lists, and what they are names of (X.680, clauses 19, 20, 22, 25, 27 and 29).
use Rattle.std.specs.Prelude.{◌≡◌, ◌<◌, ℕ, ℤ, List, [], ◌++◌, Option, Some, MatchOption, map, slice_get}
use Rattle.trees.specs.Types.{an_integer, a_bit_string, an_enumerated}
use Rattle.trees.specs.Values.{Name}
use Rattle.names.specs.Modules.{OccursIn}
use Rattle.names.specs.Names.{names_of}
use Rattle.type_table.specs.Items.{WrittenItem, additions_of, numbers_of}
use Rattle.type_table.specs.Table.{Part, WrittenKind, simple, members}

-- the names that a type of this kind lists, in order: of numbers, bits, items (those of the root come first) or members
abbrev pub listed_names : WrittenKind → List Name
listed_names (simple (an_integer ns)) = names_of ns
listed_names (simple (a_bit_string bs)) = names_of bs
listed_names (simple (an_enumerated root more)) = names_of (root ++ additions_of more)
listed_names (members l m cs) = map (λ (c : Part). c.name) cs
listed_names k = []

-- this is the first place of name x in the list, or None if x is not in it
abbrev pub IsPlaceOf : List Name → Name → Option ℕ → Type 0
IsPlaceOf xs x r =
    MatchOption r
    (OccursIn xs x → ⊥)
    (λ i. (slice_get xs i ≡ Some x) × ((j : ℕ) → j < i → slice_get xs j ≡ Some x → ⊥))

-- the named numbers of an INTEGER (X.680, clause 19)
abbrev pub numbers_listed : WrittenKind → List (Name × ℤ)
numbers_listed (simple (an_integer ns)) = ns
numbers_listed k = []

-- the named bits of a BIT STRING, each with its place (X.680, clause 22)
abbrev pub bits_listed : WrittenKind → List (Name × ℕ)
bits_listed (simple (a_bit_string bs)) = bs
bits_listed k = []

-- the items of an ENUMERATED, those of the root first (X.680, clause 20)
abbrev pub items_listed : WrittenKind → List WrittenItem
items_listed (simple (an_enumerated root more)) = root ++ additions_of more
items_listed k = []

-- the numbers of the items of an ENUMERATED, those of the root first (X.680, clauses 20.5 and 20.6)
abbrev pub item_numbers : WrittenKind → List ℤ
item_numbers (simple (an_enumerated root more)) = numbers_of root (additions_of more)
item_numbers k = []
