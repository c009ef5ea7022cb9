-- How the types of a table are spelled. The names of components, alternatives, items, bits and numbers are identifiers,
-- and an enumeration and a CHOICE have an item or an alternative before the marker.
use Rattle.std.specs.Prelude.{◌≡◌, ℕ, Some, List, map, slice_get}
use Rattle.std.specs.List.{AllByRecursion}
use Rattle.asn_base.specs.Names.{IsIdentifier}
use Rattle.type_table.specs.Lists.{root_count}
use Rattle.type_table.specs.Table.{Part, WrittenKind, simple, members, Type'}
use Rattle.spelled.specs.Written.{IsSpelledPlain, HasRoot}

abbrev pub IsSpelledKind : WrittenKind → Type 0
IsSpelledKind (simple s) = IsSpelledPlain s
IsSpelledKind (members l m cs) =
    AllByRecursion IsIdentifier (map (λ (c : Part). c.name) cs)
    × HasRoot l (root_count cs)
IsSpelledKind k = Unit {0}

abbrev pub AreSpelled : List Type' → Type 0
AreSpelled ts = (i : ℕ) (t : Type') → slice_get ts i ≡ Some t → IsSpelledKind t.kind
