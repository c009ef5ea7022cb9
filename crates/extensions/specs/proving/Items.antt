-- Items with numbers, which are distinct.
use Rattle.std.specs.Prelude.{ℤ, Bool, List, [], ◌∷◌}
use Rattle.std.specs.List.{IsDistinct}
use Rattle.std.specs.Ordering.{int_eq}
use Rattle.asn_base.specs.declared.schema.Item.{Item}
use Rattle.asn_base.specs.Types as types
use Rattle.trees.specs.Values.{Name}
use Rattle.type_table.specs.Items as written

abbrev pub item_with : Name → ℤ → types.Item
item_with x z = record { name = x; number = z }

-- items with these numbers
abbrev pub with_numbers : List written.WrittenItem → List ℤ → List types.Item
with_numbers [] zs = []
with_numbers (i ∷ is) [] = []
with_numbers (i ∷ is) (z ∷ zs) = item_with i.0 z ∷ with_numbers is zs

abbrev pub have_one_number : Item → Item → Bool
have_one_number i j = int_eq i.number j.number

-- no two items have the same number
abbrev pub DifferByNumber : List Item → Type 0
DifferByNumber is = IsDistinct have_one_number is
