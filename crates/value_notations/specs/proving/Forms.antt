-- What the form of a notation says that is no reference to a value.
use Rattle.std.specs.Prelude.{◌⊎◌, ◌<◌, ◌^◌, MatchOption, length, ℕ, ℤ, pos, Bool, true, false, List, Option, Some, None}
use Rattle.std.specs.List.{AllByRecursion}
use Rattle.asn_base.specs.declared.value.Value.{Value}
use Rattle.asn_base.specs.Abstract.{AbstractValue, abstract, oid, relative_oid}
use Rattle.trees.specs.Values.{Name, Tree, yes, no, null, number, binary, hex, chars, reference, nothing, numbers, items, Trees, no_tree, tree_and}
use Rattle.trees.specs.Types.{Plain}
use Rattle.value_notations.specs.Leaves.{IsLeafNotation}
use Rattle.value_notations.specs.declared.leaf.NumbersFault.{NumbersFault}
use Rattle.value_notations.specs.declared.leaf.NumbersFault.TheVariants.{Memory, Oid}

abbrev pub truth_in : Tree → Option Bool
truth_in yes = Some true
truth_in no = Some false
truth_in n = None

abbrev pub number_in : Tree → Option ℤ
number_in (number z) = Some z
number_in n = None

-- the name of a value, item or number without a module's before it
abbrev pub name_in : Tree → Option Name
name_in (reference None x) = Some x
name_in n = None

abbrev pub binary_in : Tree → Option (List ℕ)
binary_in (binary ds) = Some ds
binary_in n = None

abbrev pub hex_in : Tree → Option (List ℕ)
hex_in (hex ds) = Some ds
hex_in n = None

abbrev pub text_in : Tree → Option (List ℕ)
text_in (chars o) = Some o
text_in n = None

abbrev pub numbers_in : Tree → Option (List ℕ)
numbers_in (numbers ns) = Some ns
numbers_in n = None

abbrev pub items_in : Tree → Option Trees
items_in (items ts) = Some ts
items_in n = None

-- the one number in braces, which is read as a list of one value
abbrev pub alone_in : Tree → Option ℕ
alone_in (items (tree_and (number (pos n)) no_tree)) = Some n
alone_in n = None

abbrev pub is_null : Tree → Bool
is_null null = true
is_null n = false

abbrev pub is_nothing : Tree → Bool
is_nothing nothing = true
is_nothing n = false

-- the notation stands for no value of the type
abbrev pub IsNone : Plain → Tree → Type 0
IsNone k n = (v : AbstractValue) → IsLeafNotation k n v → ⊥

-- the value that the notation stands for under the type, or there is none
abbrev pub Reports : Plain → Tree → Option Value → Type 0
Reports k n o = MatchOption o (IsNone k n) (λ v. IsLeafNotation k n (abstract v))

-- more than 64 numbers, or one of 2^64 or more
abbrev pub ArePastLimit : List ℕ → Type 0
ArePastLimit ns = (64 < length ns) ⊎ (AllByRecursion (λ n. n < 2 ^ 64) ns → ⊥)

-- the notation stands for an object identifier, a relative one or not, that passes the limit on numbers
abbrev pub IsPastLimit : Plain → Tree → Type 0
IsPastLimit k n = (ns : List ℕ) × (IsLeafNotation k n (oid ns) ⊎ IsLeafNotation k n (relative_oid ns)) × ArePastLimit ns

-- memory ran out, or the limit is passed
abbrev pub IsLimitFault : Type 0 → NumbersFault → Type 0
IsLimitFault P Memory = Unit {0}
IsLimitFault P Oid = P
