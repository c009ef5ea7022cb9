-- The rules of lists in written types (X.680, clauses 19.5, 19.6, 20.3 to 20.6, 22.4, 25.7, 27.3 and 29.3), and the
-- limits of this compiler.
use Rattle.std.specs.Prelude.{◌≡◌, ◌≤◌, ◌+◌, ℕ, ℤ, Some, List, [], ◌∷◌, ◌++◌, map, length, slice_get}
use Rattle.asn_base.specs.Typed.{IsWithinLimit}
use Rattle.trees.specs.declared.types.Standing.{Standing}
use Rattle.trees.specs.declared.types.Standing.TheVariants.{Root, Addition}
use Rattle.trees.specs.Values.{Name}
use Rattle.trees.specs.Types.{Plain, an_integer, a_bit_string, an_enumerated}
use Rattle.names.specs.Modules.{AreDifferent}
use Rattle.type_table.specs.Items.{WrittenItem, additions_of, numbers_of}
use Rattle.type_table.specs.Table.{Part, WrittenKind, simple, members, Type'}

-- each number is from -2^127 to 2^127 - 1
abbrev pub AreWithinLimit : List ℤ → Type 0
AreWithinLimit zs = (i : ℕ) (z : ℤ) → slice_get zs i ≡ Some z → IsWithinLimit z

-- The names of root items and additions are distinct, and so are their numbers. No limit is passed.
pub record IsSoundEnumeration (root more : List WrittenItem) : Type 0 where
  pub names : AreDifferent (map (λ i. i.0) (root ++ more))
  pub numbers : AreDifferent (numbers_of root more)
  pub within : AreWithinLimit (numbers_of root more)
  pub root_few : length root ≤ 1024
  pub more_few : length more ≤ 64

-- The names of a list are distinct, and so are its numbers. No limit is passed.
abbrev pub IsSoundPlain : Plain → Type 0
IsSoundPlain (an_integer ns) = AreDifferent (map (λ n. n.0) ns) × AreDifferent (map (λ n. n.1) ns)
IsSoundPlain (a_bit_string bs) =
    AreDifferent (map (λ b. b.0) bs)
    × AreDifferent (map (λ b. b.1) bs)
    × ((i : ℕ) (b : Name × ℕ) → slice_get bs i ≡ Some b → b.1 ≤ 65535)
IsSoundPlain (an_enumerated root more) = IsSoundEnumeration root (additions_of more)
IsSoundPlain k = Unit {0}

-- how many members of the root this member is: 1 or 0
abbrev pub in_root : Standing → ℕ
in_root Root = 1
in_root (Addition b) = 0

-- how many additions this member is, in version brackets or not: 1 or 0
abbrev pub in_additions : Standing → ℕ
in_additions Root = 0
in_additions (Addition b) = 1

-- how many members are in the root
abbrev pub root_count : List Part → ℕ
root_count [] = 0
root_count (c ∷ cs) = in_root c.standing + root_count cs

-- how many members are additions
abbrev pub addition_count : List Part → ℕ
addition_count [] = 0
addition_count (c ∷ cs) = in_additions c.standing + addition_count cs

-- The identifiers of root and additions are distinct. No limit is passed.
pub record IsSoundList (cs : List Part) : Type 0 where
  pub names : AreDifferent (map (λ (c : Part). c.name) cs)
  pub root_few : root_count cs ≤ 256
  pub more_few : addition_count cs ≤ 64

-- the list of a type of this kind, if it has one, keeps the rules
abbrev pub IsSoundKind : WrittenKind → Type 0
IsSoundKind (simple s) = IsSoundPlain s
IsSoundKind (members l m cs) = IsSoundList cs
IsSoundKind k = Unit {0}

-- the lists of all types keep the rules
abbrev pub AreSound : List Type' → Type 0
AreSound ts = (i : ℕ) (t : Type') → slice_get ts i ≡ Some t → IsSoundKind t.kind
