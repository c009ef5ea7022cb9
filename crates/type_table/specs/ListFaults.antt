-- What faults in the lists of written types mean (X.680, clauses 19.5, 19.6, 20.3 to 20.6, 22.4, 25.7, 27.3 and 29.3).
use Rattle.std.specs.Prelude.{◌≡◌, ◌<◌, ◌⊎◌, ◌^◌, ◌++◌, ℕ, pos, List, Some, map, length, slice_get}
use Rattle.trees.specs.Values.{Name}
use Rattle.trees.specs.Types.{Plain, an_integer, a_bit_string, an_enumerated}
use Rattle.names.specs.declared.fault.Limit.{Limit}
use Rattle.names.specs.declared.fault.Limit.TheVariants as limits
use Rattle.names.specs.Modules.{OccursIn, OccursTwice}
use Rattle.type_table.specs.Items.{additions_of, addition_numbers, numbers_of}
use Rattle.type_table.specs.Lists.{root_count, addition_count}
use Rattle.type_table.specs.Table.{Part, WrittenKind, simple, members}

-- a number is in the list twice, and one of the two places is that of name x
pub record IsNumberTwice {Z : Type 0} (numbers : List Z) (names : List Name) (x : Name) : Type 0 where
  pub place : ℕ
  pub number : Z
  pub named : slice_get names place ≡ Some x
  pub has : slice_get numbers place ≡ Some number
  pub twice : OccursTwice numbers number

-- name x is twice in a list of names with numbers, or its number is
abbrev pub IsTwiceAmong : {Z : Type 0} → List Name → List Z → Name → Type 0
IsTwiceAmong names numbers x = OccursTwice names x ⊎ IsNumberTwice numbers names x

-- Name x, or its number, is twice in the list of a type. An item without a written number has the number that it gets.
abbrev pub IsTwicePlain : Plain → Name → Type 0
IsTwicePlain (an_integer ns) x = IsTwiceAmong (map (λ n. n.0) ns) (map (λ n. n.1) ns) x
IsTwicePlain (a_bit_string bs) x = IsTwiceAmong (map (λ b. b.0) bs) (map (λ b. b.1) bs) x
IsTwicePlain (an_enumerated root more) x =
    IsTwiceAmong (map (λ i. i.0) (root ++ additions_of more)) (numbers_of root (additions_of more)) x
IsTwicePlain k x = ⊥

-- name x is twice in the list of a type of this kind, or its number is
abbrev pub IsTwiceIn : WrittenKind → Name → Type 0
IsTwiceIn (simple s) x = IsTwicePlain s x
IsTwiceIn (members l m cs) x = OccursTwice (map (λ (c : Part). c.name) cs) x
IsTwiceIn k x = ⊥

-- a list has too many members in its root, or too many additions
abbrev pub HasManyMembers : WrittenKind → Type 0
HasManyMembers (members l m cs) = (256 < root_count cs) ⊎ (64 < addition_count cs)
HasManyMembers k = ⊥

-- an enumeration has too many items in its root, or too many additions
abbrev pub HasManyItems : WrittenKind → Type 0
HasManyItems (simple (an_enumerated root more)) = (1024 < length root) ⊎ (64 < length (additions_of more))
HasManyItems k = ⊥

-- the place of a named bit is greater than 65,535
abbrev pub HasFarBit : WrittenKind → Type 0
HasFarBit (simple (a_bit_string bs)) = (n : ℕ) × OccursIn (map (λ b. b.1) bs) n × (65535 < n)
HasFarBit k = ⊥

-- an addition of an enumeration gets the number 2^127
abbrev pub HasGreatNumber : WrittenKind → Type 0
HasGreatNumber (simple (an_enumerated root more)) = OccursIn (addition_numbers root (additions_of more)) (pos (2 ^ 127))
HasGreatNumber k = ⊥

-- a type of this kind passes this limit
abbrev pub HasPassed : Limit → WrittenKind → Type 0
HasPassed limits.Members k = HasManyMembers k
HasPassed limits.Items k = HasManyItems k
HasPassed limits.NamedBit k = HasFarBit k
HasPassed limits.Integer k = HasGreatNumber k
HasPassed l k = ⊥
