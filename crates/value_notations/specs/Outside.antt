-- Why a notation that stands for a value of the type's form stands for no value of the type. Constraints and limits
-- exclude the value; the notation at fault is given too (X.680, clause 51; the limits are this project's).
use Rattle.std.specs.Prelude.{◌⊎◌, ℕ, ◌<◌, ◌^◌, ℤ, pos, List, [], length, chars}
use Rattle.std.specs.List.{AllByRecursion}
use Rattle.asn_base.specs.Abstract.{AbstractValue, integer, bits, octets, text, oid, relative_oid, list}
use Rattle.asn_base.specs.Typed.{members}
use Rattle.trees.specs.Values.{Name, Tree}
use Rattle.trees.specs.Types.{an_integer, a_bit_string, an_octet_string, a_utf8_string, a_restricted_string}
use Rattle.type_table.specs.Table.{WrittenKind, simple, elements}
use Rattle.resolve.specs.Program.{Program}
use Rattle.range_ends.specs.Ends.{IsTypeOfKind}
use Rattle.value_notations.specs.Notations.{Notation}

-- constraints of type i don't allow the number, the size or a character of the value
abbrev pub IsLeftOut : (ℕ → ℤ → Type 0) → (ℕ → ℕ → Type 0) → ℕ → WrittenKind → AbstractValue → Type 0
IsLeftOut Allows AllowsCode i (simple (an_integer ns)) (integer z) = Allows i z → ⊥
IsLeftOut Allows AllowsCode i (simple (a_bit_string [])) (bits s) = Allows i (pos (length s)) → ⊥
IsLeftOut Allows AllowsCode i (simple an_octet_string) (octets o) = Allows i (pos (length o)) → ⊥
IsLeftOut Allows AllowsCode i (simple a_utf8_string) (text o) = Allows i (pos (length (chars o))) → ⊥
IsLeftOut Allows AllowsCode i (simple (a_restricted_string k)) (text o) =
    (Allows i (pos (length o)) → ⊥) ⊎ (AllByRecursion (AllowsCode i) o → ⊥)
IsLeftOut Allows AllowsCode i (elements k j) (list r) = Allows i (pos (members r)) → ⊥
IsLeftOut Allows AllowsCode i k v = ⊥

-- more than 64 numbers, or one of 2^64 or more
abbrev pub ArePast : List ℕ → Type 0
ArePast ns = (64 < length ns) ⊎ (AllByRecursion (λ n. n < 2 ^ 64) ns → ⊥)

-- the value is an object identifier, relative or not, that has more than 64 numbers, or one of 2^64 or more (own rule)
abbrev pub HasPast : AbstractValue → Type 0
HasPast (oid ns) = ArePast ns
HasPast (relative_oid ns) = ArePast ns
HasPast v = ⊥

-- the notation stands for a value that the constraints of its type exclude
pub record IsOutside (p : Program) (Allows : ℕ → ℤ → Type 0) (AllowsCode : ℕ → ℕ → Type 0) (os : List ℕ) (M : Name)
    (i : ℕ)
    (n : Tree) : Type 0 where
  pub kind : WrittenKind
  pub is : IsTypeOfKind p.types i kind
  pub value : AbstractValue
  pub is_so : Notation p os M i n value
  pub left_out : IsLeftOut Allows AllowsCode i kind value
