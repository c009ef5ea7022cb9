-- The lists of a type of a shape that holds no other types.
use Rattle.std.proofs.Common.{◌≡◌, ◌∙◌, ℤ, ℕ, List, ap, sym}
use Rattle.trees.specs.declared.types.Simple.{Simple}
use Rattle.trees.specs.Types.{Plain, plain_of, an_integer, a_bit_string}
use Rattle.trees.specs.Values.{Name}
use Rattle.type_table.specs.Table.{WrittenKind, simple}
use Rattle.resolve.specs.Listed.{bits_listed, numbers_listed}

-- an INTEGER lists its named numbers
pub integer_of : (s : Simple) (ns : List (Name × ℤ)) (k : WrittenKind) → k ≡ simple (plain_of s) → plain_of s ≡ an_integer ns →
    an_integer (numbers_listed k) ≡ plain_of s
integer_of s ns k e f = ap (λ j. an_integer (numbers_listed j)) (e ∙ ap simple f) ∙ sym f

-- a BIT STRING lists its named bits
pub bits_of : (s : Simple) (bs : List (Name × ℕ)) (k : WrittenKind) → k ≡ simple (plain_of s) → plain_of s ≡ a_bit_string bs →
    a_bit_string (bits_listed k) ≡ plain_of s
bits_of s bs k e f = ap (λ j. a_bit_string (bits_listed j)) (e ∙ ap simple f) ∙ sym f

-- a kind is that of one type alone that holds no other types
pub same_plain : (j k : Plain) → simple j ≡ simple k → j ≡ k
same_plain j k e = cc
