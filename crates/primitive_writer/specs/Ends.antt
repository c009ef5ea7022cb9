-- The contents octets of bits, and the ends of bits (X.690, 8.6 and 11.2).
use Rattle.std.specs.Prelude.{◌≡◌, ℕ, ◌-◌, ◌<◌, Bool, true, false, List, [], ◌∷◌, ◌++◌, take, replicate}
use Rattle.asn_base.specs.Abstract.{bits_of_octet}
use Rattle.encodings.specs.Header.{Octets}
use Rattle.encodings.specs.Strings.{WholeBits}
use Rattle.encodings.specs.Contents.{EndsInOne, FilledWithZeros}

-- octets x are the contents octets of all bits, with zeros in the unused ones (8.6.2 and 11.2.1)
pub record FilledPieces (s : List Bool) (x : Octets) : Type 0 where
  pub whole : WholeBits s x
  pub filled : FilledWithZeros s x

-- octets x are the contents octets of the bits without their trailing zeros (11.2.2)
pub record TrimmedPieces (s : List Bool) (x : Octets) : Type 0 where
  pub bits : List Bool
  pub more : ℕ
  pub zeros : ℕ
  pub same : s ++ replicate more false ≡ bits ++ replicate zeros false
  pub ends : EndsInOne bits
  pub pieces : FilledPieces bits x

-- the octet ends in a 1 bit and n zero bits
pub record EndsAt (octet n : ℕ) : Type 0 where
  pub few : n < 8
  pub is : bits_of_octet octet ≡ take (7 - n) (bits_of_octet octet) ++ true ∷ replicate n false

-- the octets without the zero octets at their end
pub record Front (os front : Octets) : Type 0 where
  pub zeros : ℕ
  pub is : os ≡ front ++ replicate zeros 0
  pub ends : (xs : Octets) (x : ℕ) → front ≡ xs ++ x ∷ [] → 0 < x
