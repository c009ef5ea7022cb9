-- What a decoder returns: the value that octets encode exactly.
use Rattle.std.specs.Prelude.{ℕ, List}
use Rattle.asn_base.specs.Abstract.{AbstractValue}
use Rattle.asn_base.specs.Types.{Resolved}
use Rattle.asn_base.specs.Typed.{IsValueWithoutNodes}
use Rattle.encodings.specs.Rules.{Rules}
use Rattle.encodings.specs.Header.{Octets}
use Rattle.encodings.specs.Encoding.{EncodesTo}

-- the octets encode exactly w, a value of the type, except for the limit on nodes, with k unknown additions
pub record Encodes (s : List Resolved) (r : Rules) (t : ℕ) (w : AbstractValue) (k : ℕ) (o : Octets) : Type 0 where
  pub value : IsValueWithoutNodes s t w
  pub says_it : EncodesTo s r t w k o
