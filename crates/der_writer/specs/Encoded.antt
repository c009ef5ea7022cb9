-- What is promised of the octets that are written for a value (X.690, 10 and 11).
use Rattle.std.specs.Prelude.{◌≡◌, ℕ, ◌+◌, ◌≤◌, List, length}
use Rattle.asn_base.specs.Abstract.{AbstractValue}
use Rattle.asn_base.specs.Typed.{IsValue, IsValueWithoutNodes}
use Rattle.asn_base.specs.Types.{TypeNumber, Resolved}
use Rattle.encodings.specs.Account.{Account, header, Describes}
use Rattle.encodings.specs.Encoding.{Der, EncodesTo, Shortest}
use Rattle.encodings.specs.Header.{Octets}
use Rattle.encodings.specs.Levels.{levels}
use Rattle.encodings.specs.Rules.{Distinguished}
use Rattle.sinks.specs.Sent.{SinkState, SentAll, SentFront}

-- The octets are the only encoding of a value of the type by the distinguished rules. No encoding by the basic rules is
-- shorter.
pub record IsEncoding (s : List Resolved) (t : TypeNumber) (v : AbstractValue) (o : Octets) : Type 0 where
  pub value : IsValue s t v
  pub der : Der s t v 0 o
  pub only : (p : Octets) → Der s t v 0 p → p ≡ o
  pub shortest : Shortest s t v o
  pub not_too_long : length o ≤ 16777216
  -- any value that they encode by these rules is encoded in at most 400 levels of headers
  pub few_levels : (w : AbstractValue) (d : EncodesTo s Distinguished t w 0 o) → IsValueWithoutNodes s t w →
      levels d ≤ 400

-- the number of octets in an account's first row: those of the header and its contents
abbrev pub total_octets : Account → ℕ
total_octets (header z i) = z.identifier + z.size + z.contents

-- The sink took exactly the encoding, and no call failed. The account is that of the encoding, and it gives the
-- encoding's length.
pub record Went (s : List Resolved) (t : TypeNumber) (v : AbstractValue) (a b : SinkState) (account : Account)
    : Type 0 where
  pub octets : Octets
  pub encoding : IsEncoding s t v octets
  pub describes : Describes s t v octets account
  pub told : total_octets account ≡ length octets
  pub sent : SentAll a b octets

-- the sink took exactly the first n octets of the encoding, which are fewer than all, and one call failed
pub record WentInPart (s : List Resolved) (t : TypeNumber) (v : AbstractValue) (a b : SinkState) (n : ℕ) : Type 0 where
  pub octets : Octets
  pub encoding : IsEncoding s t v octets
  pub sent : SentFront a b octets n
