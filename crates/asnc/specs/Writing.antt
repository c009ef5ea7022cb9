-- Octets that encode a value that is given under a named type of a program, and why there are none.
use Rattle.std.specs.Prelude.{◌≡◌, ◌⊎◌, ℕ, ◌<◌, List, length}
use Rattle.asn_base.specs.Abstract.{AbstractValue}
use Rattle.asn_base.specs.Types.{Resolved}
use Rattle.encodings.specs.Account.{Account, Describes}
use Rattle.encodings.specs.Encoding.{Der}
use Rattle.octet_account.specs.Flat.{FlatRow, AreRows}
use Rattle.account_text.specs.Text.{compact_text, IsAccountText}
use Rattle.resolve.specs.Program.{Program}
use Rattle.sinks.specs.Sent.{SinkState}
use Rattle.der_writer.specs.Encoded.{IsEncoding, Went, WentInPart}
use Rattle.judging.specs.messages.declared.fault.Fault.{Fault}
use Rattle.judging.specs.messages.declared.fault.Fault.TheVariants as faults
use Rattle.judging.specs.named_values.Meant.{IsMeant, IsNotMeant}
use Rattle.judging.specs.named_values.Given.{Given}

-- The name is that of a type, and a value is given. The octets are the only DER encoding of what the value's notation
-- means under the type, and no encoding by the basic rules is shorter. The account is that of the octets.
pub record IsEncoded (p : Program) (s : List Resolved) (first : List ℕ) (second : Given) (o : List ℕ) (a : Account)
    : Type 0 where
  pub type : ℕ
  pub value : AbstractValue
  pub meant : IsMeant p first second type value
  pub encoding : IsEncoding s type value o
  pub describes : Describes s type value o a

-- the text is that of the account of such an encoding, without white space
pub record IsAccountOf (p : Program) (s : List Resolved) (first : List ℕ) (second : Given) (text : List ℕ)
    : Type 0 where
  pub octets : List ℕ
  pub account : Account
  pub encoded : IsEncoded p s first second octets account
  pub text_of : IsAccountText text account
  pub compact : (rs : List FlatRow) → AreRows account rs → text ≡ compact_text rs

-- a sink went from state a to state b because it took exactly such an encoding; the account is that of the encoding
pub record IsSent (p : Program) (s : List Resolved) (first : List ℕ) (second : Given) (a b : SinkState)
    (account : Account) : Type 0 where
  pub type : ℕ
  pub value : AbstractValue
  pub meant : IsMeant p first second type value
  pub went : Went s type value a b account

-- the sink took exactly the first n octets of such an encoding, fewer than there are, and one call failed
pub record IsSentInPart (p : Program) (s : List Resolved) (first : List ℕ) (second : Given) (a b : SinkState) (n : ℕ)
    : Type 0 where
  pub type : ℕ
  pub value : AbstractValue
  pub meant : IsMeant p first second type value
  pub went : WentInPart s type value a b n

-- The name is that of a type, and each DER encoding of what the notation of the value that is given means is too long.
pub record HasLongEncoding (p : Program) (s : List Resolved) (first : List ℕ) (second : Given) : Type 0 where
  pub type : ℕ
  pub value : AbstractValue
  pub meant : IsMeant p first second type value
  pub longer : (o : List ℕ) → Der s type value 0 o → 16777216 < length o

-- The refusal to encode is true: the texts mean no value, or the encoding is too long.
abbrev pub IsNotEncoded : Program → List Resolved → (first : List ℕ) → (second : Given) → Fault → Type 0
IsNotEncoded p s first second fault =
    IsNotMeant p first second fault ⊎ ((fault ≡ faults.TooLong) × HasLongEncoding p s first second)
