-- The whole promise: what is written of one value that is given, by both encodings, and what is read of it.
use Rattle.std.specs.Prelude.{◌≡◌, ℕ, List}
use Rattle.asn_base.specs.Abstract.{AbstractValue}
use Rattle.asn_base.specs.Types.{Resolved}
use Rattle.account_checker.specs.declared.reason.Verdict.TheVariants.{Yes}
use Rattle.encodings.specs.Account.{Account}
use Rattle.encodings.specs.Rules.{Rules, Basic}
use Rattle.judging.specs.Judged.{IsAccountIn, IsJudged}
use Rattle.judging.specs.front_end.Accepted.{Accepted}
use Rattle.judging.specs.messages.declared.fault.Fault.{Fault}
use Rattle.judging.specs.messages.declared.fault.Fault.TheVariants.{Memory}
use Rattle.resolve.specs.Program.{Program}
use Rattle.asnc.specs.Headline.{IsAnswer, IsMessageOf, IsRight, IsRightlyPacked}
use Rattle.asnc.specs.Packing.{IsNotPacked}
use Rattle.asnc.specs.Reading.{IsNotReadAs, IsReadAs, rules_of}
use Rattle.asnc.specs.Unpacking.{IsNotUnpackedAs, IsUnpackedAs}
use Rattle.asnc.specs.declared.reading.Rules.{Rules as Rules'}
use Rattle.asnc.specs.Writing.{IsNotEncoded}
use Rattle.judging.specs.named_values.Given.{Given}
use Rattle.judging.specs.named_values.Meant.{IsMeant}

-- The texts are accepted as program p with types s. The octets o with account a are written for value v of the type
-- with the first name, and b is the message of canonical PER of value u.
pub record IsWhole (texts : List (List ℕ)) (p : Program) (s : List Resolved) (first : List ℕ) (second : Given)
    (o b : List ℕ) (a : Account) (v u : AbstractValue) : Type 0 where
  pub accepted : Accepted texts p s
  -- the first name is that of this type, what is given means value v under it, and no other value of any type
  pub type : ℕ
  pub meant : IsMeant p first second type v
  pub one : (t : ℕ) (w : AbstractValue) → IsMeant p first second t w → (t ≡ type) × (w ≡ v)
  -- the two values are one
  pub same : u ≡ v
  -- neither encoding is refused, but for `Memory`
  pub encodable : (e : Fault) → IsNotEncoded p s first second e → e ≡ Memory
  pub packable : (e : Fault) → IsNotPacked p s first second e → e ≡ Memory
  -- o is the only DER encoding of the value, no definite-length BER encoding is shorter, and the checker accepts a
  pub encoded : IsRight texts first second o a
  -- the checker accepts o and the text of the account, without the compiler
  pub judged : (text : List ℕ) → IsAccountIn text a → IsJudged texts first second o text Yes
  -- each definite-length BER encoding of the value is read as the value, by the rules that the caller asks for
  pub read : (r : Rules) (m printed : List ℕ) (k : ℕ)
      → IsMessageOf p s first m v
      → IsReadAs p s r first m printed k
      → IsAnswer p s first printed k v
  -- by the basic rules it has no fault but `Memory`
  pub not_refused : (m : List ℕ) (e : Fault)
      → IsMessageOf p s first m v
      → IsNotReadAs p s Basic first m e
      → e ≡ Memory
  -- o is such an encoding, and has no fault but `Memory` by either rules
  pub written : IsMessageOf p s first o v
  pub read_back : (r : Rules') (e : Fault) → IsNotReadAs p s (rules_of r) first o e → e ≡ Memory
  -- b is the only message of its value in canonical PER, and the message of no other value
  pub packed : IsRightlyPacked texts first second b
  -- the message is read as the value, with nothing skipped, and has no fault but `Memory`
  pub unpacked : (printed : List ℕ) (k : ℕ) → IsUnpackedAs p s first b printed k → IsAnswer p s first printed k u
  pub not_refused_bits : (e : Fault) → IsNotUnpackedAs p s first b e → e ≡ Memory
