-- What the public calls of the codec return (X.690, clauses 8, 10 and 11; X.691, clause 11.1). Each field is a clause
-- of the contract of the call, with its name. So the call itself proves of its result what is said here.
use Rattle.std.specs.Prelude.{◌≡◌, ◌↔◌, ℕ, ◌≤◌, List, length, Result, IfErr, IfOk}
use Rattle.account_checker.specs.Reasons.{IsRightAccount}
use Rattle.account_checker.specs.declared.reason.Verdict.{Verdict}
use Rattle.account_checker.specs.declared.reason.Verdict.TheVariants.{Yes}
use Rattle.asn_base.specs.Abstract.{AbstractValue, abstract}
use Rattle.asn_base.specs.Types.{TypeNumber, Resolved}
use Rattle.asn_base.specs.declared.value.Value.{Value}
use Rattle.ber_reader.specs.Messages.{IsEncoding as IsReadable}
use Rattle.ber_reader.specs.Readings.{IsReading, IsStrictReading}
use Rattle.ber_reader.specs.declared.read.Read.{Read}
use Rattle.decode_faults.specs.declared.read_fault.ReadFault.{ReadFault}
use Rattle.decode_faults.specs.declared.read_fault.ReadFault.TheVariants.{Memory}
use Rattle.der_writer.specs.Encoded.{IsEncoding}
use Rattle.encodings.specs.Account.{Account, Describes}
use Rattle.encodings.specs.Encoding.{EncodesTo}
use Rattle.encodings.specs.Header.{Octets}
use Rattle.encodings.specs.Reading.{Encodes}
use Rattle.encodings.specs.Rules.{Basic, Distinguished}
use Rattle.packed_encodings.specs.Packing.{Reads}
use Rattle.packed_reader.specs.declared.fault.PerFault.{PerFault}
use Rattle.packed_reader.specs.declared.fault.PerFault.TheVariants as per
use Rattle.packed_writer.specs.Message.{IsMessage}
use Rattle.views.specs.Tree.{value_of}

-- `write_der` returns octets o and account a for v, a value of type t of schema s.
pub record IsWritten (s : List Resolved) (t : TypeNumber) (v : AbstractValue) (o : Octets) (a : Account) : Type 0 where
  -- the octets are the only encoding of the value by the distinguished rules
  pub encoding : IsEncoding s t v o
  -- the account is that of these octets
  pub account : Describes s t v o a

-- `check` returns verdict x on v, a value of type t of schema s, with octets o and account a: its clause `yes`.
abbrev pub IsVerdict : List Resolved → TypeNumber → AbstractValue → Octets → Account → Verdict → Type 0
IsVerdict s t v o a x = x ≡ Yes ↔ IsRightAccount s t v o a

-- What octets o exactly encode by the basic rules is the value that the view shows, with as many unknown additions as
-- were skipped.
abbrev pub IsOnly : List Resolved → TypeNumber → Octets → Read → Type 0
IsOnly s t o r = (w : AbstractValue) (k : ℕ) → Encodes s Basic t w k o → (w ≡ value_of r.view) × (k ≡ r.skipped)

-- `read_ber` returns x for octets o and type t of schema s.
pub record IsBerResult (s : List Resolved) (t : TypeNumber) (o : Octets) (x : Result Read ReadFault) : Type 0 where
  -- the view is that of a value of the type, which the octets encode exactly
  pub ok : IfOk x (λ r. IsReading s t o r)
  -- they encode no other value
  pub only : IfOk x (λ r. IsOnly s t o r)
  -- octets that encode a value of the type are decoded, unless an allocation fails
  pub read : IsReadable s t o → IfErr x (λ e. e ≡ Memory)

-- `read_der` returns x for octets o and type t of schema s.
pub record IsDerResult (s : List Resolved) (t : TypeNumber) (o : Octets) (x : Result Read ReadFault) : Type 0 where
  -- the view is that of a value of the type, which the octets encode exactly by the distinguished rules
  pub ok : IfOk x (λ r. IsStrictReading s t o r)
  -- they encode no other value
  pub only : IfOk x (λ r. IsOnly s t o r)
  -- octets that encode a value by the distinguished rules are decoded, unless an allocation fails
  pub read : (i : IsReadable s t o) → EncodesTo s Distinguished t i.value i.count o → IfErr x (λ e. e ≡ Memory)

-- `write_uper` returns octets o for v, a value of type t of schema s: its clause `message`.
abbrev pub IsPacked : List Resolved → TypeNumber → AbstractValue → Octets → Type 0
IsPacked s t v o = IsMessage s t v o

-- `read_uper` returns x for octets o and type t of schema s.
pub record IsUperResult (s : List Resolved) (t : TypeNumber) (o : Octets) (x : Result (Value × ℕ) PerFault)
    : Type 0 where
  -- the octets are a message of the value, with as many unknown additions as were skipped
  pub reads : IfOk x (λ r. Reads s t (abstract r.0) r.1 o)
  -- a message of a value is decoded, unless an allocation fails
  pub read : (w : AbstractValue) (k : ℕ)
      → Reads s t w k o
      → length o ≤ 16777216
      → IfErr x (λ e. e ≡ per.Memory)
