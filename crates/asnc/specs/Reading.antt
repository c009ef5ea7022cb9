-- The value of a named type that octets encode, and why none is read (X.690, 8.1 to 8.14, 10 and 11).
use Rattle.std.specs.Prelude.{◌≡◌, ℕ, ◌<◌, ◌≤◌, List, ◌++◌, Option, Some, None, codes, length, string_bytes}
use Rattle.asn_base.specs.Abstract.{AbstractValue}
use Rattle.asn_base.specs.Types.{Resolved}
use Rattle.value_text.specs.Print.{print}
use Rattle.encodings.specs.Levels.{levels}
use Rattle.encodings.specs.Reading.{Encodes}
use Rattle.encodings.specs.Encoding.{EncodesTo}
use Rattle.encodings.specs.Rules.{Rules, Basic, Distinguished}
use Rattle.decode_faults.specs.declared.read_fault.ReadFault.{ReadFault}
use Rattle.decode_faults.specs.declared.read_fault.ReadFault.TheVariants as reading
use Rattle.codec_code.specs.Routines.{id_of}
use Rattle.ber_reader.specs.Readings.{IsReading, IsRefused}
use Rattle.ber_reader.specs.declared.read.Read.{Read}
use Rattle.views.specs.Tree.{value_of}
use Rattle.ber_reader.specs.Messages.{IsEncoding, BeginsEncoding, HasEncodingFirst, HasMessageFirst}
use Rattle.resolve.specs.Program.{Program}
use Rattle.judging.specs.messages.declared.fault.Fault.{Fault}
use Rattle.judging.specs.messages.declared.fault.Fault.TheVariants as faults
use Rattle.judging.specs.messages.declared.fault.DecodeError.{DecodeError}
use Rattle.judging.specs.messages.declared.fault.Finding.{Finding}
use Rattle.judging.specs.named_values.Named.{Names, TypeNamed}
use Rattle.broken_rules.specs.Broken.{IsViolation}
use Rattle.asnc.specs.ErrorSites.{IsErrorSite}
use Rattle.asnc.specs.declared.reading.Rules.{Rules as Rules'}
use Rattle.asnc.specs.declared.reading.Rules.TheVariants as asked

-- the rules that the caller asks for
abbrev pub rules_of : Rules' → Rules
rules_of asked.Ber = Basic
rules_of asked.Der = Distinguished

-- The octets are at most 16,777,216, with at most 400 levels of headers. They encode exactly one value of type t, with
-- k additions that the type lacks, and no other value, and no other number of additions. They do so by the rules that
-- the caller asks for. The printed text is that of the value.
pub record IsRead (s : List Resolved) (r : Rules) (t : ℕ) (o printed : List ℕ) (k : ℕ) : Type 0 where
  pub value : AbstractValue
  pub encodes : Encodes s Basic t value k o
  pub few : levels encodes.says_it ≤ 400
  pub short : length o ≤ 16777216
  pub only : (w : AbstractValue) (j : ℕ) → Encodes s Basic t w j o → (w ≡ value) × (j ≡ k)
  pub by_rules : EncodesTo s r t value k o
  pub text : printed ≡ print s t value

-- the same for a view of the value, with the number of additions that were skipped
pub record IsReadBy (s : List Resolved) (r : Rules) (t : ℕ) (o : List ℕ) (x : Read) : Type 0 where
  pub reading : IsReading s t o x
  pub only : (w : AbstractValue) (j : ℕ) → Encodes s Basic t w j o → (w ≡ value_of x.view) × (j ≡ x.skipped)
  pub by_rules : EncodesTo s r t (value_of x.view) x.skipped o

-- the text names a type, and a value of this type is read and printed
pub record IsReadAs (p : Program) (s : List Resolved) (r : Rules) (name o printed : List ℕ) (k : ℕ) : Type 0 where
  pub type : ℕ
  pub named : Names p name type
  pub read : IsRead s r type o printed k

-- The octets encode a value of the type by the basic rules, but not by the distinguished rules.
pub record IsNotDer (s : List Resolved) (t : ℕ) (o : List ℕ) : Type 0 where
  pub is : IsEncoding s t o
  pub not_strict : EncodesTo s Distinguished t is.value is.count o → ⊥

-- The fault that the octets can't be read by these rules as a value of type t is true.
pub record IsReadFault (s : List Resolved) (r : Rules) (t : ℕ) (o : List ℕ) (e : ReadFault) : Type 0 where
  -- by the rules the octets encode no value of the type within the limits
  pub none : (i : IsEncoding s t o) → EncodesTo s r t i.value i.count o → ⊥
  -- `NotDer` if and only if the octets encode a value by the basic rules alone
  pub basic : (i : IsEncoding s t o) → (EncodesTo s r t i.value i.count o → ⊥) → e ≡ reading.NotDer
  pub not_der : e ≡ reading.NotDer → (r ≡ Distinguished) × IsNotDer s t o
  -- `MessageLimit` if and only if there are more than 16,777,216 octets
  pub limit : 16777216 < length o → e ≡ reading.MessageLimit
  pub long : e ≡ reading.MessageLimit → 16777216 < length o
  -- `Trailing` if the octets start with a complete encoding of a value and go on, and only if they start with an
  -- encoding
  pub more : HasEncodingFirst s t o → e ≡ reading.Trailing
  pub trailing : e ≡ reading.Trailing → HasMessageFirst s t o
  -- `Truncated` if the octets are the start of a longer encoding of a value
  pub truncated_value : BeginsEncoding s t o → e ≡ reading.Truncated
  -- every fault except `NotDer` has its reason
  pub why : (e ≡ reading.NotDer → ⊥) → IsRefused s (id_of t) o e

-- The offset is that of the octet at which the octets break a rule of DER first, and the finding says which rule. By
-- the basic rules they encode this value of type t, and its encoding breaks the rule.
pub record SaysBrokenRule (s : List Resolved) (t : ℕ) (o : List ℕ) (offset : ℕ) (f : Finding) : Type 0 where
  pub value : AbstractValue
  pub count : ℕ
  pub encodes : Encodes s Basic t value count o
  pub words : List ℕ
  pub broken : IsViolation s t value o offset words
  pub more : List ℕ
  pub found : string_bytes f.found ≡ words ++ (codes " (" ++ more)

-- there is a finding, and it does so
abbrev pub HasBrokenRule : List Resolved → ℕ → List ℕ → ℕ → Option Finding → Type 0
HasBrokenRule s t o offset None = ⊥
HasBrokenRule s t o offset (Some f) = SaysBrokenRule s t o offset f

-- The fault is true, with its place.
pub record IsLocatedFault (s : List Resolved) (r : Rules) (t : ℕ) (o : List ℕ) (u : DecodeError) : Type 0 where
  pub unread : IsReadFault s r t o u.fault
  -- the octet and the path are those at which reading stops
  pub stop_site : (u.fault ≡ reading.NotDer → ⊥) → IsErrorSite s t o u.offset (string_bytes u.path)
  -- of `NotDer` the octet is that at which the first rule is broken, and the finding says which rule
  pub said : u.fault ≡ reading.NotDer → HasBrokenRule s t o u.offset u.finding

-- the same as a fault; `Memory` says nothing about the octets
abbrev pub IsNotRead : List Resolved → Rules → ℕ → List ℕ → Fault → Type 0
IsNotRead s r t o faults.Memory = Unit {0}
IsNotRead s r t o (faults.DecodeError u) = IsLocatedFault s r t o u
IsNotRead s r t o fault = ⊥

-- the text names a type, and the octets are refused as a value of this type
pub record IsLocatedFaultAs (p : Program) (s : List Resolved) (r : Rules) (name o : List ℕ)
    (u : DecodeError) : Type 0 where
  pub type : ℕ
  pub named : Names p name type
  pub unread : IsLocatedFault s r type o u

-- Nothing is read, for the reason that the fault gives. `NoType`: the text names no type. `DecodeError`: the text names
-- a type, and the octets are refused. `Memory` says nothing about either.
abbrev pub IsNotReadAs : Program → List Resolved → Rules → List ℕ → List ℕ → Fault → Type 0
IsNotReadAs p s r name o faults.Memory = Unit {0}
IsNotReadAs p s r name o (faults.NoType x) = (string_bytes x ≡ name) × ((t : ℕ) → TypeNamed p name t → ⊥)
IsNotReadAs p s r name o (faults.DecodeError u) = IsLocatedFaultAs p s r name o u
IsNotReadAs p s r name o fault = ⊥
