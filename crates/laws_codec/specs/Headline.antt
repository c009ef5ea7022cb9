-- The headline of the codec, for any schema, type and value. It says what is written of the value, what the checker
-- says of it, and what is read back (X.690, clauses 8, 10 and 11; X.691, clauses 11 to 30).
use Rattle.std.specs.Prelude.{◌≡◌, ℕ, ◌≤◌, List, length, Result, MatchResult}
use Rattle.account_checker.specs.declared.reason.Reason.{Reason}
use Rattle.account_checker.specs.declared.reason.Verdict.{Verdict}
use Rattle.account_checker.specs.declared.reason.Verdict.TheVariants.{Yes, No}
use Rattle.asn_base.specs.Abstract.{AbstractValue, abstract}
use Rattle.asn_base.specs.Same.{Same}
use Rattle.asn_base.specs.Typed.{IsValue}
use Rattle.asn_base.specs.Types.{TypeNumber, Resolved}
use Rattle.asn_base.specs.declared.value.Value.{Value}
use Rattle.ber_reader.specs.declared.read.Read.{Read}
use Rattle.decode_faults.specs.declared.read_fault.ReadFault.{ReadFault}
use Rattle.decode_faults.specs.declared.read_fault.ReadFault.TheVariants.{Memory}
use Rattle.encodings.specs.Account.{Account}
use Rattle.encodings.specs.Encoding.{Ber, Der, Shortest}
use Rattle.encodings.specs.Header.{Octets}
use Rattle.encodings.specs.Levels.{levels}
use Rattle.packed_encodings.specs.Lengths.{Bits}
use Rattle.packed_encodings.specs.Packing.{Packed, Reads}
use Rattle.packed_encodings.specs.Padding.{Padded}
use Rattle.packed_reader.specs.declared.fault.PerFault.{PerFault}
use Rattle.packed_reader.specs.declared.fault.PerFault.TheVariants as per
use Rattle.views.specs.Tree.{value_of}
use Rattle.laws_codec.specs.Calls.{IsBerResult, IsDerResult, IsPacked, IsUperResult, IsVerdict, IsWritten}

-- The octets are an encoding by the basic rules, in any definite form of lengths, of v, a value of type t (X.690,
-- clause 8). They are within the limits of messages (own rule): at most 400 levels of headers, and 16,777,216 octets.
pub record IsBerMessage (s : List Resolved) (t : TypeNumber) (v : AbstractValue) (o : Octets) : Type 0 where
  pub ber : Ber s t v 0 o
  pub few : levels ber.2 ≤ 400
  pub short : length o ≤ 16777216

-- What was decoded is v, a value of type t, or one that is the same.
pub record IsReadAs (s : List Resolved) (t : TypeNumber) (v : AbstractValue) (r : Read) : Type 0 where
  -- the value that the view shows is the same as v
  pub same : Same s t v (value_of r.view)
  -- no additions were skipped
  pub none_skipped : r.skipped ≡ 0

-- What was decoded of bits is v, a value of type t, or one that is the same; no additions were skipped.
pub record IsUnpackedAs (s : List Resolved) (t : TypeNumber) (v : AbstractValue) (r : Value × ℕ) : Type 0 where
  pub same : Same s t v (abstract r.0)
  pub none_skipped : r.1 ≡ 0

-- the value is decoded, or an allocation failed
abbrev pub GivesBack : List Resolved → TypeNumber → AbstractValue → Result Read ReadFault → Type 0
GivesBack s t v x = MatchResult x (λ r. IsReadAs s t v r) (λ e. e ≡ Memory)

-- the value is decoded of bits, or an allocation failed
abbrev pub Unpacks : List Resolved → TypeNumber → AbstractValue → Result (Value × ℕ) PerFault → Type 0
Unpacks s t v x = MatchResult x (λ r. IsUnpackedAs s t v r) (λ e. e ≡ per.Memory)

-- What the codec promises of v, a value of type t of schema s.
pub record IsCoded (s : List Resolved) (t : TypeNumber) (v : AbstractValue) : Type 0 where
  -- what `write_der` returns is an encoding of the value by the distinguished rules (X.690, clauses 8, 10 and 11)
  pub der : (o : Octets) (a : Account) → IsWritten s t v o a → Der s t v 0 o
  -- it is the only one, for all values that are the same (X.690, clauses 10 and 11)
  pub one_der : (o p : Octets) (a : Account) (w : AbstractValue)
      → IsWritten s t v o a
      → Same s t v w
      → Der s t w 0 p
      → p ≡ o
  -- no encoding of the value by the basic rules, in any definite form of lengths, is shorter (X.690, clause 8)
  pub shortest : (o p : Octets) (a : Account) → IsWritten s t v o a → Ber s t v 0 p → length o ≤ length p
  -- the verdict of `check` on what `write_der` returns is Yes, and never No (X.690, clauses 8, 10 and 11)
  pub accepted : (o : Octets) (a : Account) (x : Verdict) → IsWritten s t v o a → IsVerdict s t v o a x → x ≡ Yes
  pub never_no : (o : Octets) (a : Account) (x : Verdict) (r : Reason)
      → IsWritten s t v o a
      → IsVerdict s t v o a x
      → x ≡ No r
      → ⊥
  -- A Yes alone, whoever made the octets and the account, means that the value is one of the type. The octets are an
  -- encoding of it by the basic rules, and none is shorter (X.690, clause 8).
  pub yes_alone : (o : Octets) (a : Account) (x : Verdict)
      → IsVerdict s t v o a x
      → x ≡ Yes
      → IsValue s t v × Shortest s t v o
  -- what `write_der` returns is also an encoding by the basic rules, within the limits of messages (X.690, clause 8)
  pub ber : (o : Octets) (a : Account) → IsWritten s t v o a → IsBerMessage s t v o
  -- octets that encode the value by the basic rules encode no other value, and have no unknown additions (X.690, clause
  -- 8)
  pub one_value : (o : Octets) (w : AbstractValue) (k : ℕ) → Ber s t v 0 o → Ber s t w k o → Same s t v w × (k ≡ 0)
  -- `read_ber` returns the value for each of its encodings by the basic rules (X.690, clause 8)
  pub read : (o : Octets) (x : Result Read ReadFault) → IsBerMessage s t v o → IsBerResult s t o x → GivesBack s t v x
  -- `read_der` returns the value for its encoding by the distinguished rules (X.690, clauses 8, 10 and 11)
  pub read_strictly : (o : Octets) (x : Result Read ReadFault)
      → Der s t v 0 o
      → length o ≤ 16777216
      → IsDerResult s t o x
      → GivesBack s t v x
  -- what `write_uper` returns is the bits of the value, filled to octets (X.691, clauses 11 to 30)
  pub packed : (o : Octets) → IsPacked s t v o → (b : Bits) × Packed s t v b × Padded b o
  -- it is the only such message, for all values that are the same (X.691, clause 11.1)
  pub one_message : (o p : Octets) (w : AbstractValue) (b : Bits)
      → IsPacked s t v o
      → Same s t v w
      → Packed s t w b
      → Padded b p
      → p ≡ o
  -- it is the message of no other value, and has no unknown additions (X.691, clauses 11 to 30)
  pub one_unpacked : (o : Octets) (w : AbstractValue) (k : ℕ)
      → IsPacked s t v o
      → Reads s t w k o
      → Same s t v w × (k ≡ 0)
  -- `read_uper` returns the value for this message (X.691, clauses 11 to 30)
  pub unpacked : (o : Octets) (x : Result (Value × ℕ) PerFault)
      → IsPacked s t v o
      → IsUperResult s t o x
      → Unpacks s t v x
