-- Each field of the headline, stated in full and not by its name: no field can be lost, nor can a premise be added,
-- without a proof that fails.
use Rattle.std.proofs.Common.{◌≡◌, ◌↔◌, ℕ, ◌≤◌, List, length, Ok, Err}
use Rattle.account_checker.specs.Reasons.{IsRightAccount}
use Rattle.account_checker.specs.declared.reason.Reason.{Reason}
use Rattle.account_checker.specs.declared.reason.Verdict.{Verdict}
use Rattle.account_checker.specs.declared.reason.Verdict.TheVariants.{Yes, No}
use Rattle.asn_base.specs.Abstract.{AbstractValue, abstract}
use Rattle.asn_base.specs.Same.{Same}
use Rattle.asn_base.specs.Typed.{IsValue}
use Rattle.asn_base.specs.Types.{Resolved}
use Rattle.asn_base.specs.declared.value.Value.{Value}
use Rattle.ber_reader.specs.Messages.{IsEncoding as IsReadable}
use Rattle.ber_reader.specs.Readings.{IsReading, IsStrictReading}
use Rattle.ber_reader.specs.declared.read.Read.{Read}
use Rattle.decode_faults.specs.declared.read_fault.ReadFault.{ReadFault}
use Rattle.decode_faults.specs.declared.read_fault.ReadFault.TheVariants.{Memory}
use Rattle.der_writer.specs.Encoded.{IsEncoding}
use Rattle.encodings.specs.Account.{Account, Describes}
use Rattle.encodings.specs.Encoding.{Ber, Der, EncodesTo}
use Rattle.encodings.specs.Levels.{levels}
use Rattle.encodings.specs.Reading.{Encodes}
use Rattle.encodings.specs.Rules.{Basic, Distinguished}
use Rattle.packed_encodings.specs.Lengths.{Bits}
use Rattle.packed_encodings.specs.Packing.{Packed, Reads}
use Rattle.packed_encodings.specs.Padding.{Padded}
use Rattle.packed_reader.specs.declared.fault.PerFault.{PerFault}
use Rattle.packed_reader.specs.declared.fault.PerFault.TheVariants as per
use Rattle.packed_writer.specs.Message.{IsMessage}
use Rattle.views.specs.Tree.{value_of}
use Rattle.laws_codec.specs.Calls.{IsBerResult, IsDerResult, IsUperResult, IsWritten}
use Rattle.laws_codec.specs.Headline.{IsBerMessage, IsCoded}

module _ (s : List Resolved) (t : ℕ) (v : AbstractValue) (h : IsCoded s t v) where
  -- ---- what is written, and the checker

  module _ (o : List ℕ) (a : Account) (e : IsEncoding s t v o) (c : Describes s t v o a) where
    written : IsWritten s t v o a
    written = record { encoding = e; account = c }

    written_der : Der s t v 0 o
    written_der = h.der o a written

    written_alone : (w : AbstractValue) (p : List ℕ) → Same s t v w → Der s t w 0 p → p ≡ o
    written_alone w p = h.one_der o p a w written

    written_least : (p : List ℕ) → Ber s t v 0 p → length o ≤ length p
    written_least p = h.shortest o p a written

    written_yes : (x : Verdict) → (x ≡ Yes ↔ IsRightAccount s t v o a) → x ≡ Yes
    written_yes x = h.accepted o a x written

    written_not_no : (x : Verdict) (r : Reason) → (x ≡ Yes ↔ IsRightAccount s t v o a) → x ≡ No r → ⊥
    written_not_no x r = h.never_no o a x r written

    written_ber : (b : Ber s t v 0 o) × (levels b.2 ≤ 400) × (length o ≤ 16777216)
    written_ber = let m = h.ber o a written in (m.ber, m.few, m.short)

  module _ (o : List ℕ) (a : Account) (x : Verdict) (c : x ≡ Yes ↔ IsRightAccount s t v o a) (y : x ≡ Yes) where
    yes_value : IsValue s t v
    yes_value = (h.yes_alone o a x c y).0

    yes_ber : Ber s t v 0 o
    yes_ber = (h.yes_alone o a x c y).1.is

    yes_least : (p : List ℕ) → Ber s t v 0 p → length o ≤ length p
    yes_least = (h.yes_alone o a x c y).1.least

  -- ---- what is read

  said_alone : (o : List ℕ) (w : AbstractValue) (k : ℕ) → Ber s t v 0 o → Ber s t w k o → Same s t v w × (k ≡ 0)
  said_alone = h.one_value

  module _ (o : List ℕ) (b : Ber s t v 0 o) (few : levels b.2 ≤ 400) (short : length o ≤ 16777216) where
    message : IsBerMessage s t v o
    message = record { ber = b; few = few; short = short }

    module _ (r : Read) (ok : IsReading s t o r)
        (only : (w : AbstractValue) (k : ℕ) → Encodes s Basic t w k o → (w ≡ value_of r.view) × (k ≡ r.skipped)) where
      read_result : IsBerResult s t o (Ok r)
      read_result = record { ok = ok; only = only; read = λ i. tt }

      read_same : Same s t v (value_of r.view)
      read_same = (h.read o (Ok r) message read_result).same

      read_count : r.skipped ≡ 0
      read_count = (h.read o (Ok r) message read_result).none_skipped

    read_refused : (e : ReadFault) → (IsReadable s t o → e ≡ Memory) → e ≡ Memory
    read_refused e q = h.read o (Err e) message (record { ok = tt; only = tt; read = q })

  module _ (o : List ℕ) (d : Der s t v 0 o) (short : length o ≤ 16777216) where
    module _ (r : Read) (ok : IsStrictReading s t o r)
        (only : (w : AbstractValue) (k : ℕ) → Encodes s Basic t w k o → (w ≡ value_of r.view) × (k ≡ r.skipped)) where
      strict_result : IsDerResult s t o (Ok r)
      strict_result = record { ok = ok; only = only; read = λ i q. tt }

      strict_same : Same s t v (value_of r.view)
      strict_same = (h.read_strictly o (Ok r) d short strict_result).same

      strict_count : r.skipped ≡ 0
      strict_count = (h.read_strictly o (Ok r) d short strict_result).none_skipped

    strict_refused : (e : ReadFault)
        → ((i : IsReadable s t o) → EncodesTo s Distinguished t i.value i.count o → e ≡ Memory)
        → e ≡ Memory
    strict_refused e q = h.read_strictly o (Err e) d short (record { ok = tt; only = tt; read = q })

  -- ---- bits

  module _ (o : List ℕ) (m : IsMessage s t v o) where
    packed_bits : (b : Bits) × Packed s t v b × Padded b o
    packed_bits = h.packed o m

    packed_alone : (w : AbstractValue) (b : Bits) (p : List ℕ) → Same s t v w → Packed s t w b → Padded b p → p ≡ o
    packed_alone w b p = h.one_message o p w b m

    unpacked_alone : (w : AbstractValue) (k : ℕ) → Reads s t w k o → Same s t v w × (k ≡ 0)
    unpacked_alone w k = h.one_unpacked o w k m

    module _ (x : Value) (k : ℕ) (reads : Reads s t (abstract x) k o) where
      unpacked_result : IsUperResult s t o (Ok (x, k))
      unpacked_result = record { reads = reads; read = λ w j q l. tt }

      unpacked_same : Same s t v (abstract x)
      unpacked_same = (h.unpacked o (Ok (x, k)) m unpacked_result).same

      unpacked_count : k ≡ 0
      unpacked_count = (h.unpacked o (Ok (x, k)) m unpacked_result).none_skipped

    unpacked_refused : (e : PerFault)
        → ((w : AbstractValue) (k : ℕ) → Reads s t w k o → length o ≤ 16777216 → e ≡ per.Memory)
        → e ≡ per.Memory
    unpacked_refused e q = h.unpacked o (Err e) m (record { reads = tt; read = q })
