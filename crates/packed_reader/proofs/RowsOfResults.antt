-- Rows of results: what each part of what a message is read as says, in full. A definition that lost a part would fail
-- one of them.
use Rattle.std.proofs.Common.{◌≡◌, ℕ, ◌+◌, ◌≤◌, Bool, List, ◌++◌, length}
use Rattle.asn_base.specs.Abstract.{AbstractValue}
use Rattle.asn_base.specs.Types.{Resolved}
use Rattle.asn_base.specs.Typed.{IsValue, ValueIn}
use Rattle.decode_faults.specs.declared.refusal.Refusal.TheVariants.{Truncated}
use Rattle.packed_encodings.specs.Packing.{EncodesPer, Reads, lenient}
use Rattle.packed_encodings.specs.Weights.{weight}
use Rattle.packed_encodings.specs.Padding.{Padded}
use Rattle.packed_reader.specs.Answers.{BeginsMessage, IsRefusal, IsTruncated}
use Rattle.packed_reader.specs.Readings.{Fault, IsExact, Reading, Taken, read, refused}
use Rattle.packed_reader.specs.Values.{Answer, IsValueRead, faulty, too_long}
use Rattle.packed_reader.specs.declared.fault.PerFault.TheVariants as per
use Rattle.packed_reader.specs.declared.fault.RefusedBits.{RefusedBits}

-- ---- what is read

module _ (s : List Resolved) (t k : ℕ) (w : AbstractValue) (o : List ℕ) (h : Reads s t w k o) where
  message_value : IsValue s t w
  message_value = h.value

  message_weight : weight w ≤ 16777216
  message_weight = h.light

  message_bits : EncodesPer s lenient t w k h.bits
  message_bits = h.says_it

  message_filled : Padded h.bits o
  message_filled = h.filled

-- ---- a function that reads exactly such values

module _ {X : Type 0} (P : X → List Bool → Type 0) (f : List Bool → Reading X) (h : IsExact P f) where
  exact_front : (b r : List Bool) (v : X) → f b ≡ read v r → (x : List Bool) × P v x × (b ≡ x ++ r)
  exact_front = h.sound

  exact_whole : (v : X) (x r : List Bool) → P v x → f (x ++ r) ≡ read v r
  exact_whole = h.whole

  exact_firm : (b r m : List Bool) (e : Fault)
      → f b ≡ refused e r
      → (e.why ≡ Truncated → ⊥)
      → f (b ++ m) ≡ refused e (r ++ m)
  exact_firm = h.firm

  exact_inside : (b r : List Bool) (e : Fault) → f b ≡ refused e r → (x : List Bool) × (b ≡ x ++ r)
  exact_inside = h.inside

-- ---- why octets are refused

module _ (a : Answer) where
  refused_for_length : IsRefusal a per.MessageLimit → a ≡ too_long
  refused_for_length h = h

  refused_for_fault : (u : RefusedBits)
      → IsRefusal a (per.Refused u)
      → a ≡ faulty (record { why = u.refusal; path = u.path.items }) u.bit
  refused_for_fault u h = h

-- what begins a longer message, in full
begins : (s : List Resolved) (t k : ℕ) (w : AbstractValue) (o rest : List ℕ)
    → 1 ≤ length rest
    → length (o ++ rest) ≤ 16777216
    → Reads s t w k (o ++ rest)
    → BeginsMessage s t o
begins s t k w o rest l m h = record { value = w; count = k; rest = rest; some = l; short = m; whole = h }

cut_off : (u : RefusedBits) → IsTruncated (per.Refused u) → u.refusal ≡ Truncated
cut_off u h = h

not_too_many : IsTruncated per.MessageLimit → ⊥
not_too_many h = h

-- ---- a value

module _ (s : List Resolved) (l t n : ℕ) (w : Taken AbstractValue) (x : List Bool) (h : IsValueRead s l t n w x) where
  value_bits : EncodesPer s lenient t w.it w.skipped x
  value_bits = h.says_it

  value_levels : ValueIn s l t w.it
  value_levels = h.value

  value_counted : n ≡ weight w.it + w.left
  value_counted = h.counted
