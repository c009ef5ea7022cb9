-- What contents octets of a value that holds no others mean, and why some octets mean nothing.
use Rattle.std.specs.Prelude.{ℕ, ◌+◌, ◌≤◌, Bool, true, false, length}
use Rattle.encodings.specs.declared.leaf_kind.LeafKind.{LeafKind}
use Rattle.encodings.specs.Header.{Octets}
use Rattle.octets.specs.Forms.{is_constructed}
use Rattle.decode_faults.specs.declared.read_fault.ReadFault.{ReadFault}
use Rattle.primitive_reader.specs.Leaves.{ReadsContents}
use Rattle.primitive_reader.specs.Refused.{IsRightFault}
use Rattle.primitive_reader.specs.declared.fault.LeafFault.{LeafFault}
use Rattle.octet_answers.specs.Unanswered.{of_leaf, of_segments}
use Rattle.segmented_strings.specs.Joining.{ReadsContents as Joins, HasFewUnused, Fails}
use Rattle.segmented_strings.specs.declared.fault.SegmentError.{SegmentError}
use Rattle.ber_source.specs.declared.token.PrimitiveToken.{PrimitiveToken}
use Rattle.ber_source.specs.declared.token.PrimitiveValue.{PrimitiveValue}
use Rattle.ber_source.specs.declared.token.PrimitiveValue.TheVariants.{Whole, Reassembled}

-- primitive or constructed contents octets of this kind mean the holding; constructed ones have at most 400 levels of
-- headers
abbrev pub AreReadAs : Bool → LeafKind → Octets → PrimitiveValue → Type 0
AreReadAs false k x (Whole l) = ReadsContents k x l
AreReadAs true k x (Reassembled j) = ((budget : ℕ) × (budget ≤ 400) × Joins k budget x j) × HasFewUnused j
AreReadAs c k x h = ⊥

-- the octets, whose offsets are within a message, mean the holding that a receiver gets with them
pub record IsValueOfToken (held : PrimitiveToken) (decoded : PrimitiveValue) : Type 0 where
  pub short : held.at + length held.octets.now ≤ 16777216
  pub read : AreReadAs (is_constructed held.form) held.kind held.octets.now decoded

-- Contents octets of this kind fail with this fault at this offset: primitive ones at the first octet, segments at the
-- one that fails, within `budget` levels of headers.
pub data AreBad (k : LeafKind) (budget : ℕ) (o : Octets) : Bool → ReadFault → ℕ → Type 0 where
  are_bad : (f : LeafFault) → IsRightFault f k o → AreBad k budget o false (of_leaf f) 0
  segment_is_bad : {n : ℕ} (e : SegmentError) → Fails k budget e n o → n ≤ length o →
      AreBad k budget o true (of_segments e) n
