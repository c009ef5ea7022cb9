-- Texts among leaves.
use Rattle.std.specs.Prelude.{Bool, true, false}
use Rattle.asn_base.specs.Abstract.{text}
use Rattle.encodings.specs.Header.{Octets}
use Rattle.encodings.specs.declared.leaf_kind.LeafKind.{LeafKind}
use Rattle.primitive_reader.specs.declared.leaf.Leaf.{Leaf}
use Rattle.primitive_reader.specs.declared.leaf.Leaf.TheVariants as leaves
use Rattle.primitive_reader.specs.Leaves.{Suits}
use Rattle.segmented_strings.specs.declared.fault.SegmentsFault.{SegmentsFault}
use Rattle.segmented_strings.specs.declared.fault.SegmentsFault.TheVariants.{Memory, At}
use Rattle.segmented_strings.specs.declared.fault.SegmentError.TheVariants.{BadContents}

abbrev pub is_text : Leaf → Bool
is_text (leaves.Text s) = true
is_text l = false

-- octets are refused as a text of the kind
pub data IsTextRefused (k : LeafKind) (o : Octets) : SegmentsFault → Type 0 where
  text_memory : IsTextRefused k o Memory
  text_unsuited : (Suits k (text o) → ⊥) → IsTextRefused k o (At 0 BadContents)
