-- What is added to octets, and which refusals are right.
use Rattle.std.specs.Prelude.{◌≡◌, ℕ, suc, ◌+◌, ◌≤◌, Bool, List, ◌∷◌, ◌++◌, length}
use Rattle.encodings.specs.Header.{Octets}
use Rattle.encodings.specs.Strings.{octet_string_tag, bit_string_tag, WholeBits}
use Rattle.segmented_strings.specs.declared.fault.SegmentError.{SegmentError}
use Rattle.segmented_strings.specs.declared.fault.SegmentsFault.{SegmentsFault}
use Rattle.segmented_strings.specs.declared.fault.SegmentsFault.TheVariants.{Memory, At}
use Rattle.segmented_strings.specs.Within.{SegmentAt, PiecesWithin, OctetsWithin, BitPiecesWithin, BitsWithin}

abbrev pub place_of : SegmentsFault → ℕ
place_of Memory = 0
place_of (At i e) = i

abbrev pub moved_by : ℕ → SegmentsFault → SegmentsFault
moved_by n Memory = Memory
moved_by n (At i e) = At (n + i) e

-- a fault with its place, which is one of the octets or their end; `Memory` is always allowed
pub data IsRefused (Fail : SegmentError → ℕ → Octets → Type 0) : SegmentsFault → Octets → Type 0 where
  for_memory : {o : Octets} → IsRefused Fail Memory o
  at_place : {i : ℕ} {e : SegmentError} {o : Octets} → Fail e i o → i ≤ length o → IsRefused Fail (At i e) o

-- octets gained the string that segments contain
pub record Joins (room : ℕ) (contents old new : Octets) : Type 0 where
  pub string : Octets
  pub holds : OctetsWithin room string contents
  pub joined : new ≡ old ++ string

-- octets gained the string of the first segment, which others follow
pub record JoinsOne (room : ℕ) (octets following old new : Octets) : Type 0 where
  pub below : ℕ
  pub constructed : Bool
  pub contents : Octets
  pub string : Octets
  pub unit : SegmentAt octet_string_tag constructed contents following octets
  pub deep : room ≡ suc below
  pub holds : PiecesWithin below string constructed contents
  pub joined : new ≡ old ++ string

-- octets gained those of the bits that segments contain, as a primitive encoding has them after its initial octet,
-- which gives the number of unused bits
pub record JoinsBits (room : ℕ) (contents old new : Octets) (unused : ℕ) : Type 0 where
  pub string : List Bool
  pub octets : Octets
  pub holds : BitsWithin room string contents
  pub joined : new ≡ old ++ octets
  pub whole : WholeBits string (unused ∷ octets)

pub record JoinsOneBits (room : ℕ) (front following old new : Octets) (unused : ℕ) : Type 0 where
  pub below : ℕ
  pub constructed : Bool
  pub contents : Octets
  pub string : List Bool
  pub octets : Octets
  pub unit : SegmentAt bit_string_tag constructed contents following front
  pub deep : room ≡ suc below
  pub holds : BitPiecesWithin below string constructed contents
  pub joined : new ≡ old ++ octets
  pub whole : WholeBits string (unused ∷ octets)
