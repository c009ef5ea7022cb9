-- What it means for a routine to be that of its type when a value is written.
use Rattle.std.specs.Prelude.{◌≡◌, ◌<◌, ◌^◌, List, length}
use Rattle.asn_base.specs.Abstract.{AbstractValue}
use Rattle.asn_base.specs.Types.{TypeNumber, Resolved}
use Rattle.encodings.specs.Header.{Octets}
use Rattle.encodings.specs.Encoding.{Der}
use Rattle.codec_code.specs.Events.{Event, Tree, flat, HasOctets}

-- the events are those of a tree, and the octets that it means are the value's encoding by the distinguished rules
pub record Describes (s : List Resolved) (t : TypeNumber) (v : AbstractValue) (es : List Event) : Type 0 where
  pub tree : Tree
  pub told : es ≡ flat tree
  pub der : (o : Octets) → HasOctets tree o → length o < 2 ^ 64 → Der s t v 0 o
