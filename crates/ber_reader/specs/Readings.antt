-- What decoders return, at which octet they refuse a message, and why.
use Rattle.std.specs.Prelude.{◌≡◌, ℕ, ◌<◌, ◌≤◌, List, length}
use Rattle.asn_base.specs.declared.schema.TypeId.{TypeId}
use Rattle.asn_base.specs.Abstract.{AbstractValue}
use Rattle.asn_base.specs.Types.{TypeNumber, Resolved}
use Rattle.encodings.specs.Header.{Octets}
use Rattle.encodings.specs.Rules.{Basic, Distinguished}
use Rattle.encodings.specs.Encoding.{EncodesTo}
use Rattle.encodings.specs.Levels.{levels}
use Rattle.encodings.specs.Reading.{Encodes}
use Rattle.codec_code.specs.Routines.{id_of}
use Rattle.decode_faults.specs.declared.read_fault.ReadFault.{ReadFault}
use Rattle.ber_source.specs.Shown.{leaves_of, AreShown}
use Rattle.ber_reader.specs.Messages.{IsRead, Refuses, EncodesNoValue}
use Rattle.ber_reader.specs.Stops.{IsEntered, IsStop, IsStopBefore}
use Rattle.ber_reader.specs.Paths.{begun_in}
use Rattle.ber_reader.specs.declared.stop.ErrorPosition.{ErrorPosition}
use Rattle.octet_answers.specs.States.{Token}
use Rattle.views.specs.Tree.{ViewTree, value_of, IsBorrowed}
use Rattle.ber_reader.specs.Judged.{IsJudged, IsPathToWrong, piece}
use Rattle.ber_reader.specs.declared.read.Read.{Read}

-- The type's routine reads the octets to their end, in exactly one way. The tree has a leaf for each value that holds
-- no others, in the order of the message. A string whose header is primitive is shown with the offset of its contents
-- octets in the message, for a BIT STRING from the second one on. A string whose header is constructed is shown as a
-- copy.
pub record IsShown (s : List Resolved) (t : TypeNumber) (o : Octets) (tree : ViewTree) : Type 0 where
  pub read : IsRead s (id_of t) o
  pub one : (other : IsRead s (id_of t) o) → other.last ≡ read.last
  pub as_held : AreShown read.last.emitted (leaves_of tree)

-- The view of a value of the type. The octets encode exactly this value, with as many unknown additions as were
-- skipped. They are at most 16,777,216, with at most 400 levels of headers. What the view shows with an offset is in
-- the message at that offset; these are all strings that are primitive there.
pub record IsReading (s : List Resolved) (t : TypeNumber) (o : Octets) (r : Read) : Type 0 where
  pub encodes : Encodes s Basic t (value_of r.view) r.skipped o
  pub few : levels encodes.says_it ≤ 400
  pub short : length o ≤ 16777216
  pub borrowed : IsBorrowed o r.view
  pub shown : IsShown s t o r.view

-- such a view, of octets that encode exactly the value by the distinguished rules
pub record IsStrictReading (s : List Resolved) (t : TypeNumber) (o : Octets) (r : Read) : Type 0 where
  pub reading : IsReading s t o r
  pub strict : EncodesTo s Distinguished t (value_of r.view) r.skipped o

-- The octet of a fault of a message. It is where reading stops. If the type's routine reads the octets to their end, it
-- is the header of a part of a value, and that part is being read there.
pub data IsErrorPosition (s : List Resolved) (t : TypeId) (o : Octets) (w : ErrorPosition) : Type 0 where
  unread : (most : ℕ) → IsStop s t o most w → IsErrorPosition s t o w
  judged : IsStopBefore s t o w → IsErrorPosition s t o w

-- The place of the fault, if a message was read to its end and its value isn't one of the type. Reading stops before
-- the innermost value that isn't one of its type, if fewer values may begin than do begin. The values around that one
-- are open, each with its part on the way there.
pub record IsBeforeInnermost (s : List Resolved) (t : TypeId) (o : Octets) (emitted : List Token) (v : AbstractValue)
    (w : ErrorPosition) : Type 0 where
  pub most : ℕ
  pub fewer : most < begun_in emitted
  pub stopped : ErrorPosition
  pub stop : IsStop s t o most stopped
  pub part : IsEntered stopped w
  pub path_to_wrong : IsPathToWrong s (piece t.index v) w.values.items

-- Why a message is refused by the basic rules. Either it can't be read; or its value isn't one of the type, and the
-- fault is that of the innermost value that isn't one of its type.
pub data IsRefused (s : List Resolved) (t : TypeId) (o : Octets) : ReadFault → Type 0 where
  not_read : {e : ReadFault} → Refuses s t o e → IsRefused s t o e
  no_value : {e : ReadFault}
      → IsRead s t o
      → (n : EncodesNoValue s t.index o)
      → IsJudged s t.index n.value e
      → IsRefused s t o e
