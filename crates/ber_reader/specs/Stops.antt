-- Where reading of a message stops.
use Rattle.std.specs.Prelude.{◌≡◌, ℕ, ◌<◌, ◌≤◌, List, [], length}
use Rattle.asn_base.specs.declared.schema.TypeId.{TypeId}
use Rattle.asn_base.specs.Types.{Resolved}
use Rattle.encodings.specs.Header.{Octets}
use Rattle.codec_code.specs.Routines.{routine_at}
use Rattle.codec_source.specs.Reading.{Reads}
use Rattle.codec_source.specs.Stopping.{StopsReading}
use Rattle.decode_faults.specs.declared.read_fault.ReadFault.{ReadFault}
use Rattle.octet_answers.specs.Answers.{Takes}
use Rattle.octet_answers.specs.Unanswered.{Leaves}
use Rattle.octet_answers.specs.States.{State, Token, front}
use Rattle.laws_reading.specs.TokensShow.{IsSliceAt}
use Rattle.ber_reader.specs.Opened.{entered, on_last, opens}
use Rattle.ber_reader.specs.declared.stop.ErrorPosition.{ErrorPosition}

-- the offset of the first octet that isn't read, and the values that are open there; the unread octets are the rest of
-- the message from that offset
pub record IsAt (o : Octets) (w : ErrorPosition) (z : State) : Type 0 where
  pub place : w.place ≡ z.here.at
  pub unread : IsSliceAt o w.place z.here.octets
  pub values : w.values.items ≡ opens z.emitted

-- Where reading of the octets stops, if at most `most` values may begin. The type's routine comes to a question that
-- the octets don't answer, or it reads a value. Only if there are more than 16,777,216 octets, the place is the first
-- octet after these.
pub data IsStop (s : List Resolved) (t : TypeId) (o : Octets) (most : ℕ) (w : ErrorPosition) : Type 0 where
  stops : (z : State) (e : ReadFault)
      → length o ≤ 16777216
      → StopsReading (λ u. routine_at s u) Takes (λ a q b. Leaves a q b e) t (front s o most) z
      → IsAt o w z
      → IsStop s t o most w
  reads : (z : State)
      → length o ≤ 16777216
      → Reads (λ u. routine_at s u) Takes t (front s o most) z
      → IsAt o w z
      → IsStop s t o most w
  is_long : 16777216 < length o → w.place ≡ 16777216 → w.values.items ≡ [] → IsStop s t o most w

-- the same place, at which a part of the innermost open value begins: the one that a token named, or else its next
-- element
pub record IsEntered (v w : ErrorPosition) : Type 0 where
  pub place : w.place ≡ v.place
  pub values : w.values.items ≡ on_last entered v.values.items

-- Reading stops there if only so many values may begin, and what isn't read is a part of the innermost open value.
pub record IsStopBefore (s : List Resolved) (t : TypeId) (o : Octets) (w : ErrorPosition) : Type 0 where
  pub most : ℕ
  pub stopped : ErrorPosition
  pub stop : IsStop s t o most stopped
  pub part : IsEntered stopped w
