-- What a message encodes, and the tokens that were read of it.
use Rattle.std.specs.Prelude.{◌≡◌, ℕ, ◌+◌, ◌*◌, ◌<◌, ◌≤◌, List, [], ◌++◌, length}
use Rattle.asn_base.specs.declared.schema.TypeId.{TypeId}
use Rattle.asn_base.specs.Abstract.{AbstractValue}
use Rattle.asn_base.specs.Types.{TypeNumber, Resolved}
use Rattle.asn_base.specs.Typed.{IsValueWithoutNodes}
use Rattle.encodings.specs.Header.{Octets}
use Rattle.encodings.specs.Rules.{Basic}
use Rattle.encodings.specs.Encoding.{EncodesTo}
use Rattle.encodings.specs.Levels.{levels}
use Rattle.codec_code.specs.Routines.{id_of, routine_at}
use Rattle.codec_source.specs.Reading.{Reads}
use Rattle.codec_source.specs.Stopping.{StopsReading}
use Rattle.decode_faults.specs.declared.read_fault.ReadFault.{ReadFault}
use Rattle.decode_faults.specs.declared.read_fault.ReadFault.TheVariants.{MessageLimit, Missing, Trailing, Truncated}
use Rattle.decode_faults.specs.declared.read_fault.ReadFault.TheVariants.{UnexpectedTag}
use Rattle.octets.specs.Fronts.{EndsEarly}
use Rattle.octet_answers.specs.Answers.{Takes}
use Rattle.octet_answers.specs.Unanswered.{Leaves}
use Rattle.octet_answers.specs.States.{State, Token, front}
use Rattle.laws_reading.specs.TokensShow.{TokensShow, skipped_in, AreSlicesOf}
use Rattle.ber_source.specs.Shown.{leaves_of, AreShown}
use Rattle.ber_source.specs.declared.view_sink.Built.{Built}
use Rattle.views.specs.Tree.{value_of, IsBorrowed}

-- The octets encode exactly a value of the type by the basic rules, with `count` unknown additions. They are at most
-- 16,777,216, with at most 400 levels of headers. The tokens show the value, and as many skipped additions. The
-- contents octets of a token are in the message at the offset that the token has.
pub record IsMessage (s : List Resolved) (t : TypeNumber) (o : Octets) (emitted : List Token) : Type 0 where
  pub value : AbstractValue
  pub count : ℕ
  pub is_encoded : EncodesTo s Basic t value count o
  pub few : levels is_encoded ≤ 400
  pub short : length o ≤ 16777216
  pub shown : TokensShow s t value emitted
  pub counted : skipped_in emitted ≡ count
  pub slices : AreSlicesOf o emitted

-- The most values that can begin in n octets: each octet except the last begins at most one header, and at most 64
-- values are nested.
abbrev pub budget_of : ℕ → ℕ
budget_of n = n * 64 + 64

-- the type's routine reads the octets to their end
pub record IsRead (s : List Resolved) (t : TypeId) (o : Octets) : Type 0 where
  pub last : State
  pub reads : Reads (λ u. routine_at s u) Takes t (front s o (budget_of (length o))) last
  pub at_end : last.here.octets ≡ []

-- The view of a message's value, with the number of additions that were skipped. The type's routine reads the message
-- to its end, in exactly one way. The place after it is the message's length. What the view shows with an offset is in
-- the message at that offset. For each token with contents octets, in order, the view shows these octets.
pub record IsViewed (s : List Resolved) (t : TypeNumber) (o : Octets) (b : Built) : Type 0 where
  pub read : IsRead s (id_of t) o
  pub one : (other : IsRead s (id_of t) o) → other.last ≡ read.last
  pub place : read.last.here.at ≡ length o
  pub message : IsMessage s t o read.last.emitted
  pub value : value_of b.view ≡ message.value
  pub skipped : b.skipped ≡ message.count
  pub borrowed : IsBorrowed o b.view
  pub shown : AreShown read.last.emitted (leaves_of b.view)

-- the octets start with an encoding of a value, and may go on
pub record HasMessageFirst (s : List Resolved) (t : TypeNumber) (o : Octets) : Type 0 where
  pub value : AbstractValue
  pub count : ℕ
  pub octets : Octets
  pub rest : Octets
  pub is_encoded : EncodesTo s Basic t value count octets
  pub whole : o ≡ octets ++ rest
  pub some : 1 ≤ length rest

-- the type's routine comes to the end of contents in which a mandatory component is still missing
pub record EndsTooSoon (s : List Resolved) (t : TypeId) (o : Octets) : Type 0 where
  pub last : State
  pub stops :
      StopsReading (λ u. routine_at s u) Takes (λ a q b. Leaves a q b Missing) t (front s o (budget_of (length o))) last
  pub at_end : last.here.octets ≡ []

-- The octets encode something of the type's shape that isn't a value of the type. A constraint isn't met, an ENUMERATED
-- lacks the number, a group isn't whole, or the DEFAULT of an absent component has too many levels.
pub record EncodesNoValue (s : List Resolved) (t : TypeNumber) (o : Octets) : Type 0 where
  pub value : AbstractValue
  pub count : ℕ
  pub is_encoded : EncodesTo s Basic t value count o
  pub few : levels is_encoded ≤ 400
  pub short : length o ≤ 16777216
  pub is_none : IsValueWithoutNodes s t value → ⊥

-- The octets encode exactly a value of the type, which meets its constraints, within 400 levels of headers. They are at
-- most 16,777,216. By the definition of values the value has at most 64 levels.
pub record IsEncoding (s : List Resolved) (t : TypeNumber) (o : Octets) : Type 0 where
  pub value : AbstractValue
  pub count : ℕ
  pub is_value : IsValueWithoutNodes s t value
  pub is_encoded : EncodesTo s Basic t value count o
  pub few : levels is_encoded ≤ 400
  pub short : length o ≤ 16777216

-- the octets are the start of a longer encoding of a value of the type
pub record BeginsEncoding (s : List Resolved) (t : TypeNumber) (o : Octets) : Type 0 where
  pub octets : Octets
  pub missing : Octets
  pub is : IsEncoding s t octets
  pub whole : octets ≡ o ++ missing
  pub some : 1 ≤ length missing

-- the octets start with an encoding of a value of the type, and go on; they are at most 16,777,216
pub record HasEncodingFirst (s : List Resolved) (t : TypeNumber) (o : Octets) : Type 0 where
  pub octets : Octets
  pub rest : Octets
  pub is : IsEncoding s t octets
  pub whole : o ≡ octets ++ rest
  pub some : 1 ≤ length rest
  pub short : length o ≤ 16777216

-- the type's routine comes to a question that the octets don't answer, and the fault is that of this question
pub record StopsWith (s : List Resolved) (t : TypeId) (o : Octets) (e : ReadFault) : Type 0 where
  pub last : State
  pub stops :
      StopsReading (λ u. routine_at s u) Takes (λ a q b. Leaves a q b e) t (front s o (budget_of (length o))) last

-- the type's routine reads a value, and octets are left after it
pub record IsReadBefore (s : List Resolved) (t : TypeId) (o : Octets) : Type 0 where
  pub last : State
  pub reads : Reads (λ u. routine_at s u) Takes t (front s o (budget_of (length o))) last
  pub left : last.here.octets ≡ [] → ⊥

-- Octets that the routine of the type tries to read. They are at most 16,777,216, the schema has the type, the first
-- header is whole, and so are the contents octets that it promises.
pub record AreTried (s : List Resolved) (t : TypeId) (o : Octets) : Type 0 where
  pub short : length o ≤ 16777216
  pub type : t.index < length s
  pub header : EndsEarly o → ⊥

-- Why octets are refused as a message of the type, apart from constraints. There are more than 16,777,216; the schema
-- lacks the type, so that no tag is expected; the octets end within their first header, or before the contents that it
-- promises. Otherwise a value ends before the octets do, or they don't answer a question of the routine.
pub data Refuses (s : List Resolved) (t : TypeId) (o : Octets) : ReadFault → Type 0 where
  too_long : 16777216 < length o → Refuses s t o MessageLimit
  no_type : length o ≤ 16777216 → (t.index < length s → ⊥) → Refuses s t o UnexpectedTag
  cut_off : length o ≤ 16777216 → t.index < length s → EndsEarly o → Refuses s t o Truncated
  trailing_octets : AreTried s t o → IsReadBefore s t o → Refuses s t o Trailing
  stopped : {e : ReadFault} → AreTried s t o → StopsWith s t o e → Refuses s t o e
