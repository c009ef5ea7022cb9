-- What octets mean that a routine reads.
use Rattle.std.specs.Prelude.{◌≡◌, ℕ, ◌≤◌, Bool, List, ◌++◌, length}
use Rattle.asn_base.specs.Abstract.{AbstractValue}
use Rattle.asn_base.specs.Types.{TypeNumber, Resolved}
use Rattle.encodings.specs.Header.{Octets, Header}
use Rattle.encodings.specs.Rules.{Basic}
use Rattle.encodings.specs.Encoding.{EncodesTo}
use Rattle.encodings.specs.Levels.{levels}
use Rattle.asn_base.specs.declared.tag.Tag.{Tag}
use Rattle.asn_base.specs.declared.schema.TypeId.{TypeId}
use Rattle.codec_code.specs.Routines.{routine_at}
use Rattle.codec_source.specs.Reading.{Reads}
use Rattle.octet_answers.specs.Answers.{Takes}
use Rattle.octet_answers.specs.States.{State, front}
use Rattle.laws_reading.specs.TokensShow.{TokensShow, skipped_in, AreSlicesOf}

-- The octets begin with an encoding of a value of type t by the basic rules. What is left follows it, and reading is at
-- its end. The encoding has `count` unknown additions and at most 400 levels of headers. The tokens that were read show
-- the value, and as many skipped additions. The contents octets in them have their places.
pub record StartsWithEncoding (s : List Resolved) (t : TypeNumber) (o : Octets) (z : State) : Type 0 where
  pub value : AbstractValue
  pub count : ℕ
  pub octets : Octets
  pub is_encoded : EncodesTo s Basic t value count octets
  pub few : levels is_encoded ≤ 400
  pub whole : o ≡ octets ++ z.here.octets
  pub place : z.here.at ≡ length octets
  pub shown : TokensShow s t value z.emitted
  pub counted : skipped_in z.emitted ≡ count
  pub slices : AreSlicesOf o z.emitted

-- At the start of a message, where `budget` values may begin, the type's routine reads the octets o that come first,
-- and no others.
pub record IsReadTo (s : List Resolved) (t : TypeId) (o rest : Octets) (budget : ℕ) : Type 0 where
  pub last : State
  pub reads : Reads (λ u. routine_at s u) Takes t (front s (o ++ rest) budget) last
  pub following : last.here.octets ≡ rest

-- octets are one header, and as many octets of contents as it promises
pub record AreUnit (o : Octets) : Type 0 where
  pub tag : Tag
  pub constructed : Bool
  pub header : Octets
  pub contents : Octets
  pub is_header : Header tag constructed (length contents) header
  pub whole : o ≡ header ++ contents
