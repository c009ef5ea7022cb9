-- What is made of its parts, and what conclusions say, field by field and in full. A definition that lost a field or
-- asked for more would fail one of these rows.
use Rattle.std.proofs.Common.{◌≡◌, ◌≤◌, List, [], ◌++◌, length}
use Rattle.asn_base.specs.declared.schema.TypeId.{TypeId}
use Rattle.asn_base.specs.Types.{TypeNumber, Resolved}
use Rattle.encodings.specs.Header.{Octets}
use Rattle.codec_code.specs.Routines.{routine_at}
use Rattle.codec_source.specs.Stopping.{StopsReading}
use Rattle.decode_faults.specs.declared.read_fault.ReadFault.TheVariants.{Missing}
use Rattle.octet_answers.specs.Answers.{Takes}
use Rattle.octet_answers.specs.Unanswered.{Leaves}
use Rattle.octet_answers.specs.States.{front}
use Rattle.ber_reader.specs.Messages.{BeginsEncoding, EndsTooSoon, IsEncoding, budget_of}

-- octets to which one or more are missing begin an encoding
begun : (s : List Resolved) (t : TypeNumber) (o octets missing : Octets)
    → IsEncoding s t octets
    → octets ≡ o ++ missing
    → 1 ≤ length missing
    → BeginsEncoding s t o
begun s t o octets missing e w l = record { octets = octets; missing = missing; is = e; whole = w; some = l }

module _ (s : List Resolved) (t : TypeNumber) (o : Octets) (h : BeginsEncoding s t o) where
  begun_parts : IsEncoding s t h.octets × (h.octets ≡ o ++ h.missing) × (1 ≤ length h.missing)
  begun_parts = (h.is, h.whole, h.some)

module _ (s : List Resolved) (t : TypeId) (o : Octets) (h : EndsTooSoon s t o) where
  stops_there :
      StopsReading (λ u. routine_at s u) Takes (λ a q b. Leaves a q b Missing) t
      (front s o (budget_of (length o))) h.last
  stops_there = h.stops

  no_octets_left : h.last.here.octets ≡ []
  no_octets_left = h.at_end
