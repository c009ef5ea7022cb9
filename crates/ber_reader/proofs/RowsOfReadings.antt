-- Rows of readings: what each part of a result and of a refusal says, in full. A definition that lost a part would fail
-- one of them.
use Rattle.std.proofs.Common.{arith, ◌≡◌, ℕ, ◌<◌, ◌≤◌, ◌⊎◌, inl, inr, List, [], ◌++◌, length, ap, ◌∙◌}
use Rattle.std.specs.Prelude.{Some}
use Rattle.asn_base.specs.Abstract.{AbstractValue}
use Rattle.asn_base.specs.Types.{Resolved}
use Rattle.asn_base.specs.declared.schema.TypeId.{TypeId}
use Rattle.ber_reader.specs.Messages.{EncodesNoValue, IsRead, Refuses}
use Rattle.ber_reader.specs.Opened.{entered, on_last}
use Rattle.ber_reader.specs.Paths.{AreOpenBefore, begun_in}
use Rattle.ber_reader.specs.Stops.{IsEntered, IsStop, IsStopBefore, is_long, reads, stops}
use Rattle.ber_reader.specs.declared.open.OpenValue.{OpenValue}
use Rattle.ber_reader.specs.declared.open.Part.{Part}
use Rattle.ber_reader.specs.declared.stop.ErrorPosition.{ErrorPosition}
use Rattle.ber_reader.specs.Judged.{Extends, Innermost, IsBeforeWrong, IsJudged, IsOpenAt, IsOwn, Piece, piece}
use Rattle.ber_reader.specs.Readings.{IsBeforeInnermost, IsErrorPosition, unread, judged, IsReading, IsRefused, not_read}
use Rattle.ber_reader.specs.Readings.{no_value, IsStrictReading}
use Rattle.ber_reader.specs.declared.read.Read.{Read}
use Rattle.ber_source.specs.Shown.{leaves_of, AreShown}
use Rattle.codec_code.specs.Routines.{id_of}
use Rattle.decode_faults.specs.declared.read_fault.ReadFault.{ReadFault}
use Rattle.encodings.specs.Encoding.{EncodesTo}
use Rattle.encodings.specs.Levels.{levels}
use Rattle.encodings.specs.Reading.{Encodes}
use Rattle.encodings.specs.Rules.{Basic, Distinguished}
use Rattle.octet_answers.specs.States.{Token}
use Rattle.views.specs.Tree.{IsBorrowed, value_of}

-- ---- what is read

module _ (s : List Resolved) (t : ℕ) (o : List ℕ) (r : Read) (h : IsReading s t o r) where
  reading_octets : Encodes s Basic t (value_of r.view) r.skipped o
  reading_octets = h.encodes

  reading_few : levels h.encodes.says_it ≤ 400
  reading_few = h.few

  reading_short : length o ≤ 16777216
  reading_short = h.short

  reading_borrowed : IsBorrowed o r.view
  reading_borrowed = h.borrowed

  reading_routine : IsRead s (id_of t) o
  reading_routine = h.shown.read

  reading_alone : (other : IsRead s (id_of t) o) → other.last ≡ h.shown.read.last
  reading_alone = h.shown.one

  reading_as_held : AreShown h.shown.read.last.emitted (leaves_of r.view)
  reading_as_held = h.shown.as_held

module _ (s : List Resolved) (t : ℕ) (o : List ℕ) (r : Read) (h : IsStrictReading s t o r) where
  strict_reading : IsReading s t o r
  strict_reading = h.reading

  strict_octets : EncodesTo s Distinguished t (value_of r.view) r.skipped o
  strict_octets = h.strict

-- ---- where octets are refused

-- of a message that is too long
never_short : {n : ℕ} → 16777216 < n → n ≤ 16777216 → ⊥
never_short l s = omega arith

stop_of_long : {s : List Resolved} {t : TypeId} {o : List ℕ} {most : ℕ} {w : ErrorPosition}
    → 16777216 < length o
    → IsStop s t o most w
    → (w.place ≡ 16777216) × (w.values.items ≡ [])
stop_of_long l (stops z e short h a) = absurd (never_short l short)
stop_of_long l (reads z short h a) = absurd (never_short l short)
stop_of_long l (is_long m p v) = (p, v)

position_of_long : {s : List Resolved} {t : TypeId} {o : List ℕ} {w : ErrorPosition}
    → 16777216 < length o
    → IsErrorPosition s t o w
    → (w.place ≡ 16777216) × (w.values.items ≡ [])
position_of_long l (unread most h) = stop_of_long l h
position_of_long l (judged h) =
    let p = stop_of_long l h.stop in
    (h.part.place ∙ p.0, h.part.values ∙ ap (on_last entered) p.1)

module _ (s : List Resolved) (t : TypeId) (o : List ℕ) (w : ErrorPosition) where
  position : IsErrorPosition s t o w → ((most : ℕ) × IsStop s t o most w) ⊎ IsStopBefore s t o w
  position (unread most h) = inl (most, h)
  position (judged h) = inr h

  module _ (emitted : List Token) (v : AbstractValue) (h : IsBeforeInnermost s t o emitted v w) where
    before_fewer : h.most < begun_in emitted
    before_fewer = h.fewer

    before_stop : IsStop s t o h.most h.stopped
    before_stop = h.stop

    before_part : IsEntered h.stopped w
    before_part = h.part

    before_path : (inner : Piece) × Innermost s (piece t.index v) w.values.items inner
    before_path = (h.path_to_wrong.inner, h.path_to_wrong.is_innermost)

module _ (s : List Resolved) (p : Piece) where
  module _ (others all : List OpenValue) (h : Extends s p others all) where
    extended : all ≡ others ++ h.path
    extended = h.whole

    extended_path : (inner : Piece) × Innermost s p h.path inner
    extended_path = (h.path_to_wrong.inner, h.path_to_wrong.is_innermost)

  module _ (emitted : List Token) (most : ℕ) (h : IsBeforeWrong s p emitted most) where
    open_before : AreOpenBefore emitted most h.values
    open_before = h.before

    open_path : (inner : Piece) × Innermost s p (on_last entered h.values) inner
    open_path = (h.path_to_wrong.inner, h.path_to_wrong.is_innermost)

module _ (o : OpenValue) (t : ℕ) (p : Part) (h : IsOpenAt o t p) where
  open_type : o.ty.index ≡ t
  open_type = h.of_type

  open_part : o.part ≡ Some p
  open_part = h.at_part

-- ---- why octets are refused

module _ (s : List Resolved) (t : ℕ) (v : AbstractValue) (e : ReadFault) (h : IsJudged s t v e) where
  judged_inner : Innermost s (piece t v) h.path h.inner
  judged_inner = h.is_innermost

  judged_own : IsOwn s h.inner.type h.inner.value e
  judged_own = h.own

module _ (s : List Resolved) (t : TypeId) (o : List ℕ) (e : ReadFault) where
  refused : IsRefused s t o e
      → Refuses s t o e ⊎ (IsRead s t o × (n : EncodesNoValue s t.index o) × IsJudged s t.index n.value e)
  refused (not_read h) = inl h
  refused (no_value i n j) = inr (i, n, j)
