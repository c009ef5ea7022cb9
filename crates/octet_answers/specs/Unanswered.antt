-- The state in which a question without an answer leaves a reader of octets, and the fault: exactly one for each
-- question (X.690, 8.1 to 8.14).
use Rattle.std.specs.Prelude.{◌≡◌, ◌⊎◌, ℕ, ◌+◌, ◌<◌, ◌≤◌, Bool, true, false, List, [], ◌∷◌, ◌++◌, length, drop}
use Rattle.std.specs.Prelude.{Some, None}
use Rattle.asn_base.specs.declared.tag.Tag.{Tag}
use Rattle.asn_base.specs.declared.schema.TypeId.{TypeId}
use Rattle.asn_base.specs.Names.{IsMember}
use Rattle.asn_base.specs.Types.{Resolved}
use Rattle.encodings.specs.Header.{Octets}
use Rattle.octets.specs.Fronts.{IsRightFault}
use Rattle.octets.specs.declared.header_fault.HeaderFault.{HeaderFault}
use Rattle.octets.specs.declared.header_fault.HeaderFault.TheVariants as headers
use Rattle.codec_code.specs.declared.step.Head.{Head}
use Rattle.encodings.specs.declared.leaf_kind.LeafKind.{LeafKind}
use Rattle.codec_code.specs.declared.step.Field.{Field}
use Rattle.codec_code.specs.declared.step.Step.{Step}
use Rattle.codec_code.specs.Steps.{may_be_absent}
use Rattle.codec_code.specs.Routines.{routine_at}
use Rattle.codec_source.specs.Events.{Question, to_begin, to_end, to_open, to_close, to_hold, to_skip}
use Rattle.codec_source.specs.Events.{whether_comes, which_comes, which_picked}
use Rattle.decode_faults.specs.declared.read_fault.ReadFault.{ReadFault}
use Rattle.decode_faults.specs.declared.read_fault.ReadFault.TheVariants.{Truncated, Indefinite, BadLength, BadTag}
use Rattle.decode_faults.specs.declared.read_fault.ReadFault.TheVariants.{UnexpectedTag, Missing, BadContents}
use Rattle.decode_faults.specs.declared.read_fault.ReadFault.TheVariants.{EmptySegments}
use Rattle.decode_faults.specs.declared.read_fault.ReadFault.TheVariants.{IntegerLimit, OidLimit, TooDeep}
use Rattle.primitive_reader.specs.Refused.{IsRightFault as IsRightLeafFault}
use Rattle.primitive_reader.specs.declared.fault.LeafFault.{LeafFault}
use Rattle.primitive_reader.specs.declared.fault.LeafFault.TheVariants as leaf_faults
use Rattle.segmented_strings.specs.Joining.{Fails}
use Rattle.segmented_strings.specs.declared.fault.SegmentError.{SegmentError}
use Rattle.segmented_strings.specs.declared.fault.SegmentError.TheVariants as whys
use Rattle.octet_answers.specs.Units.{UnitAt}
use Rattle.octet_answers.specs.States.{OpenContents, State, passing}
use Rattle.octet_answers.specs.Found.{IsFound, IsChosen, is_extensible, last_steps, AreRead, Passes}
use Rattle.octet_answers.specs.Answers.{IsOther}

-- ---- faults of headers, of contents and of segments, as a reader returns them

abbrev pub of_header : HeaderFault → ReadFault
of_header headers.Truncated = Truncated
of_header headers.Indefinite = Indefinite
of_header headers.BadLength = BadLength
of_header headers.BadTag = BadTag

abbrev pub of_leaf : LeafFault → ReadFault
of_leaf leaf_faults.BadContents = BadContents
of_leaf leaf_faults.IntegerLimit = IntegerLimit
of_leaf leaf_faults.OidLimit = OidLimit

abbrev pub of_segments : SegmentError → ReadFault
of_segments (whys.Header f) = of_header f
of_segments whys.UnexpectedTag = UnexpectedTag
of_segments whys.BadContents = BadContents
of_segments whys.EmptySegments = EmptySegments
of_segments whys.TooDeep = TooDeep

-- ---- places

-- the contents after n of their octets
abbrev pub further : OpenContents → ℕ → OpenContents
further w n = record { constructed = w.constructed; octets = drop n w.octets; at = w.at + n; from = w.from }

abbrev pub advanced : State → ℕ → State
advanced a n = record {
  schema = a.schema;
  here = further a.here n;
  outer = a.outer;
  values = a.values;
  marks = a.marks;
  emitted = a.emitted;
  budget = a.budget;
}

-- ---- questions

-- the header is not the requested one: it has another tag, or is primitive where it must be constructed
abbrev pub IsOtherHead : Head → Tag → Bool → Type 0
IsOtherHead h g c = (g ≡ h.tag → ⊥) ⊎ ((h.constructed ≡ true) × (c ≡ false))

-- Additions that the type lacks can't be passed. After those that are, the octets left may be no header with its
-- contents. Or the header's tag is that of no component, and 400 headers are open or the type isn't extensible.
pub data CantSkip (s : List Resolved) (ss : List Step) (extensible : Bool) : State → State → ReadFault → Type 0 where
  no_encoding : {a : State} (f : HeaderFault)
      → 1 ≤ length a.here.octets
      → IsRightFault f a.here.octets
      → CantSkip s ss extensible a a (of_header f)
  addition_too_deep : {a : State} {g : Tag} {c : Bool} {k : ℕ} {x rest : Octets}
      → UnitAt g c k x rest a.here.octets
      → ((f : Field) → IsFound s g ss f → ⊥)
      → 400 ≤ length a.outer
      → CantSkip s ss extensible a a TooDeep
  no_addition : {a : State} {g : Tag} {c : Bool} {k : ℕ} {x rest : Octets}
      → UnitAt g c k x rest a.here.octets
      → ((f : Field) → IsFound s g ss f → ⊥)
      → length a.outer < 400
      → extensible ≡ false
      → CantSkip s ss extensible a a UnexpectedTag
  after_addition : {a b : State} {e : ReadFault} {g : Tag} {c : Bool} {k : ℕ} {x rest : Octets}
      → extensible ≡ true
      → UnitAt g c k x rest a.here.octets
      → ((f : Field) → IsFound s g ss f → ⊥)
      → length a.outer < 400
      → CantSkip s ss extensible (passing a k x rest) b e
      → CantSkip s ss extensible a b e

-- The question has no answer in the first state: it is refused with this fault, and leaves the reader in the second
-- state.
pub data Leaves (a : State) : Question → State → ReadFault → Type 0 where
  -- no more values may begin, or 64 are open
  no_budget : {t : TypeId} → (a.budget ≡ 0) ⊎ (64 ≤ length a.values) → Leaves a (to_begin t) a TooDeep
  no_value_open : a.values ≡ [] → Leaves a to_end a UnexpectedTag
  -- no header comes next; or it is one too many; or it is another one
  no_header : {h : Head} (f : HeaderFault) → IsRightFault f a.here.octets → Leaves a (to_open h) a (of_header f)
  too_many_headers : {h : Head} {g : Tag} {c : Bool} {k : ℕ} {x rest : Octets}
      → UnitAt g c k x rest a.here.octets
      → 400 ≤ length a.outer
      → Leaves a (to_open h) a TooDeep
  other_header : {h : Head} {g : Tag} {c : Bool} {k : ℕ} {x rest : Octets}
      → UnitAt g c k x rest a.here.octets
      → length a.outer < 400
      → IsOtherHead h g c
      → Leaves a (to_open h) a UnexpectedTag
  -- the contents are not at their end, or belong to no header
  not_at_end : 1 ≤ length a.here.octets → Leaves a to_close a UnexpectedTag
  no_header_open : a.here.octets ≡ [] → a.outer ≡ [] → Leaves a to_close a UnexpectedTag
  -- contents octets are not those of a value of the kind; in segments the state is that at the segment that fails
  contents_too_deep : {k : LeafKind} → 400 < length a.outer → Leaves a (to_hold k) a TooDeep
  bad_primitive : {k : LeafKind} (f : LeafFault)
      → length a.outer ≤ 400
      → a.here.constructed ≡ false
      → IsRightLeafFault f k a.here.octets
      → Leaves a (to_hold k) a (of_leaf f)
  bad_segment : {k : LeafKind} {n budget : ℕ} (e : SegmentError)
      → budget + length a.outer ≡ 400
      → a.here.constructed ≡ true
      → Fails k budget e n a.here.octets
      → n ≤ length a.here.octets
      → Leaves a (to_hold k) (advanced a n) (of_segments e)
  -- something other than additions follows the last component that must be present
  nothing_to_skip_in : a.values ≡ [] → Leaves a to_skip a UnexpectedTag
  not_skipped : {b : State} {e : ReadFault} (t : TypeId) (others : List TypeId)
      → a.values ≡ others ++ t ∷ []
      → CantSkip a.schema (last_steps (routine_at a.schema t.index)) true a b e
      → Leaves a to_skip b e
  out_of_order : {f : Field} {b : State} (t : TypeId) (others : List TypeId)
      → a.values ≡ others ++ t ∷ []
      → Passes a.schema (last_steps (routine_at a.schema t.index)) true a (Some f) b
      → Leaves a to_skip b UnexpectedTag
  -- a component of a SEQUENCE that must be present isn't
  no_component_left : {f : Field}
      → may_be_absent f.need ≡ false
      → a.here.octets ≡ []
      → Leaves a (whether_comes f) a Missing
  no_header_of_component : {f : Field} (e : HeaderFault)
      → 1 ≤ length a.here.octets
      → IsRightFault e a.here.octets
      → Leaves a (whether_comes f) a (of_header e)
  other_component : {f : Field}
      → may_be_absent f.need ≡ false
      → IsOther a f
      → Leaves a (whether_comes f) a UnexpectedTag
  -- of a SET: no component comes next, or one that was read before, or not all were read that must be present
  no_component : {ss : List Step} {b : State} {e : ReadFault}
      → CantSkip a.schema ss (is_extensible ss) a b e
      → Leaves a (which_comes ss) b e
  repeated_component : {ss : List Step} {f : Field} {b : State}
      → Passes a.schema ss (is_extensible ss) a (Some f) b
      → IsMember f.place (drop b.here.from b.marks)
      → Leaves a (which_comes ss) b UnexpectedTag
  not_all_read : {ss : List Step} {b : State}
      → Passes a.schema ss (is_extensible ss) a None b
      → (AreRead (drop b.here.from b.marks) ss → ⊥)
      → Leaves a (which_comes ss) b Missing
  -- no header comes next, or one of no alternative
  no_header_to_pick : {calls : List Step} (f : HeaderFault)
      → IsRightFault f a.here.octets
      → Leaves a (which_picked calls) a (of_header f)
  no_alternative : {calls : List Step} {g : Tag} {c : Bool} {k : ℕ} {x rest : Octets}
      → UnitAt g c k x rest a.here.octets
      → ((i : ℕ) (t : TypeId) → IsChosen a.schema g calls i t → ⊥)
      → Leaves a (which_picked calls) a UnexpectedTag
