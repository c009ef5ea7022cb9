-- The places where decoding of a message stopped.
use Rattle.std.proofs.Common.{arith, Bool, ◌≡◌, ℕ, ◌<◌, ◌≤◌, List, [], length, ◌++◌, refl, sym, ap, subst, ◌∙◌, length-append}
use Rattle.std.specs.Prelude.{Result, Ok, Err, IfOk}
use Rattle.std.specs.Prelude.{Option, None}
use Rattle.codec_code.specs.declared.step.Field.{Field}
use Rattle.codec_code.specs.declared.step.Step.{Step}
use Rattle.codec_code.specs.Routines.{routine_at}
use Rattle.codec_source.specs.Events.{Event, Question, to_begin}
use Rattle.codec_source.specs.Stopping.{Stops, unanswered, answered, StopsThen, stops_on, not_begun, stops_within, not_ended, stops_after, StopsReading}
use Rattle.decode_faults.specs.declared.read_fault.ReadFault.{ReadFault}
use Rattle.decode_faults.specs.declared.read_fault.ReadFault.TheVariants.{Missing, Memory, MessageLimit, Trailing, OutsideConstraint, NotDer}
use Rattle.octet_answers.specs.Answers.{Answers, Takes}
use Rattle.octet_answers.specs.Unanswered.{Leaves, no_budget, no_value_open, no_header, too_many_headers, other_header, not_at_end, no_header_open}
use Rattle.octet_answers.specs.Unanswered.{contents_too_deep, bad_primitive, bad_segment, nothing_to_skip_in, not_skipped, out_of_order}
use Rattle.octet_answers.specs.Unanswered.{no_component_left, no_header_of_component, other_component, no_component, repeated_component, not_all_read}
use Rattle.octet_answers.specs.Unanswered.{no_header_to_pick, no_alternative}
use Rattle.octet_answers.specs.Unanswered.{CantSkip, no_encoding, addition_too_deep, no_addition, after_addition}
use Rattle.octet_answers.specs.Unanswered.{of_header, of_leaf, of_segments}
use Rattle.octet_answers.specs.Found.{Passes, at_end_of_contents, at_component, passes}
use Rattle.octets.specs.declared.header_fault.HeaderFault.{HeaderFault}
use Rattle.octets.specs.declared.header_fault.HeaderFault.TheVariants as headers
use Rattle.primitive_reader.specs.declared.fault.LeafFault.{LeafFault}
use Rattle.primitive_reader.specs.declared.fault.LeafFault.TheVariants as leaves
use Rattle.segmented_strings.specs.declared.fault.SegmentError.{SegmentError}
use Rattle.segmented_strings.specs.declared.fault.SegmentError.TheVariants as whys
use Rattle.octet_answers.specs.States.{State, front}
use Rattle.ber_reader.specs.Messages.{EndsTooSoon, IsRead, budget_of}
use Rattle.laws_reading.specs.TokensShow.{IsSliceAt}
use Rattle.ber_reader.specs.Opened.{opens}
use Rattle.ber_reader.specs.Paths.{AreOpenBefore, begun_in}
use Rattle.ber_reader.proofs.Budgets.{as_many_may, cut_reading}
use Rattle.asn_base.specs.Types.{Resolved}
use Rattle.asn_base.specs.declared.schema.TypeId.{TypeId}
use Rattle.ber_reader.specs.Stops.{IsAt, IsStop, stops, reads, is_long}
use Rattle.ber_reader.specs.declared.stop.ErrorPosition.{ErrorPosition}

pub is_at : {o : List ℕ} {w : ErrorPosition} (z : State) → w.place ≡ z.here.at → w.values.items ≡ opens z.emitted → IsSliceAt o z.here.at z.here.octets → IsAt o w z
is_at {o} {w} z p v s = record { place = p; unread = subst (λ q. IsSliceAt o q z.here.octets) (sym p) s; values = v }

pub is_within : {m x : List ℕ} {at : ℕ} → IsSliceAt m at x → at ≤ length m
is_within {m} {x} {at} s =
    let a = ap length s.whole in
    let b = length-append s.before (x ++ s.following) in
    let c = s.place in
    omega arith

pub stop_emitted : {E : Type 0} (s : List Resolved) (t : TypeId) (o : List ℕ) (most : ℕ) (z : State) (r : Result ErrorPosition E) → ((w : ErrorPosition) → IsAt o w z → IsStop s t o most w) → IsSliceAt o z.here.at z.here.octets → IfOk r (λ w. w.place ≡ z.here.at) → IfOk r (λ w. w.values.items ≡ opens z.emitted) → IfOk r (λ w. IsStop s t o most w)
stop_emitted s t o most z (Ok w) f h p v = f w (is_at z p v h)
stop_emitted s t o most z (Err e) f h p v = p

pub place_emitted : {E : Type 0} (o : List ℕ) (z : State) (r : Result ErrorPosition E) → IsSliceAt o z.here.at z.here.octets → IfOk r (λ w. w.place ≡ z.here.at) → IfOk r (λ w. w.place ≤ length o)
place_emitted o z (Ok w) h p = subst (λ q. q ≤ length o) (sym p) (is_within h)
place_emitted o z (Err e) h p = p

-- reading stops where the message was read to its end
pub at_emitted : {E : Type 0} {o : List ℕ} {z y : State} (r : Result ErrorPosition E) → z ≡ y → IsSliceAt o z.here.at z.here.octets → IfOk r (λ w. w.place ≡ z.here.at) → IfOk r (λ w. w.values.items ≡ opens z.emitted) → IfOk r (λ w. IsAt o w y)
at_emitted {o = o} {z = z} (Ok w) e h p v = subst (IsAt o w) e (is_at z p v h)
at_emitted (Err f) e h p v = p

-- what holds after each question that leaves a source, holds when a run stops
module _ {S : Type 0} (r : ℕ → List Step) (takes : S → Event → S → Type 0) (l : S → Question → S → Type 0) (Q : S → Type 0) (holds : (a : S) (q : Question) (b : S) → l a q b → Q b) where
  mutual
    at_stop : {ss : List Step} {x z : S} → Stops r takes l ss x z → Q z
    at_stop (unanswered n h) = holds _ _ _ h
    at_stop (answered q s) = at_stop_then s

    at_stop_then : {t : Option TypeId} {ss : List Step} {x z : S} → StopsThen r takes l t ss x z → Q z
    at_stop_then (stops_on s) = at_stop s
    at_stop_then (not_begun n h) = holds _ _ _ h
    at_stop_then (stops_within g s) = at_stop s
    at_stop_then (not_ended g d n h) = holds _ _ _ h
    at_stop_then (stops_after g d i s) = at_stop s

-- the faults that a question can have, and the state after it
abbrev pub IsAsked : ReadFault → State → Type 0
IsAsked Memory b = ⊥
IsAsked MessageLimit b = ⊥
IsAsked Trailing b = ⊥
IsAsked OutsideConstraint b = ⊥
IsAsked NotDer b = ⊥
IsAsked Missing b = b.here.octets ≡ []
IsAsked e b = Unit {0}

header_asked : (f : HeaderFault) (b : State) → IsAsked (of_header f) b
header_asked headers.Truncated b = tt
header_asked headers.Indefinite b = tt
header_asked headers.BadLength b = tt
header_asked headers.BadTag b = tt

leaf_asked : (f : LeafFault) (b : State) → IsAsked (of_leaf f) b
leaf_asked leaves.BadContents b = tt
leaf_asked leaves.IntegerLimit b = tt
leaf_asked leaves.OidLimit b = tt

segments_asked : (f : SegmentError) (b : State) → IsAsked (of_segments f) b
segments_asked (whys.Header f) b = header_asked f b
segments_asked whys.UnexpectedTag b = tt
segments_asked whys.BadContents b = tt
segments_asked whys.EmptySegments b = tt
segments_asked whys.TooDeep b = tt

blocks_asked : {s : List Resolved} {ss : List Step} {d : Bool} {a b : State} {e : ReadFault} → CantSkip s ss d a b e → IsAsked e b
blocks_asked {b = b} (no_encoding f n h) = header_asked f b
blocks_asked (addition_too_deep u n l) = tt
blocks_asked (no_addition u n l d) = tt
blocks_asked (after_addition d u n l h) = blocks_asked h

passed_to_end : {s : List Resolved} {ss : List Step} {d : Bool} {a b : State} {f : Option Field} → Passes s ss d a f b → f ≡ None → b.here.octets ≡ []
passed_to_end (at_end_of_contents e) n = e
passed_to_end (at_component u i) n = absurd (cc)
passed_to_end (passes d u m l h) n = passed_to_end h n

left_asked : {a b : State} {q : Question} {e : ReadFault} → Leaves a q b e → IsAsked e b
left_asked (no_budget n) = tt
left_asked (no_value_open n) = tt
left_asked {b = b} (no_header f h) = header_asked f b
left_asked (too_many_headers u l) = tt
left_asked (other_header u l o) = tt
left_asked (not_at_end l) = tt
left_asked (no_header_open n o) = tt
left_asked (contents_too_deep l) = tt
left_asked {b = b} (bad_primitive f l c h) = leaf_asked f b
left_asked {b = b} (bad_segment f r c h l) = segments_asked f b
left_asked (nothing_to_skip_in n) = tt
left_asked (not_skipped t os v h) = blocks_asked h
left_asked (out_of_order t os v h) = tt
left_asked (no_component_left n o) = o
left_asked {b = b} (no_header_of_component f n h) = header_asked f b
left_asked (other_component n o) = tt
left_asked (no_component h) = blocks_asked h
left_asked (repeated_component h m) = tt
left_asked (not_all_read h n) = passed_to_end h refl
left_asked {b = b} (no_header_to_pick f h) = header_asked f b
left_asked (no_alternative u n) = tt

pub stop_asked : {r : ℕ → List Step} {t : TypeId} {x z : State} {e : ReadFault} → StopsReading r Takes (λ a q b. Leaves a q b e) t x z → IsAsked e z
stop_asked {r = r} {e = e} h = at_stop_then r Takes (λ a q b. Leaves a q b e) (IsAsked e) (λ a q b k. left_asked k) h

-- a fault that no question is refused with
pub never_stops : {P : Type 0} (f g : ReadFault) {r : ℕ → List Step} {t : TypeId} {x z : State} → f ≡ g → (g ≡ Memory → ⊥) → (IsAsked g z → ⊥) → ((f ≡ Memory → ⊥) → StopsReading r Takes (λ a q b. Leaves a q b f) t x z) → P
never_stops f g {z = z} e m n h = absurd (n (subst (λ q. IsAsked q z) e (stop_asked (h (λ i. m (sym e ∙ i))))))

pub ends_too_soon : (s : List Resolved) (t : TypeId) (o : List ℕ) (e : ReadFault) (z : State) → e ≡ Missing → StopsReading (λ u. routine_at s u) Takes (λ a q b. Leaves a q b e) t (front s o (budget_of (length o))) z → EndsTooSoon s t o
ends_too_soon s t o e z m h =
    let h2 = subst (λ q. StopsReading (λ u. routine_at s u) Takes (λ a u b. Leaves a u b q) t (front s o (budget_of (length o))) z) m h in
    record {
      last = z;
      stops = h2;
      at_end = stop_asked h2;
    }

abbrev pub fault_or : {A : Type 0} → ReadFault → Result A ReadFault → ReadFault
fault_or d (Ok a) = d
fault_or d (Err e) = e

pub not_memory : (f : ReadFault) → f ≡ Missing → f ≡ Memory → ⊥
not_memory f m e = missing_memory (sym m ∙ e)
  where
    missing_memory : Missing ≡ Memory → ⊥
    missing_memory h = cc

-- ---- one more value would begin than may

-- no value begins or ends if none may begin
pub left_open : {a b : State} {t : TypeId} {e : ReadFault} → Leaves a (to_begin t) b e → opens b.emitted ≡ opens a.emitted
left_open (no_budget n) = refl

none_before : {a b : ℕ} → a < b → b ≤ a → ⊥
none_before l m = omega arith

-- of what is read to its end
pub stops_before : {s : List Resolved} {t : TypeId} {o : List ℕ} {most : ℕ} {w : ErrorPosition}
    → ((a b : State) (e : Event) → Answers a e b → Takes a e b)
    → (r : IsRead s t o)
    → length o ≤ 16777216
    → most < begun_in r.last.emitted
    → IsStop s t o most w
    → AreOpenBefore r.last.emitted most w.values.items
stops_before {s} {t} {o} {most} takes r few l (stops z e short h a) =
    let c = cut_reading takes (λ u. routine_at s u) (λ x q y. Leaves x q y e) most r.reads h in
    record {
      before = c.at.emitted;
      value = c.type;
      following = c.following;
      whole = c.whole;
      as_many = ap begun_in c.emitted ∙ c.count;
      opened = a.values ∙ left_open c.left;
    }
stops_before {s} {t} {o} {most} takes r few l (reads z short h a) = absurd (none_before l (as_many_may takes (λ u. routine_at s u) most r.reads h refl))
stops_before takes r few l (is_long m p v) = absurd (none_before m few)

pub stopped_before : {E : Type 0} {s : List Resolved} {t : TypeId} {o : List ℕ} {most : ℕ} (q : Result ErrorPosition E)
    → ((a b : State) (e : Event) → Answers a e b → Takes a e b)
    → IfOk q (λ w. IsStop s t o most w)
    → (r : IsRead s t o)
    → length o ≤ 16777216
    → most < begun_in r.last.emitted
    → IfOk q (λ w. AreOpenBefore r.last.emitted most w.values.items)
stopped_before (Ok w) takes h r few l = stops_before takes r few l h
stopped_before (Err e) takes h r few l = h
