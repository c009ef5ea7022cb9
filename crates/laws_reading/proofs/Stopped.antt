-- If reading stopped, what isn't read is at its place in the message, and so is what was read.
use Rattle.std.proofs.Common.{Bool, ℕ, ◌+◌, ◌≤◌, List, [], length, take, drop, refl, sym, ap}
use Rattle.std.proofs.lemmas.List.{append-nil, take-append-drop, length-take-le}
use Rattle.std.specs.Prelude.{Option}
use Rattle.asn_base.specs.declared.schema.TypeId.{TypeId}
use Rattle.asn_base.specs.Types.{Resolved}
use Rattle.codec_code.specs.declared.step.Step.{Step}
use Rattle.codec_code.specs.Routines.{routine_at}
use Rattle.decode_faults.specs.declared.read_fault.ReadFault.{ReadFault}
use Rattle.codec_source.specs.Events.{Question}
use Rattle.codec_source.specs.Reading.{Reads}
use Rattle.codec_source.specs.Stopping.{Stops, unanswered, answered, StopsThen, stops_on, not_begun, stops_within, not_ended, stops_after, StopsReading}
use Rattle.octet_answers.specs.States.{State, passed, front}
use Rattle.octet_answers.specs.Answers.{Takes}
use Rattle.octet_answers.specs.Unanswered.{Leaves, no_budget, no_value_open, no_header, too_many_headers, other_header, not_at_end, no_header_open}
use Rattle.octet_answers.specs.Unanswered.{contents_too_deep, bad_primitive, bad_segment, nothing_to_skip_in, not_skipped, out_of_order}
use Rattle.octet_answers.specs.Unanswered.{no_component_left, no_header_of_component, other_component, no_component, repeated_component, not_all_read}
use Rattle.octet_answers.specs.Unanswered.{no_header_to_pick, no_alternative}
use Rattle.octet_answers.specs.Unanswered.{CantSkip, no_encoding, addition_too_deep, no_addition, after_addition}
use Rattle.laws_reading.specs.TokensShow.{IsSliceAt, AreSlicesOf}
use Rattle.laws_reading.proofs.Places.{Placed, further, at_place, after_lies, emitted_more, passes_placed, taken, asked, done}

drop_slices : {m : List ℕ} {at : ℕ} {o : List ℕ} (n : ℕ) → n ≤ length o → IsSliceAt m at o → IsSliceAt m (at + n) (drop n o)
drop_slices {m} {at} {o} n l s = at_place (further (take n o) (drop n o) s (sym (take-append-drop n o))) (ap (λ q. at + q) (length-take-le n o l))

blocks_placed : {m : List ℕ} {s : List Resolved} {ss : List Step} {d : Bool} {a b : State} {e : ReadFault} → CantSkip s ss d a b e → Placed m a → Placed m b
blocks_placed (no_encoding f n h) p = p
blocks_placed (addition_too_deep u n l) p = p
blocks_placed (no_addition u n l d) p = p
blocks_placed {a = a} (after_addition d u n l h) p = blocks_placed h (record { here = after_lies a.here p.here u; outer = p.outer; emitted = emitted_more {a = a} passed p tt })

left_placed : {m : List ℕ} {a b : State} {q : Question} {e : ReadFault} → Leaves a q b e → Placed m a → Placed m b
left_placed (no_budget n) p = p
left_placed (no_value_open n) p = p
left_placed (no_header f h) p = p
left_placed (too_many_headers u l) p = p
left_placed (other_header u l o) p = p
left_placed (not_at_end l) p = p
left_placed (no_header_open n o) p = p
left_placed (contents_too_deep l) p = p
left_placed (bad_primitive f l c h) p = p
left_placed (bad_segment {n = n} e r c h l) p = record { here = drop_slices n l p.here; outer = p.outer; emitted = p.emitted }
left_placed (nothing_to_skip_in n) p = p
left_placed (not_skipped t os v h) p = blocks_placed h p
left_placed (out_of_order t os v h) p = passes_placed h p
left_placed (no_component_left n o) p = p
left_placed (no_header_of_component e n h) p = p
left_placed (other_component n o) p = p
left_placed (no_component h) p = blocks_placed h p
left_placed (repeated_component h m) p = passes_placed h p
left_placed (not_all_read h n) p = passes_placed h p
left_placed (no_header_to_pick f h) p = p
left_placed (no_alternative u n) p = p

module _ (m : List ℕ) (r : ℕ → List Step) (l : State → Question → State → Type 0) (keeps : (a : State) (q : Question) (b : State) → l a q b → Placed m a → Placed m b) where
  mutual
    stopped : {ss : List Step} {x z : State} → Stops r Takes l ss x z → Placed m x → Placed m z
    stopped (unanswered n h) p = keeps _ _ _ h p
    stopped (answered q s) p = then_stopped s (asked q p)

    then_stopped : {t : Option TypeId} {ss : List Step} {x z : State} → StopsThen r Takes l t ss x z → Placed m x → Placed m z
    then_stopped (stops_on s) p = stopped s p
    then_stopped (not_begun n h) p = keeps _ _ _ h p
    then_stopped (stops_within g s) p = stopped s (taken g p)
    then_stopped (not_ended g d n h) p = keeps _ _ _ h (done d (taken g p))
    then_stopped (stops_after g d i s) p = stopped s (taken i (done d (taken g p)))

pub slice_where_stopped : (s : List Resolved) (t : TypeId) (o : List ℕ) (budget : ℕ) (z : State) (e : ReadFault) → StopsReading (λ u. routine_at s u) Takes (λ a q b. Leaves a q b e) t (front s o budget) z → IsSliceAt o z.here.at z.here.octets × AreSlicesOf o z.emitted
slice_where_stopped s t o budget z e h =
    let p : Placed o z = then_stopped o (λ u. routine_at s u) (λ a q b. Leaves a q b e) (λ a q b. left_placed) h (record {
      here = record { before = []; following = []; whole = sym (append-nil o); place = refl };
      outer = tt;
      emitted = tt;
    }) in
    (p.here, p.emitted)

pub slice_where_read : (s : List Resolved) (t : TypeId) (o : List ℕ) (budget : ℕ) (z : State) → Reads (λ u. routine_at s u) Takes t (front s o budget) z → IsSliceAt o z.here.at z.here.octets
slice_where_read s t o budget z r =
    (taken r.ended (done r.done (taken r.begun (record {
      here = record { before = []; following = []; whole = sym (append-nil o); place = refl };
      outer = tt;
      emitted = tt;
    })))).here
