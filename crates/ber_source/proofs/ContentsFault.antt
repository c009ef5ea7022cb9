-- Contents octets with a fault, and the state of a reader after them.
use Rattle.std.proofs.Common.{arith, ◌≡◌, ℕ, ◌+◌, ◌≤◌, Bool, true, false, List, length, refl, sym, ap, subst, ◌∙◌}
use Rattle.encodings.specs.declared.leaf_kind.LeafKind.{LeafKind}
use Rattle.codec_source.specs.Events.{to_hold}
use Rattle.decode_faults.specs.declared.read_fault.ReadFault.{ReadFault}
use Rattle.decode_faults.specs.declared.read_fault.ReadFault.TheVariants.{Memory}
use Rattle.primitive_reader.specs.Refused.{IsRightFault}
use Rattle.primitive_reader.specs.declared.fault.LeafFault.{LeafFault}
use Rattle.segmented_strings.specs.Joining.{Fails}
use Rattle.segmented_strings.specs.Refusing.{IsRefused, for_memory, at_place}
use Rattle.segmented_strings.specs.declared.fault.SegmentsFault.{SegmentsFault}
use Rattle.segmented_strings.specs.declared.fault.SegmentsFault.TheVariants.{At, Memory as NoMemory}
use Rattle.segmented_strings.specs.declared.fault.SegmentError.{SegmentError}
use Rattle.octet_answers.specs.States.{State}
use Rattle.octet_answers.specs.Unanswered.{Leaves, of_leaf, of_segments, advanced, bad_primitive, bad_segment}
use Rattle.ber_source.specs.PrimitiveValue.{AreBad, are_bad, segment_is_bad}

pub primitive_is_bad : (k : LeafKind) (budget : ℕ) (o : List ℕ) (f : LeafFault) (x : ReadFault) → IsRightFault f k o → x ≡ of_leaf f → AreBad k budget o false x 0
primitive_is_bad k budget o f x h e = subst (λ q. AreBad k budget o false q 0) (sym e) (are_bad f h)

pub segments_are_bad : (k : LeafKind) (budget : ℕ) (o : List ℕ) (f : SegmentsFault) (x : ReadFault) (n : ℕ)
    → IsRefused (Fails k budget) f o
    → (f ≡ NoMemory → x ≡ Memory)
    → ((m : ℕ) (e : SegmentError) → f ≡ At m e → (x ≡ of_segments e) × (n ≡ m))
    → (x ≡ Memory → ⊥)
    → AreBad k budget o true x n
segments_are_bad k budget o f x n for_memory m a other = absurd (other (m refl))
segments_are_bad k budget o f x n (at_place {i = i} {e = e} h l) m a other =
    let r = a i e refl in
    subst (λ q. AreBad k budget o true x q) (sym r.1) (subst (λ q. AreBad k budget o true q i) (sym r.0) (segment_is_bad e h l))

-- at the first of the octets
advanced_zero : (a : State) → advanced a 0 ≡ a
advanced_zero a = ap at_place' (let e : a.here.at + 0 ≡ a.here.at = omega arith in e)
  where
    at_place' : ℕ → State
    at_place' n = record { schema = a.schema; here = record { constructed = a.here.constructed; octets = a.here.octets; at = n; from = a.here.from }; outer = a.outer; values = a.values; marks = a.marks; emitted = a.emitted; budget = a.budget }

pub left_at : (a b : State) (k : LeafKind) (budget : ℕ) (c : Bool) (x : ReadFault) (n : ℕ)
    → budget + length a.outer ≡ 400
    → a.here.constructed ≡ c
    → AreBad k budget a.here.octets c x n
    → (n ≤ length a.here.octets → b ≡ advanced a n)
    → Leaves a (to_hold k) b x
left_at a b k budget c x n few form (are_bad f h) at =
    subst (λ q. Leaves a (to_hold k) q x) (sym (at (omega arith) ∙ advanced_zero a)) (bad_primitive f (omega (arith, few)) form h)
left_at a b k budget c x n few form (segment_is_bad e h l) at =
    subst (λ q. Leaves a (to_hold k) q x) (sym (at l)) (bad_segment e few form h l)
