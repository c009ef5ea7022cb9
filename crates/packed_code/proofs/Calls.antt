-- The calls of a CHOICE.
use Rattle.std.proofs.Common.{◌≡◌, ℕ, suc, zero, ◌+◌, ◌<◌, ◌≤◌, Bool, true, false, List, [], ◌∷◌, ◌++◌, length, refl, sym, ap, ◌∙◌, arith}
use Rattle.std.proofs.lemmas.Bool.{lt-ltb, le-ltb}
use Rattle.std.specs.Prelude.{if◌then◌else◌, nat_lt, ◌-◌, Some, slice_get}
use Rattle.bits.specs.Words.{low_bits}
use Rattle.asn_base.specs.Types.{Alternative, Resolved}
use Rattle.asn_base.specs.Abstract.{AbstractValue}
use Rattle.packed_encodings.specs.Leaves.{root_bit, place_width, place_bits}
use Rattle.packed_encodings.specs.Orders.{canonical_place}
use Rattle.packed_encodings.specs.Computed.{open_bits, bits_of, type_of}
use Rattle.packed_code.specs.declared.step.PackedStep.TheVariants as steps
use Rattle.packed_code.specs.Routines.{id_of, root_calls, more_calls}
use Rattle.packed_code.specs.Meaning.{call_bits, steps_bits}

some_same : {A : Type 0} {x y : A} → Some x ≡ Some y → x ≡ y
some_same e = cc

more_at : (j i : ℕ) (as' : List Alternative) (a : Alternative) → slice_get as' i ≡ Some a → slice_get (more_calls j as') i ≡ Some (steps.More (j + i) (id_of a.type))
more_at j i [] a e = absurd (cc)
more_at j zero (b ∷ as') a e = let k : j ≡ j + 0 = omega arith in ap (λ q. Some (steps.More q (id_of b.type))) k ∙ ap (λ q. Some (steps.More (j + 0) (id_of q.type))) (some_same e)
more_at j (suc i) (b ∷ as') a e = let k : suc j + i ≡ j + suc i = omega arith in more_at (suc j) i as' a e ∙ ap (λ q. Some (steps.More q (id_of a.type))) k

-- an alternative of the root, or one after it
pub data Called (s : List Resolved) (e : Bool) (all as' more : List Alternative) (i : ℕ) (a : Alternative) : Type 0 where
  of_root : i < length as'
      → slice_get as' i ≡ Some a
      → slice_get (root_calls s e all as' ++ more_calls 0 more) i ≡ Some (steps.Root (record { extensible = e; width = place_width (length all); rank = canonical_place s all a.type; ty = id_of a.type }))
      → Called s e all as' more i a
  of_more : length as' ≤ i
      → slice_get (root_calls s e all as' ++ more_calls 0 more) i ≡ Some (steps.More (i - length as') (id_of a.type))
      → Called s e all as' more i a

pub called : (s : List Resolved) (e : Bool) (all as' more : List Alternative) (i : ℕ) (a : Alternative) → slice_get (as' ++ more) i ≡ Some a → Called s e all as' more i a
called s e all [] more i a f = let k : 0 + i ≡ i - 0 = omega arith in of_more (omega arith) (more_at 0 i more a f ∙ ap (λ q. Some (steps.More q (id_of a.type))) k)
called s e all (b ∷ as') more zero a f =
    of_root (omega arith) f (ap (λ q. Some (steps.Root (record { extensible = e; width = place_width (length all); rank = canonical_place s all q.type; ty = id_of q.type }))) (some_same f))
called s e all (b ∷ as') more (suc i) a f = elim (called s e all as' more i a f) [
  | of_root l g h ↦ of_root (omega arith) g h
  | of_more l h ↦ of_more (omega arith) (let k : i - length as' ≡ suc i - length (b ∷ as') = omega arith in h ∙ ap (λ q. Some (steps.More q (id_of a.type))) k)
]

pub type_there : (as' : List Alternative) (i : ℕ) (a : Alternative) → slice_get as' i ≡ Some a → type_of (slice_get as' i) ≡ a.type
type_there as' i a f = ap type_of f

if_true : {X : Type 0} (b : Bool) (x y : X) → b ≡ true → (if b then x else y) ≡ x
if_true b x y e = ap (λ t. if t then x else y) e

if_false : {X : Type 0} (b : Bool) (x y : X) → b ≡ false → (if b then x else y) ≡ y
if_false b x y e = ap (λ t. if t then x else y) e

-- an alternative's bits, which its call writes
pub call_writes : (s : List Resolved) (e : Bool) (root more : List Alternative) (i : ℕ) (a : Alternative) (w : AbstractValue) → slice_get (root ++ more) i ≡ Some a → call_bits s w (slice_get (root_calls s e root root ++ more_calls 0 more) i) ≡ (if nat_lt i (length root) then root_bit e ++ (place_bits (length root) (canonical_place s root (type_of (slice_get root i))) ++ bits_of s w a.type) else true ∷ (false ∷ (low_bits 6 (i - length root) ++ open_bits (bits_of s w a.type))))
call_writes s e root more i a w f = elim (called s e root root more i a f) [
  | of_root l g h ↦
      ap (call_bits s w) h
      ∙ ap (λ q. root_bit e ++ (place_bits (length root) (canonical_place s root q) ++ bits_of s w a.type)) (sym (type_there root i a g))
      ∙ sym (if_true (nat_lt i (length root)) (root_bit e ++ (place_bits (length root) (canonical_place s root (type_of (slice_get root i))) ++ bits_of s w a.type)) (true ∷ (false ∷ (low_bits 6 (i - length root) ++ open_bits (bits_of s w a.type)))) (lt-ltb i (length root) l))
  | of_more l h ↦
      ap (call_bits s w) h
      ∙ sym (if_false (nat_lt i (length root)) (root_bit e ++ (place_bits (length root) (canonical_place s root (type_of (slice_get root i))) ++ bits_of s w a.type)) (true ∷ (false ∷ (low_bits 6 (i - length root) ++ open_bits (bits_of s w a.type)))) (le-ltb i (length root) l))
]

-- by themselves calls write nothing
more_write : (s : List Resolved) (t j : ℕ) (v : AbstractValue) (as' : List Alternative) → steps_bits s t v (more_calls j as') ≡ []
more_write s t j v [] = refl
more_write s t j v (a ∷ as') = more_write s t (suc j) v as'

pub calls_write : (s : List Resolved) (t : ℕ) (v : AbstractValue) (e : Bool) (all as' more : List Alternative) → steps_bits s t v (root_calls s e all as' ++ more_calls 0 more) ≡ []
calls_write s t v e all [] more = more_write s t 0 v more
calls_write s t v e all (a ∷ as') more = calls_write s t v e all as' more
