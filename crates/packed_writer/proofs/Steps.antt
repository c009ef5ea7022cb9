-- What steps of a routine write.
use Rattle.std.proofs.Common.{◌≡◌, ℕ, ◌+◌, Bool, true, List, [], ◌∷◌, ◌++◌, length, take, drop, map, sym, ap, subst, ◌∙◌, append_assoc}
use Rattle.std.specs.Prelude.{if◌then◌else◌}
use Rattle.std.specs.List.{AllByRecursion}
use Rattle.std.specs.List.Sorted.{IsPermutation}
use Rattle.std.proofs.lemmas.List.Sorted.{length_permutation}
use Rattle.std.proofs.lemmas.List.{take-map}
use Rattle.asn_base.specs.declared.value.Value.{Value}
use Rattle.asn_base.specs.Abstract.{AbstractValue, abstract}
use Rattle.asn_base.specs.Types.{Resolved}
use Rattle.packed_encodings.specs.Computed.{bits_of, open_bits}
use Rattle.packed_encodings.specs.Lengths.{Bits, Items}
use Rattle.packed_encodings.specs.Orders.{Member}
use Rattle.packed_encodings.specs.Packing.{Packed}
use Rattle.packed_encodings.specs.Computed.{IsEncoding}
use Rattle.packed_code.specs.declared.step.PackedField.{PackedField}
use Rattle.packed_code.specs.declared.step.PackedStep.{PackedStep}
use Rattle.packed_code.specs.Meaning.{any_written, is_written, bits_at, members_of, map_bits, field_bits, group_bits, steps_bits}
use Rattle.packed_leaves.specs.proving.Counting.{drop-map}
use Rattle.packed_writer.specs.proving.Values.{Written, added_bits, first_bits}
use Rattle.packed_encodings.specs.proving.Lists.{all_take, all_drop}

if_true : {X : Type 0} (b : Bool) (x y : X) → b ≡ true → (if b then x else y) ≡ x
if_true b x y e = ap (λ t. if t then x else y) e

pub added_is : {s : List Resolved} {t : ℕ} {v : AbstractValue} {f : PackedField} {n : ℕ} {w : AbstractValue} → Written s t v f n w → added_bits (members_of s t v) f.place ≡ open_bits (bits_of s w f.ty.index)
added_is {s} {t} {v} {f} r = if_true (is_written (members_of s t v) f.place) (open_bits (bits_at (members_of s t v) f.place)) [] r.written ∙ ap open_bits r.bits

pub group_is : (ms : List (Member Bits)) (fs : List PackedField) → any_written ms fs ≡ true → group_bits ms fs ≡ open_bits (map_bits ms fs ++ field_bits ms fs)
group_is ms fs e = if_true (any_written ms fs) (open_bits (map_bits ms fs ++ field_bits ms fs)) [] e

pub steps_step : (s : List Resolved) (t : ℕ) (v : AbstractValue) (ss : List PackedStep) (i : ℕ) (st : PackedStep) (b d whole : Bits) → drop i ss ≡ st ∷ drop (i + 1) ss → b ++ steps_bits s t v (drop i ss) ≡ whole → d ≡ b ++ first_bits s t v (drop i ss) → d ++ steps_bits s t v (drop (i + 1) ss) ≡ whole
steps_step s t v ss i st b d whole e h n =
    ap (λ q. q ++ steps_bits s t v (drop (i + 1) ss)) (n ∙ ap (λ q. b ++ first_bits s t v q) e)
    ∙ append_assoc b (first_bits s t v (st ∷ drop (i + 1) ss)) (steps_bits s t v (drop (i + 1) ss))
    ∙ ap (λ q. b ++ steps_bits s t v q) (sym e) ∙ h

pub front_in : (P : AbstractValue → Type 0) (n : ℕ) (vs xs : List Value) → xs ≡ take n vs → AllByRecursion P (map abstract vs) → AllByRecursion P (map abstract xs)
front_in P n vs xs e a = subst (λ q. AllByRecursion P (map abstract q)) (sym e) (subst (AllByRecursion P) (take-map abstract n vs) (all_take P n (map abstract vs) a))

pub back_in : (P : AbstractValue → Type 0) (n : ℕ) (vs xs : List Value) → xs ≡ drop n vs → AllByRecursion P (map abstract vs) → AllByRecursion P (map abstract xs)
back_in P n vs xs e a = subst (λ q. AllByRecursion P (map abstract q)) (sym e) (subst (AllByRecursion P) (drop-map abstract n vs) (all_drop P n (map abstract vs) a))

pub permuted_long : (xs ys : Items) → IsPermutation xs ys → length ys ≡ length xs
permuted_long xs ys p = length_permutation xs ys p

pub encoding : (s : List Resolved) (u : ℕ) (v : AbstractValue) (b : Bits) → Packed s u v b → IsEncoding s u b
encoding s u v b p = (p.0, p.2)
