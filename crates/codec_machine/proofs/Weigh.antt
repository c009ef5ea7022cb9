-- How many steps frames can take.
use Rattle.std.proofs.Common.{◌≡◌, ℕ, zero, suc, ◌+◌, ◌*◌, ◌<◌, ◌≤◌, List, [], ◌∷◌, length, refl, ap, arith, length-append}
use Rattle.std.proofs.Math.Nat.{mul-le-mul_left}
use Rattle.std.specs.Prelude.{Option, Some, None, slice_get, flat_map}
use Rattle.asn_base.specs.Abstract.{AbstractValue, boolean, integer, enumerated, bits, octets, text, null, oid, relative_oid, fields, list, alternative, Row, end, absent, present}
use Rattle.asn_base.specs.Types.{Resolved}
use Rattle.codec_code.specs.declared.step.Step.{Step}
use Rattle.codec_code.specs.Routines.{routine_of, routine_at}
use Rattle.codec_code.specs.Steps.{component_at}
use Rattle.codec_machine.specs.Weights.{weight, weights, inner, total}
use Rattle.codec_machine.specs.Frames.{steps_weight}

pub weight_is : (l : ℕ) (v : AbstractValue) → weight l v ≡ suc (l * (2 + inner l v))
weight_is l (boolean b) = refl
weight_is l (integer b) = refl
weight_is l (enumerated b) = refl
weight_is l (bits b) = refl
weight_is l (octets b) = refl
weight_is l (text b) = refl
weight_is l null = refl
weight_is l (oid b) = refl
weight_is l (relative_oid b) = refl
weight_is l (fields b) = refl
weight_is l (list b) = refl
weight_is l (alternative i b) = refl

part_most : (s rs : List Resolved) (t : ℕ) (r : Resolved)
    → slice_get rs t ≡ Some r
    → length (routine_of s r) ≤ length (flat_map (routine_of s) rs)
part_most s [] t r e = absurd (cc)
part_most s (q ∷ rs) zero r e =
    let f : q ≡ r = cc in
    let g = ap (λ k. length (routine_of s k)) f in
    let l = length-append (routine_of s q) (flat_map (routine_of s) rs) in omega (arith, g, l)
part_most s (q ∷ rs) (suc t) r e =
    let h = part_most s rs t r e in
    let l = length-append (routine_of s q) (flat_map (routine_of s) rs) in omega (arith, h, l)

abbrev or_none : List Resolved → Option Resolved → List Step
or_none s o = elim o [ None ↦ [] | Some r ↦ routine_of s r ]

by_option : (s : List Resolved) (t : ℕ) (o : Option Resolved) → slice_get s t ≡ o → length (or_none s o) ≤ total s
by_option s t None e = omega arith
by_option s t (Some r) e = part_most s s t r e

pub routine_most : (s : List Resolved) (t : ℕ) → length (routine_at s t) ≤ total s
routine_most s t = by_option s t (slice_get s t) refl

pub product_most : (n l k : ℕ) → n ≤ l → n * k ≤ l * k
product_most n l k h = let m : k * n ≤ k * l = mul-le-mul_left k h in omega arith

-- the steps of a routine for a value weigh at most what the value does
pub routine_weight : (s : List Resolved) (t : ℕ) (v : AbstractValue)
    → steps_weight (total s) (routine_at s t) v ≤ weight (total s) v
routine_weight s t v =
    let m = product_most (length (routine_at s t)) (total s) (2 + inner (total s) v) (routine_most s t) in
    let e = weight_is (total s) v in omega arith

pub component_weight : (l : ℕ) (ws : Row) (i : ℕ) (w : AbstractValue)
    → component_at ws i ≡ Some (Some w)
    → suc (suc (weight l w)) ≤ weights l ws
component_weight l end i w e = absurd (cc)
component_weight l (absent ws) zero w e = absurd (let f : None ≡ Some w = cc in cc)
component_weight l (present v ws) zero w e = let f : v ≡ w = cc in let g = ap (weight l) f in omega arith
component_weight l (absent ws) (suc i) w e = component_weight l ws i w e
component_weight l (present v ws) (suc i) w e = let h = component_weight l ws i w e in omega arith

times : (n k : ℕ) → suc n * k ≡ n * k + k
times n k = omega arith

-- room for the steps that are left, and for at most as much as a value holds and one more
pub room : (l : ℕ) (x : Step) (ss : List Step) (v : AbstractValue) (c : ℕ)
    → c ≤ suc (inner l v)
    → steps_weight l ss v + c < steps_weight l (x ∷ ss) v
room l x ss v c h = let e = times (length ss) (2 + inner l v) in omega arith

pub room_fewer : (l : ℕ) (x : Step) (rs ss : List Step) (v : AbstractValue) (c : ℕ)
    → length rs ≤ length ss
    → c ≤ suc (inner l v)
    → steps_weight l rs v + c < steps_weight l (x ∷ ss) v
room_fewer l x rs ss v c g h = let e = times (length ss) (2 + inner l v) in let d = product_most (length rs) (length ss) (2 + inner l v) g in omega arith
