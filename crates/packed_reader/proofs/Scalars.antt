-- Values of few bits.
use Rattle.std.proofs.Common.{arith, ◌≡◌, ℕ, ◌-◌, Bool, true, false, List, [], ◌∷◌, None, Some, slice_get, refl, ap, sym, ◌∙◌}
use Rattle.std.specs.Prelude.{if◌then◌else◌, Option, ℤ}
use Rattle.std.proofs.lemmas.Bool.{le-ltb}
use Rattle.asn_base.specs.Abstract.{AbstractValue, boolean, integer, enumerated}
use Rattle.asn_base.specs.declared.tag.Tag.{Tag}
use Rattle.asn_base.specs.Types.{Kind, Resolved, an_integer, a_sequence, a_set, a_sequence_of, a_set_of, a_choice}
use Rattle.packed_code.specs.Routines.{integer_step, routine_of, routine_at}
use Rattle.packed_code.specs.declared.step.PackedStep.{PackedStep}
use Rattle.packed_encodings.specs.Computed.{kind_at}
use Rattle.packed_encodings.specs.Lengths.{Bits}
use Rattle.packed_encodings.specs.Weights.{characters}
use Rattle.decode_faults.specs.declared.refusal.Refusal.TheVariants as why
use Rattle.packed_readings.specs.Outcome.{found, onward, good, bad, verdict}
use Rattle.packed_readings.specs.Leaves.{leaf_from, light_leaf, leaf_within}
use Rattle.packed_reader.specs.Code.{scalar_value}
use Rattle.packed_reader.specs.Readings.{read, next, plain, taken}
use Rattle.packed_reader.specs.declared.scalar.Scalar.{Scalar}
use Rattle.packed_reader.specs.declared.scalar.Scalar.TheVariants.{Truth, Number, Item}
use Rattle.packed_reader.specs.proving.Running.{RunsValue, run_leaf, run_steps}
use Rattle.packed_reader.proofs.MemberRun.{kind_found}

-- it isn't a character string
no_text : (n : ℕ) (v : Scalar) → light_leaf n (scalar_value v) ≡ good (scalar_value v)
no_text n (Truth x) = ap (λ t. if t then bad why.NodesLimit else good (boolean x)) (le-ltb n 0 (omega arith))
no_text n (Number z) = ap (λ t. if t then bad why.NodesLimit else good (integer z)) (le-ltb n 0 (omega arith))
no_text n (Item z) = ap (λ t. if t then bad why.NodesLimit else good (enumerated z)) (le-ltb n 0 (omega arith))

pub light : (n : ℕ) (k : Kind) (b r : Bits) (v : Scalar) → leaf_from k b ≡ found (scalar_value v) r → leaf_within n k b ≡ found (scalar_value v) r
light n k b r v e = ap (λ o. onward o (λ w q. verdict (light_leaf n w) b q)) e ∙ ap (λ j. verdict j b r) (no_text n v)

few : (n : ℕ) (v : Scalar) → n - characters (scalar_value v) ≡ n
few n (Truth x) = omega arith
few n (Number z) = omega arith
few n (Item z) = omega arith

-- what a leaf of the kind of the type at a place is read as
scalar_leaf : (c d : Kind) (k n : ℕ) (b r : Bits) (v : Scalar) → d ≡ c → leaf_from c b ≡ found (scalar_value v) r → run_leaf d k n b ≡ read (taken (scalar_value v) k n) r
scalar_leaf c d k n b r v g h =
    ap (λ q. run_leaf q k n b) g
    ∙ ap (λ o. next (plain o) (λ x q. read (taken x k (n - characters x)) q)) (light n c b r v h)
    ∙ ap (λ m. read (taken (scalar_value v) k m) r) (few n v)

integer_runs : (s : List Resolved) (l : ℕ) (value : RunsValue) (t k n : ℕ) (b : Bits) (e : Bool) (least greatest : Option ℤ) → run_steps s l value t (integer_step e least greatest ∷ []) k n b ≡ run_leaf (kind_at s t) k n b
integer_runs s l value t k n b true least greatest = refl
integer_runs s l value t k n b false None greatest = refl
integer_runs s l value t k n b false (Some x) None = refl
integer_runs s l value t k n b false (Some x) (Some y) = refl

-- the routine of a kind that holds no others
kind_runs : (s : List Resolved) (l : ℕ) (value : RunsValue) (t k n : ℕ) (b r : Bits) (w : AbstractValue) (c : Kind) → leaf_from c b ≡ found w r → run_steps s l value t (routine_of s c) k n b ≡ run_leaf (kind_at s t) k n b
unfolding routine_of
kind_runs s l value t k n b r w (an_integer c) e = integer_runs s l value t k n b c.visible.extensible c.visible.least c.visible.greatest
kind_runs s l value t k n b r w (a_sequence x cs) e = absurd (cc)
kind_runs s l value t k n b r w (a_set x cs) e = absurd (cc)
kind_runs s l value t k n b r w (a_sequence_of c u) e = absurd (cc)
kind_runs s l value t k n b r w (a_set_of c u) e = absurd (cc)
kind_runs s l value t k n b r w (a_choice root x more) e = absurd (cc)
kind_runs s l value t k n b r w c e = refl

pub scalar_steps : (s q : List Resolved) (l : ℕ) (value : RunsValue) (t k n : ℕ) (b r : Bits) (c : Kind) (tags : List Tag) (v : Scalar) → q ≡ s → slice_get q t ≡ Some (record { tags = tags; kind = c }) → leaf_from c b ≡ found (scalar_value v) r → run_steps s l value t (routine_at s t) k n b ≡ read (taken (scalar_value v) k n) r
scalar_steps s q l value t k n b r c tags v e h g =
    let there : slice_get s t ≡ Some (record { tags = tags; kind = c }) = ap (λ z. slice_get z t) (sym e) ∙ h in
    ap (λ o. run_steps s l value t (elim o as (λ z. List PackedStep) [ None ↦ [] | Some x ↦ routine_of s x.kind ]) k n b) there
    ∙ kind_runs s l value t k n b r (scalar_value v) c g
    ∙ scalar_leaf c (kind_at s t) k n b r v (kind_found s q t c tags e h) g
