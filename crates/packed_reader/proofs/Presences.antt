-- Which components and additions are present, as calls read it.
use Rattle.std.proofs.Common.{arith, ◌≡◌, ℕ, zero, suc, ◌+◌, ◌<◌, ◌≤◌, ◌==◌, ◌^◌, Bool, List, [], ◌∷◌, ◌++◌, length, map, take, drop, refl, sym, ap, ◌∙◌, append_assoc, length-append}
use Rattle.std.specs.Prelude.{if◌then◌else◌}
use Rattle.std.proofs.lemmas.Bool.{le-ltb}
use Rattle.std.proofs.lemmas.List.{take_at, drop_at}
use Rattle.bits.specs.Words.{low_bits}
use Rattle.packed_code.specs.declared.step.PackedField.{PackedField}
use Rattle.packed_code.specs.declared.step.PackedStep.{PackedStep}
use Rattle.packed_code.specs.declared.step.PackedStep.TheVariants as steps
use Rattle.packed_encodings.specs.Lengths.{Bits}
use Rattle.packed_readings.specs.Counts.{several_bits}
use Rattle.packed_readings.specs.Outcome.{found, stops}
use Rattle.decode_faults.specs.declared.refusal.Refusal.TheVariants as why
use Rattle.packed_writer.specs.proving.Fields.{fields_append}
use Rattle.packed_reader.specs.declared.sent.Sent.{Sent}
use Rattle.packed_reader.specs.declared.stop.Stop.{Stop}
use Rattle.packed_reader.specs.Readings.{Reading, read, next}
use Rattle.packed_reader.specs.Structures.{presence_from}
use Rattle.packed_reader.specs.proving.Code.{IsStop}
use Rattle.packed_reader.specs.proving.Running.{run_presences, sent}
use Rattle.packed_writer.specs.proving.Values.{fields_in}
use Rattle.packed_reader.proofs.Flow.{stop_next, stop_as}

-- ---- fields of steps

-- ---- presences

pub one_more : (xs : List Sent) (st : PackedStep) (f : PackedField) (c : Bool) (fs : List PackedField) (b r : Bits) → fields_in (st ∷ []) ≡ f ∷ [] → presence_from f.with_bit b ≡ read c r → run_presences xs (fields_in (st ∷ []) ++ fs) b ≡ run_presences (xs ++ sent f c ∷ []) fs r
one_more xs st f c fs b r e p = ap (λ q. run_presences xs (q ++ fs) b) e ∙ ap (λ o. next o (λ d z. run_presences (xs ++ sent f d ∷ []) fs z)) p

pub none_more : (xs : List Sent) (st : PackedStep) (fs : List PackedField) (b : Bits) → fields_in (st ∷ []) ≡ [] → run_presences xs (fields_in (st ∷ []) ++ fs) b ≡ run_presences xs fs b
none_more xs st fs b e = ap (λ q. run_presences xs (q ++ fs) b) e

pub no_more : (xs : List Sent) (st : PackedStep) (f : PackedField) (fs : List PackedField) (b r : Bits) (x : Stop) → fields_in (st ∷ []) ≡ f ∷ [] → IsStop (presence_from f.with_bit b) x r → IsStop (run_presences xs (fields_in (st ∷ []) ++ fs) b) x r
no_more xs st f fs b r x e h = stop_as (run_presences xs (fields_in (st ∷ []) ++ fs) b) (run_presences xs (f ∷ fs) b) x r (ap (λ q. run_presences xs (q ++ fs) b) e) (stop_next (presence_from f.with_bit b) (λ d z. run_presences (xs ++ sent f d ∷ []) fs z) x r h)

abbrev pub fields_of : List Sent → List PackedField
fields_of = map (λ x. x.field)

pub fields_joined : (xs ys : List Sent) → map (λ x. x.field) (xs ++ ys) ≡ map (λ x. x.field) xs ++ map (λ x. x.field) ys
fields_joined [] ys = refl
fields_joined (x ∷ xs) ys = ap (λ q. x.field ∷ q) (fields_joined xs ys)

-- ---- bits

pub bits_found : (n : ℕ) (b x r : Bits) → x ++ r ≡ b → length x ≡ n → several_bits n b ≡ found x r
bits_found n b x r e l =
    let a = length-append x r in
    let k : n ≤ length (x ++ r) = omega (arith, a, l) in
    ap (several_bits n) (sym e)
    ∙ ap (λ t. if t then stops why.Truncated (x ++ r) else found (take n (x ++ r)) (drop n (x ++ r))) (le-ltb (length (x ++ r)) n k)
    ∙ ap (λ q. found q (drop n (x ++ r))) (ap (λ m. take m (x ++ r)) (sym l) ∙ take_at x r (length x) refl)
    ∙ ap (λ q. found x q) (ap (λ m. drop m (x ++ r)) (sym l) ∙ drop_at x r (length x) refl)

one_bit_by : (x : ℕ) → x < 2 → low_bits 1 x ≡ (x == 1) ∷ []
one_bit_by zero l = refl
one_bit_by (suc zero) l = refl
one_bit_by (suc (suc x)) l = absurd (omega (arith, l))

pub one_bit : (x : ℕ) → x < 2 ^ 1 → low_bits 1 x ≡ (x == 1) ∷ []
one_bit x l = one_bit_by x l

pub bit_next : (x : ℕ) (out b r z : Bits) → x < 2 ^ 1 → b ≡ low_bits 1 x ++ r → out ++ b ≡ z → (out ++ (x == 1) ∷ []) ++ r ≡ z
bit_next x out b r z l e h = append_assoc out ((x == 1) ∷ []) r ∙ ap (λ q. out ++ q) (ap (λ q. q ++ r) (sym (one_bit x l)) ∙ sym e) ∙ h

module _ (ss : List PackedStep) (i : ℕ) (st : PackedStep) (old new : List Sent) (b r : Bits) (e : drop i ss ≡ st ∷ drop (i + 1) ss) where
  split : fields_in (drop i ss) ≡ fields_in (st ∷ []) ++ fields_in (drop (i + 1) ss)
  split = ap fields_in e ∙ fields_append st (drop (i + 1) ss)

  pub presences_step : (all : Reading (List Sent)) → run_presences old (fields_in (drop i ss)) b ≡ all → ((fs : List PackedField) → run_presences old (fields_in (st ∷ []) ++ fs) b ≡ run_presences new fs r) → run_presences new (fields_in (drop (i + 1) ss)) r ≡ all
  presences_step all h g = sym (g (fields_in (drop (i + 1) ss))) ∙ ap (λ q. run_presences old q b) (sym split) ∙ h

  pub presences_fields : (all : List PackedField) → map (λ x. x.field) old ++ fields_in (drop i ss) ≡ all → map (λ x. x.field) new ≡ map (λ x. x.field) old ++ fields_in (st ∷ []) → map (λ x. x.field) new ++ fields_in (drop (i + 1) ss) ≡ all
  presences_fields all h g =
      ap (λ q. q ++ fields_in (drop (i + 1) ss)) g ∙ append_assoc (map (λ x. x.field) old) (fields_in (st ∷ [])) (fields_in (drop (i + 1) ss))
      ∙ ap (λ q. map (λ x. x.field) old ++ q) (sym split) ∙ h

  pub presences_stop : (all : Reading (List Sent)) (x : Stop) → run_presences old (fields_in (drop i ss)) b ≡ all → ((fs : List PackedField) → IsStop (run_presences old (fields_in (st ∷ []) ++ fs) b) x r) → IsStop all x r
  presences_stop all x h g =
      stop_as all (run_presences old (fields_in (st ∷ []) ++ fields_in (drop (i + 1) ss)) b) x r (sym h ∙ ap (λ q. run_presences old q b) split) (g (fields_in (drop (i + 1) ss)))
