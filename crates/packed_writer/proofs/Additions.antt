-- Bits of additions, step by step.
use Rattle.std.proofs.Common.{◌≡◌, ℕ, ◌+◌, Bool, true, false, List, [], ◌∷◌, ◌++◌, drop, refl, sym, ap, ◌∙◌, append_assoc}
use Rattle.std.specs.Prelude.{◌||◌}
use Rattle.packed_code.specs.declared.step.PackedStep.{PackedStep}
use Rattle.packed_code.specs.declared.step.PackedStep.TheVariants as steps
use Rattle.packed_code.specs.Meaning.{addition_map}
use Rattle.packed_encodings.specs.Lengths.{Bits}
use Rattle.packed_encodings.specs.Orders.{Member}
use Rattle.packed_encodings.specs.Packing.{any_set}
use Rattle.packed_writer.specs.proving.Values.{first_map}

pub map_first : (ms : List (Member Bits)) (st : PackedStep) (ss : List PackedStep) → addition_map ms (st ∷ ss) ≡ first_map ms (st ∷ ss) ++ addition_map ms ss
map_first ms (steps.Added f) ss = refl
map_first ms q ss = refl

any_both : (a b : Bits) → any_set (a ++ b) ≡ (any_set a || any_set b)
any_both [] b = refl
any_both (x ∷ a) b = by x (any_both a b)
  where
    by : (q : Bool) → any_set (a ++ b) ≡ (any_set a || any_set b) → (q || any_set (a ++ b)) ≡ ((q || any_set a) || any_set b)
    by true r = refl
    by false r = r

pub any_first : (ms : List (Member Bits)) (st : PackedStep) (ss : List PackedStep) → any_set (addition_map ms (st ∷ ss)) ≡ (any_set (first_map ms (st ∷ ss)) || any_set (addition_map ms ss))
any_first ms st ss = ap any_set (map_first ms st ss) ∙ any_both (first_map ms (st ∷ ss)) (addition_map ms ss)

pub addition_step : (ms : List (Member Bits)) (ss : List PackedStep) (i : ℕ) (st : PackedStep) (b d whole : Bits) → drop i ss ≡ st ∷ drop (i + 1) ss → b ++ addition_map ms (drop i ss) ≡ whole → d ≡ b ++ first_map ms (drop i ss) → d ++ addition_map ms (drop (i + 1) ss) ≡ whole
addition_step ms ss i st b d whole e v n =
    ap (λ q. q ++ addition_map ms (drop (i + 1) ss)) (n ∙ ap (λ q. b ++ first_map ms q) e) ∙ append_assoc b (first_map ms (st ∷ drop (i + 1) ss)) (addition_map ms (drop (i + 1) ss))
    ∙ ap (λ q. b ++ q) (sym (map_first ms st (drop (i + 1) ss)) ∙ ap (addition_map ms) (sym e)) ∙ v

pub any_added : (ms : List (Member Bits)) (ss : List PackedStep) (i : ℕ) (st : PackedStep) → drop i ss ≡ st ∷ drop (i + 1) ss → any_set (addition_map ms (drop i ss)) ≡ (any_set (first_map ms (drop i ss)) || any_set (addition_map ms (drop (i + 1) ss)))
any_added ms ss i st e = ap (λ q. any_set (addition_map ms q)) e ∙ any_first ms st (drop (i + 1) ss) ∙ ap (λ q. any_set (first_map ms q) || any_set (addition_map ms (drop (i + 1) ss))) (sym e)
