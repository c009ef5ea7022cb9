-- What a value in memory shows of its components.
use Rattle.std.proofs.Common.{arith, ◌≡◌, ℕ, zero, suc, ◌+◌, List, [], ◌∷◌, length, map, refl, sym, ap, ◌∙◌, get_or, Option, None, option_map}
use Rattle.asn_base.specs.declared.value.Value.{Value}
use Rattle.asn_base.specs.Abstract.{AbstractValue, abstract, fields, placed, row_of_options}

pub same_places : {A : Type 0} (n : ℕ) (f g : ℕ → Option A) → ((i : ℕ) → f i ≡ g i) → placed n f ≡ placed n g
same_places zero f g e = refl
same_places (suc n) f g e =
    ap (λ o. o ∷ placed n (λ i. f (i + 1))) (e 0) ∙ ap (λ os. g 0 ∷ os) (same_places n (λ i. f (i + 1)) (λ i. g (i + 1)) (λ i. e (i + 1)))

all_placed : (vs : List (Option Value)) → placed (length vs) (λ i. option_map abstract (get_or vs i None)) ≡ map (option_map abstract) vs
all_placed [] = refl
all_placed (o ∷ vs) =
    ap (λ os. option_map abstract o ∷ os)
    (same_places (length vs) _ _ (λ i. let e : i + 1 ≡ suc i = omega arith in ap (λ k. option_map abstract (get_or (o ∷ vs) k None)) e) ∙ all_placed vs)

pub shown_fields : (v : AbstractValue) (vs ws : List (Option Value)) (n : ℕ) → v ≡ fields (row_of_options (map (option_map abstract) vs)) → ws ≡ vs → n ≡ length ws
    → v ≡ fields (row_of_options (placed n (λ i. option_map abstract (get_or ws i None))))
shown_fields v vs ws n e f g =
    e ∙ ap (λ us. fields (row_of_options (map (option_map abstract) us))) (sym f) ∙ ap (λ os. fields (row_of_options os)) (sym (all_placed ws))
    ∙ ap (λ k. fields (row_of_options (placed k (λ i. option_map abstract (get_or ws i None))))) (sym g)
