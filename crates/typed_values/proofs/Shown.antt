-- Values are outcomes for themselves.
use Rattle.std.proofs.Common.{◌≡◌, List, [], ◌∷◌, Option, Some, None, refl, ap, ap₂, map, option_map}
use Rattle.std.specs.List.{AllZip}
use Rattle.asn_base.specs.declared.value.Value.{Value}
use Rattle.asn_base.specs.Abstract.{AbstractValue, abstract}
use Rattle.typed_values.specs.proving.Outcomes.{ShowsOption}

pub values_shown : (xs : List Value) (vs : List AbstractValue) → AllZip (λ x v. abstract x ≡ v) xs vs → map abstract xs ≡ vs
values_shown [] [] z = refl
values_shown [] (v ∷ vs) z = absurd z
values_shown (x ∷ xs) [] z = absurd z
values_shown (x ∷ xs) (v ∷ vs) z = ap₂ (λ u us. u ∷ us) z.0 (values_shown xs vs z.1)

option_shown : (x : Option Value) (v : Option AbstractValue) → ShowsOption (λ x v. abstract x ≡ v) x v →
    option_map abstract x ≡ v
option_shown None None z = refl
option_shown None (Some v) z = absurd z
option_shown (Some x) None z = absurd z
option_shown (Some x) (Some v) z = ap Some z

pub options_shown : (xs : List (Option Value)) (vs : List (Option AbstractValue)) →
    AllZip (ShowsOption (λ x v. abstract x ≡ v)) xs vs → map (option_map abstract) xs ≡ vs
options_shown [] [] z = refl
options_shown [] (v ∷ vs) z = absurd z
options_shown (x ∷ xs) [] z = absurd z
options_shown (x ∷ xs) (v ∷ vs) z = ap₂ (λ u us. u ∷ us) (option_shown x v z.0) (options_shown xs vs z.1)
