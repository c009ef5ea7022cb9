-- Identifier octets of low and of high numbers.
use Rattle.std.proofs.Common.{arith, ◌≡◌, ℕ, ◌+◌, ◌<◌, ◌≤◌, Bool, true, false, List, [], ◌∷◌, refl, cond}
use Rattle.std.proofs.lemmas.Bool.Decides.{nat_tests}
use Rattle.std.specs.Prelude.{nat_lt}
use Rattle.asn_base.specs.declared.tag.Class.{Class}
use Rattle.encodings.specs.Header.{identifier, class_bits, form_bit, septets}
use Rattle.octets.specs.Fronts.{leading}

pub low : (class : Class) (number : ℕ) (c : Bool)
    → number < 31
    → identifier class number c ≡ (class_bits class + form_bit c + number) ∷ []
unfolding identifier
low class number c l = by (nat_lt number 31) (grind (arith, nat_tests))
  where
    by : (t : Bool)
        → t ≡ true
        → cond t ((class_bits class + form_bit c + number) ∷ []) ((class_bits class + form_bit c + 31) ∷ septets number)
        ≡ (class_bits class + form_bit c + number) ∷ []
    by true e = refl
    by false e = absurd (cc)

pub high : (class : Class) (number : ℕ) (c : Bool)
    → 31 ≤ number
    → identifier class number c ≡ leading class c ∷ septets number
unfolding identifier
high class number c l = by (nat_lt number 31) (grind (arith, nat_tests))
  where
    by : (t : Bool)
        → t ≡ false
        → cond t ((class_bits class + form_bit c + number) ∷ []) ((class_bits class + form_bit c + 31) ∷ septets number)
        ≡ leading class c ∷ septets number
    by true e = absurd (cc)
    by false e = refl
