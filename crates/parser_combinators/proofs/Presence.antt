-- A part that is present is read, and an absent one gives None.
use Rattle.std.proofs.Common.{◌≡◌, Bool, true, false, List, [], ◌∷◌, Option, Some, None, Ok, refl, ap}
use Rattle.grammar.specs.Lexeme.{Lexeme}
use Rattle.grammar.specs.Manies.{is_begun_by}
use Rattle.grammar.specs.Reading.{Read, Reader, ◌>>=◌}
use Rattle.grammar.specs.Parts.{chosen_read, perhaps}

abbrev some_read : {A : Type 0} → Read A → Read (Option A)
some_read r = r >>= λ x. Ok (Some x.0, x.1)

pub starts_here : {A : Type 0} (begins : Lexeme → Bool) (read : Reader A) (ts : List Lexeme)
    → is_begun_by begins ts ≡ true
    → perhaps begins read ts ≡ (read ts >>= λ x. Ok (Some x.0, x.1))
starts_here begins read [] e = absurd cc
starts_here begins read (t ∷ ts) e = ap (λ (b : Bool). chosen_read b (some_read (read (t ∷ ts))) (Ok (None, t ∷ ts))) e

pub is_absent : {A : Type 0} (begins : Lexeme → Bool) (read : Reader A) (ts : List Lexeme)
    → is_begun_by begins ts ≡ false
    → perhaps begins read ts ≡ Ok (None, ts)
is_absent begins read [] e = refl
is_absent begins read (t ∷ ts) e = ap (λ (b : Bool). chosen_read b (some_read (read (t ∷ ts))) (Ok (None, t ∷ ts))) e
