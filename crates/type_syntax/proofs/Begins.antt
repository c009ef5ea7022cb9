-- What may be in braces is read where it begins.
use Rattle.std.proofs.Common.{◌≡◌, Bool, true, false, List, [], ◌∷◌, Option, Some, None, Ok, refl, ap}
use Rattle.grammar.specs.Lexeme.{Lexeme}
use Rattle.grammar.specs.Manies.{is_begun_by}
use Rattle.grammar.specs.Parts.{chosen_read}
use Rattle.grammar.specs.Places.{small}
use Rattle.grammar.specs.Reading.{Read, Reader, ◌>>=◌, rootless_at, addition_at}
use Rattle.type_syntax.specs.TypeReading.{is_listing, listing_at}

abbrev some_listing : {A B : Type 0} → Read (List A × Option (List B)) → Read (Option (List A × Option (List B)))
some_listing r = r >>= λ x. Ok (Some x.0, x.1)

pub listing_begins : {A : Type 0} (part : Reader A) (ts : List Lexeme)
    → is_begun_by is_listing ts ≡ true
    → listing_at small part ts ≡ (rootless_at part (addition_at small part) ts >>= λ x. Ok (Some x.0, x.1))
unfolding listing_at
listing_begins part [] e = absurd cc
listing_begins part (t ∷ ts) e = ap (λ (b : Bool). chosen_read b (some_listing (rootless_at part (addition_at small part) (t ∷ ts))) (Ok (None, t ∷ ts))) e

pub no_listing : {A : Type 0} (part : Reader A) (ts : List Lexeme)
    → is_begun_by is_listing ts ≡ false
    → listing_at small part ts ≡ Ok (None, ts)
unfolding listing_at
no_listing part [] e = refl
no_listing part (t ∷ ts) e = ap (λ (b : Bool). chosen_read b (some_listing (rootless_at part (addition_at small part) (t ∷ ts))) (Ok (None, t ∷ ts))) e
