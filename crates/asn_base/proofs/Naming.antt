-- Names, octet by octet.
use Rattle.std.proofs.Common.{◌≡◌, ℕ, Bool, true, false, List, [], ◌∷◌, refl, ap, ◌∙◌}
use Rattle.std.specs.Prelude.{not, ◌&&◌, ◌==◌, if◌then◌else◌, Option, Some, None}
use Rattle.std.specs.Char.{is_ascii_alphanumeric}
use Rattle.asn_base.specs.Names.{goes_on}
use Rattle.asn_base.specs.proving.Listing.{next_flag}

abbrev flag : (after hyphen letter : Bool) → Option Bool
flag after hyphen letter = if hyphen && not after then Some true else (if letter then Some false else None)

abbrev going : (after hyphen letter : Bool) → List ℕ → Bool
going true hyphen letter xs = letter && goes_on false xs
going false hyphen letter xs = if hyphen then goes_on true xs else (letter && goes_on false xs)

opened : (b : Bool) (x : ℕ) (xs : List ℕ) → goes_on b (x ∷ xs) ≡ going b (x == 45) (is_ascii_alphanumeric x) xs
opened true x xs = refl
opened false x xs = refl

by_flag : (b h a n : Bool) (xs : List ℕ) → flag b h a ≡ Some n → going b h a xs ≡ goes_on n xs
by_flag true true true n xs e = let q : false ≡ n = cc in ap (λ f. goes_on f xs) q
by_flag true true false n xs e = absurd cc
by_flag true false true n xs e = let q : false ≡ n = cc in ap (λ f. goes_on f xs) q
by_flag true false false n xs e = absurd cc
by_flag false true a n xs e = let q : true ≡ n = cc in ap (λ f. goes_on f xs) q
by_flag false false true n xs e = let q : false ≡ n = cc in ap (λ f. goes_on f xs) q
by_flag false false false n xs e = absurd cc

by_none : (b h a : Bool) (xs : List ℕ) → flag b h a ≡ None → going b h a xs ≡ false
by_none true true true xs e = absurd cc
by_none true true false xs e = refl
by_none true false true xs e = absurd cc
by_none true false false xs e = refl
by_none false true a xs e = absurd cc
by_none false false true xs e = absurd cc
by_none false false false xs e = refl

pub goes_more : (b : Bool) (x : ℕ) (xs : List ℕ) (n : Bool) → next_flag b x ≡ Some n → goes_on b (x ∷ xs) ≡ goes_on n xs
goes_more b x xs n e = opened b x xs ∙ by_flag b (x == 45) (is_ascii_alphanumeric x) n xs e

pub goes_not : (b : Bool) (x : ℕ) (xs : List ℕ) → next_flag b x ≡ None → goes_on b (x ∷ xs) ≡ false
goes_not b x xs e = opened b x xs ∙ by_none b (x == 45) (is_ascii_alphanumeric x) xs e

pub goes_end : (b : Bool) → goes_on b [] ≡ not b
goes_end true = refl
goes_end false = refl
