-- An identifier is a token by itself.
use Rattle.std.proofs.Common.{arith, ◌≡◌, ℕ, zero, suc, ◌+◌, ◌≤◌, ◌<◌, Bool, true, false, not, ◌&&◌, ◌||◌, List, [], ◌∷◌, length, refl, sym, ap, ◌∙◌}
use Rattle.std.specs.Prelude.{◌==◌, if◌then◌else◌, slice_range}
use Rattle.std.specs.Char.{is_ascii_alphanumeric, is_ascii_alphabetic, is_ascii_lowercase, is_ascii_uppercase}
use Rattle.std.proofs.lemmas.List.{get_or_past}
use Rattle.std.proofs.lemmas.Bool.Decides.{nat_tests}
use Rattle.asn_base.specs.Names.{goes_on, IsIdentifier}
use Rattle.text.specs.declared.reserved.Word.{Word}
use Rattle.text.specs.declared.reserved.Word.TheVariants as words
use Rattle.text.specs.Words.{spelling}
use Rattle.text.specs.Octets.{octet_at, stops_name, is_lone_hyphen}
use Rattle.laws_print.specs.Lexing.{IsIdentifierToken}
use Rattle.laws_print.proofs.Tokens.{whole_slice}

-- a reserved word begins with a capital
capital : (w : Word) → is_ascii_uppercase (octet_at (spelling w) 0) ≡ true
capital words.Real = refl
capital words.GeneralizedTime = refl
capital words.UtcTime = refl
capital words.External = refl
capital words.Embedded = refl
capital words.Character = refl
capital words.OidIri = refl
capital words.ObjectDescriptor = refl
capital words.BmpString = refl
capital words.UniversalString = refl
capital words.TeletexString = refl
capital words.T61String = refl
capital words.GeneralString = refl
capital words.GraphicString = refl
capital words.VideotexString = refl
capital words.RelativeOid = refl
capital words.Class = refl
capital words.TypeIdentifier = refl
capital words.AbstractSyntax = refl
capital words.Instance = refl
capital words.Universal = refl
capital words.Components = refl
capital words.With = refl
capital words.Containing = refl
capital words.Pattern = refl
capital words.Includes = refl
capital words.Intersection = refl
capital words.Except = refl
capital words.Extensibility = refl
capital words.PlusInfinity = refl
capital words.MinusInfinity = refl
capital words.Definitions = refl
capital words.Tags = refl
capital words.Begin = refl
capital words.Exports = refl
capital words.All = refl
capital words.Imports = refl
capital words.End = refl
capital words.Explicit = refl
capital words.Implicit = refl
capital words.Automatic = refl
capital words.From = refl
capital words.Application = refl
capital words.Private = refl
capital words.Boolean = refl
capital words.Null = refl
capital words.Object = refl
capital words.Identifier = refl
capital words.Octet = refl
capital words.String = refl
capital words.Utf8String = refl
capital words.NumericString = refl
capital words.PrintableString = refl
capital words.Ia5String = refl
capital words.VisibleString = refl
capital words.Iso646String = refl
capital words.Integer = refl
capital words.Bit = refl
capital words.Enumerated = refl
capital words.Sequence = refl
capital words.Set = refl
capital words.Choice = refl
capital words.Of = refl
capital words.Optional = refl
capital words.Default = refl
capital words.Size = refl
capital words.Union = refl
capital words.Min = refl
capital words.Max = refl
capital words.True = refl
capital words.False = refl

-- a name doesn't go on with these two octets
abbrev stops : ℕ → ℕ → Bool
stops c d = not (is_ascii_alphanumeric c || ((c == 45) && is_ascii_alphanumeric d))

stops_is : (x : List ℕ) (k : ℕ) → stops_name x k ≡ stops (octet_at x k) (octet_at x (k + 1))
unfolding stops_name
stops_is x k = refl

lone_is : (x : List ℕ) (k : ℕ) → octet_at x k ≡ 0 → is_lone_hyphen x k ≡ false
unfolding is_lone_hyphen
lone_is x k e = rw e refl

by_letter : (c d : ℕ) → is_ascii_alphanumeric c ≡ true → stops c d ≡ false
by_letter c d e = rw e refl

by_hyphen : (c d : ℕ) → (c == 45) ≡ true → is_ascii_alphanumeric d ≡ true → stops c d ≡ false
by_hyphen c d e f = grind (arith, nat_tests)

no_end : {A : Type 0} → (false ≡ true) → A
no_end e = absurd cc

both_first : (a b : Bool) → (a && b) ≡ true → a ≡ true
both_first true b e = refl
both_first false b e = no_end e

both_second : (a b : Bool) → (a && b) ≡ true → b ≡ true
both_second true b e = e
both_second false b e = no_end e

behind_hyphen : (xs : List ℕ) → goes_on true xs ≡ true → is_ascii_alphanumeric (octet_at xs 0) ≡ true
behind_hyphen [] e = no_end e
behind_hyphen (x ∷ xs) e = both_first (is_ascii_alphanumeric x) (goes_on false xs) e

Goes : List ℕ → Type 0
Goes xs = (k : ℕ) → k < length xs → stops (octet_at xs k) (octet_at xs (suc k)) ≡ false

first_then : (x : ℕ) (xs : List ℕ) → stops x (octet_at xs 0) ≡ false → Goes xs → Goes (x ∷ xs)
unfolding Goes
first_then x xs e g zero lt = e
first_then x xs e g (suc k) lt = g k (omega (arith, lt))

at_once : (x : ℕ) (xs : List ℕ) → (is_ascii_alphanumeric x && goes_on false xs) ≡ true → (goes_on false xs ≡ true → Goes xs) → Goes (x ∷ xs)
at_once x xs e g = first_then x xs (by_letter x (octet_at xs 0) (both_first (is_ascii_alphanumeric x) (goes_on false xs) e)) (g (both_second (is_ascii_alphanumeric x) (goes_on false xs) e))

by_test : (x : ℕ) (xs : List ℕ) (b : Bool) → (x == 45) ≡ b → (if b then goes_on true xs else (is_ascii_alphanumeric x && goes_on false xs)) ≡ true
    → (goes_on true xs ≡ true → Goes xs) → (goes_on false xs ≡ true → Goes xs) → Goes (x ∷ xs)
by_test x xs true f e t g = first_then x xs (by_hyphen x (octet_at xs 0) f (behind_hyphen xs e)) (t e)
by_test x xs false f e t g = at_once x xs e g

going : (b : Bool) (xs : List ℕ) → goes_on b xs ≡ true → Goes xs
unfolding Goes
going b [] e = λ k lt. absurd (omega (arith, lt))
going true (x ∷ xs) e = at_once x xs e (going false xs)
going false (x ∷ xs) e = by_test x xs (x == 45) refl e (going true xs) (going false xs)

small_is_letter : (c : ℕ) → is_ascii_lowercase c ≡ true → is_ascii_alphabetic c ≡ true
small_is_letter c e = grind (arith, nat_tests)

small_no_capital : (c : ℕ) → is_ascii_lowercase c ≡ true → is_ascii_uppercase c ≡ false
small_no_capital c e = grind (arith, nat_tests)

not_both : (b : Bool) → b ≡ true → b ≡ false → ⊥
not_both b e f = no_end (sym f ∙ e)

pub identifier_token : (w : List ℕ) → IsIdentifier w → IsIdentifierToken w
unfolding Goes
identifier_token [] i = no_end i
identifier_token (x ∷ xs) i = (
  record {
    letter = small_is_letter x small;
    first = record {
      follows = omega arith;
      here = stops_is (x ∷ xs) (length (x ∷ xs)) ∙ ap (λ c. stops c (octet_at (x ∷ xs) (length (x ∷ xs) + 1))) past;
      before = before;
    };
    whole = lone_is (x ∷ xs) (length (x ∷ xs)) past;
  },
  no_word,
  small_no_capital x small,
)
  where
    small : is_ascii_lowercase x ≡ true
    small = both_first (is_ascii_lowercase x) (goes_on false xs) i

    past : octet_at (x ∷ xs) (length (x ∷ xs)) ≡ 0
    past = get_or_past (x ∷ xs) (length (x ∷ xs)) 0 (omega arith)

    goes : (k : ℕ) → k < length xs → stops (octet_at xs k) (octet_at xs (suc k)) ≡ false
    goes = going false xs (both_second (is_ascii_lowercase x) (goes_on false xs) i)

    before : (k : ℕ) → 1 ≤ k → k < length (x ∷ xs) → stops_name (x ∷ xs) k ≡ false
    before zero ge lt = absurd (omega (arith, ge))
    before (suc k) ge lt =
        let n : suc k + 1 ≡ suc (suc k) = omega arith in
        stops_is (x ∷ xs) (suc k) ∙ ap (λ m. stops (octet_at xs k) (octet_at (x ∷ xs) m)) n
        ∙ goes k (omega (arith, lt))

    no_word : (w : Word) → spelling w ≡ slice_range (x ∷ xs) 0 (length (x ∷ xs)) → ⊥
    no_word w e =
        let f : spelling w ≡ x ∷ xs = e ∙ whole_slice (x ∷ xs) in
        not_both (is_ascii_uppercase x) (sym (ap (λ l. is_ascii_uppercase (octet_at l 0)) f) ∙ capital w) (small_no_capital x small)
