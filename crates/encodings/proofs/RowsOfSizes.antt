-- Worked rows: identifier and length octets at the edges of their forms, and the greatest numbers in seven bits an
-- octet.
use Rattle.std.proofs.Common.{arith, lit<, ◌≡◌, ℕ, zero, suc, ◌+◌, ◌*◌, ◌/◌, ◌%◌, ◌<◌, ◌≤◌, true, false, cond, List, [], ◌∷◌, ◌++◌, length, map, refl, ap, ◌∙◌, length-append}
use Rattle.std.proofs.lemmas.Int.Digits.{digits_of_step}
use Rattle.std.specs.Prelude.{flat_map, nat_lt}
use Rattle.std.specs.Int.Digits.{digits_of, AllBelowBase}
use Rattle.asn_base.specs.declared.tag.Class.TheVariants.{Universal, Application, Context, Private}
use Rattle.encodings.specs.Header.{septets, identifier, LengthOf, short, long, LongForm}
use Rattle.encodings.specs.Fewest.{shortest_size}
use Rattle.encodings.specs.Contents.{joined}

-- ---- identifiers: [APPLICATION 30] is 5E, [APPLICATION 31] is 5F1F, [127] is 9F7F, [128] is 9F8100 and constructed
-- BF8100

number_30 : identifier Application 30 false ≡ 94 ∷ []
unfolding identifier
number_30 = refl

number_31 : identifier Application 31 false ≡ 95 ∷ 31 ∷ []
unfolding identifier
number_31 = refl

number_127 : identifier Context 127 false ≡ 159 ∷ 127 ∷ []
unfolding identifier
number_127 = refl

number_128 : identifier Context 128 false ≡ 159 ∷ 129 ∷ 0 ∷ []
unfolding identifier
number_128 = refl

constructed_128 : identifier Context 128 true ≡ 191 ∷ 129 ∷ 0 ∷ []
unfolding identifier
constructed_128 = refl

constructed_sequence : identifier Universal 16 true ≡ 48 ∷ []
unfolding identifier
constructed_sequence = refl

-- ---- digits of great numbers, one at a time

more : (b m n : ℕ) (ds : List ℕ) → 2 ≤ b → 0 < n → n / b ≡ m → digits_of b m ≡ ds → digits_of b n ≡ ds ++ (n % b) ∷ []
more b m n ds h k e f = digits_of_step b n h k ∙ ap (λ q. digits_of b q ++ (n % b) ∷ []) e ∙ ap (λ q. q ++ (n % b) ∷ []) f

sized : (n : ℕ) (ds : List ℕ) → nat_lt n 128 ≡ false → digits_of 256 n ≡ ds → shortest_size n ≡ (128 + length ds) ∷ ds
sized n ds e f = ap (λ q. cond q (n ∷ []) ((128 + length (digits_of 256 n)) ∷ digits_of 256 n)) e ∙ ap (λ q. (128 + length q) ∷ q) f

in_septets : (n m : ℕ) (ds : List ℕ) → n / 128 ≡ m → digits_of 128 m ≡ ds → septets n ≡ map (λ d. 128 + d) ds ++ (n % 128) ∷ []
in_septets n m ds e f = ap (λ q. map (λ d. 128 + d) (digits_of 128 q) ++ (n % 128) ∷ []) e ∙ ap (λ q. map (λ d. 128 + d) q ++ (n % 128) ∷ []) f

great_identifier : (number : ℕ) (ds : List ℕ) → nat_lt number 31 ≡ false → septets number ≡ ds → identifier Private number true ≡ 255 ∷ ds
unfolding identifier
great_identifier number ds e f = ap (λ q. cond q ((192 + 32 + number) ∷ []) ((192 + 32 + 31) ∷ septets number)) e ∙ ap (λ q. 255 ∷ q) f

-- the greatest number of a tag, private and constructed: FF87FFFFFF7F
greatest_tag_digits : digits_of 128 16777215 ≡ 7 ∷ 127 ∷ 127 ∷ 127 ∷ []
greatest_tag_digits = more 128 131071 16777215 (7 ∷ 127 ∷ 127 ∷ []) (lit< tt) (lit< tt) refl (more 128 1023 131071 (7 ∷ 127 ∷ []) (lit< tt) (lit< tt) refl refl)

greatest_tag : identifier Private 2147483647 true ≡ 255 ∷ 135 ∷ 255 ∷ 255 ∷ 255 ∷ 127 ∷ []
greatest_tag = great_identifier 2147483647 (135 ∷ 255 ∷ 255 ∷ 255 ∷ 127 ∷ []) refl (in_septets 2147483647 16777215 (7 ∷ 127 ∷ 127 ∷ 127 ∷ []) refl greatest_tag_digits)

-- ---- lengths: 0, 127, 128, 255, 256, and about 16,777,216

size_0 : shortest_size 0 ≡ 0 ∷ []
size_0 = refl

size_127 : shortest_size 127 ≡ 127 ∷ []
size_127 = refl

size_128 : shortest_size 128 ≡ 129 ∷ 128 ∷ []
size_128 = refl

size_255 : shortest_size 255 ≡ 129 ∷ 255 ∷ []
size_255 = refl

size_256 : shortest_size 256 ≡ 130 ∷ 1 ∷ 0 ∷ []
size_256 = refl

size_16777215 : shortest_size 16777215 ≡ 131 ∷ 255 ∷ 255 ∷ 255 ∷ []
size_16777215 = sized 16777215 (255 ∷ 255 ∷ 255 ∷ []) refl (more 256 65535 16777215 (255 ∷ 255 ∷ []) (lit< tt) (lit< tt) refl (more 256 255 65535 (255 ∷ []) (lit< tt) (lit< tt) refl refl))

digits_65536 : digits_of 256 65536 ≡ 1 ∷ 0 ∷ 0 ∷ []
digits_65536 = more 256 256 65536 (1 ∷ 0 ∷ []) (lit< tt) (lit< tt) refl refl

size_16777216 : shortest_size 16777216 ≡ 132 ∷ 1 ∷ 0 ∷ 0 ∷ 0 ∷ []
size_16777216 = sized 16777216 (1 ∷ 0 ∷ 0 ∷ 0 ∷ []) refl (more 256 65536 16777216 (1 ∷ 0 ∷ 0 ∷ []) (lit< tt) (lit< tt) refl digits_65536)

size_16777217 : shortest_size 16777217 ≡ 132 ∷ 1 ∷ 0 ∷ 0 ∷ 1 ∷ []
size_16777217 = sized 16777217 (1 ∷ 0 ∷ 0 ∷ 1 ∷ []) refl (more 256 65536 16777217 (1 ∷ 0 ∷ 0 ∷ []) (lit< tt) (lit< tt) refl digits_65536)

-- 127 in the short form and in the long one; 128 not in the short one
short_127 : LengthOf 127 (127 ∷ [])
short_127 = short (lit< tt)

long_127 : LengthOf 127 (129 ∷ 127 ∷ [])
long_127 = long {ds = 127 ∷ []} (record { some = lit< tt; at_most = lit< tt; octets = (lit< tt, tt); worth = refl })

-- 126 octets of length, leading zeros among them, and not 127
abbrev zeros : ℕ → List ℕ
zeros zero = []
zeros (suc n) = 0 ∷ zeros n

zeros_long : (n : ℕ) → length (zeros n) ≡ n
zeros_long zero = refl
zeros_long (suc n) = ap suc (zeros_long n)

zeros_small : (n : ℕ) → AllBelowBase 256 (zeros n)
zeros_small zero = tt
zeros_small (suc n) = (lit< tt, zeros_small n)

octets_126 : LengthOf 0 (254 ∷ zeros 126)
octets_126 = long {ds = zeros 126} (record { some = lit< tt; at_most = lit< tt; octets = zeros_small 126; worth = refl })

no_octets_127 : (n : ℕ) → LongForm n (zeros 127) → ⊥
no_octets_127 n f = let m = f.at_most in omega (arith, m, zeros_long 127)

no_octet_of_length : (n : ℕ) → LongForm n [] → ⊥
no_octet_of_length n f = let m = f.some in omega arith

no_octet_256 : (n : ℕ) → LongForm n (256 ∷ []) → ⊥
no_octet_256 n f = let m = f.octets.0 in omega arith

other_worth : LongForm 6 (5 ∷ []) → ⊥
other_worth f = let m = f.worth in omega arith

-- ---- seven bits an octet

septets_127 : septets 127 ≡ 127 ∷ []
septets_127 = refl

septets_128 : septets 128 ≡ 129 ∷ 0 ∷ []
septets_128 = refl

sevens_2 : digits_of 128 255 ≡ 1 ∷ 127 ∷ []
sevens_2 = more 128 1 255 (1 ∷ []) (lit< tt) (lit< tt) refl refl

sevens_3 : digits_of 128 32767 ≡ 1 ∷ 127 ∷ 127 ∷ []
sevens_3 = more 128 255 32767 (1 ∷ 127 ∷ []) (lit< tt) (lit< tt) refl sevens_2

sevens_4 : digits_of 128 4194303 ≡ 1 ∷ 127 ∷ 127 ∷ 127 ∷ []
sevens_4 = more 128 32767 4194303 (1 ∷ 127 ∷ 127 ∷ []) (lit< tt) (lit< tt) refl sevens_3

sevens_5 : digits_of 128 536870911 ≡ 1 ∷ 127 ∷ 127 ∷ 127 ∷ 127 ∷ []
sevens_5 = more 128 4194303 536870911 (1 ∷ 127 ∷ 127 ∷ 127 ∷ []) (lit< tt) (lit< tt) refl sevens_4

sevens_6 : digits_of 128 68719476735 ≡ 1 ∷ 127 ∷ 127 ∷ 127 ∷ 127 ∷ 127 ∷ []
sevens_6 = more 128 536870911 68719476735 (1 ∷ 127 ∷ 127 ∷ 127 ∷ 127 ∷ []) (lit< tt) (lit< tt) refl sevens_5

sevens_7 : digits_of 128 8796093022207 ≡ 1 ∷ 127 ∷ 127 ∷ 127 ∷ 127 ∷ 127 ∷ 127 ∷ []
sevens_7 = more 128 68719476735 8796093022207 (1 ∷ 127 ∷ 127 ∷ 127 ∷ 127 ∷ 127 ∷ []) (lit< tt) (lit< tt) refl sevens_6

sevens_8 : digits_of 128 1125899906842623 ≡ 1 ∷ 127 ∷ 127 ∷ 127 ∷ 127 ∷ 127 ∷ 127 ∷ 127 ∷ []
sevens_8 = more 128 8796093022207 1125899906842623 (1 ∷ 127 ∷ 127 ∷ 127 ∷ 127 ∷ 127 ∷ 127 ∷ []) (lit< tt) (lit< tt) refl sevens_7

sevens_9 : digits_of 128 144115188075855871 ≡ 1 ∷ 127 ∷ 127 ∷ 127 ∷ 127 ∷ 127 ∷ 127 ∷ 127 ∷ 127 ∷ []
sevens_9 = more 128 1125899906842623 144115188075855871 (1 ∷ 127 ∷ 127 ∷ 127 ∷ 127 ∷ 127 ∷ 127 ∷ 127 ∷ []) (lit< tt) (lit< tt) refl sevens_8

-- 2^64 - 1 is 81FFFFFFFFFFFFFFFF7F
pub greatest_number : septets 18446744073709551615 ≡ 129 ∷ 255 ∷ 255 ∷ 255 ∷ 255 ∷ 255 ∷ 255 ∷ 255 ∷ 255 ∷ 127 ∷ []
greatest_number = in_septets 18446744073709551615 144115188075855871 (1 ∷ 127 ∷ 127 ∷ 127 ∷ 127 ∷ 127 ∷ 127 ∷ 127 ∷ 127 ∷ []) refl sevens_9

two_and_2 : digits_of 128 256 ≡ 2 ∷ 0 ∷ []
two_and_2 = more 128 2 256 (2 ∷ []) (lit< tt) (lit< tt) refl refl

two_and_3 : digits_of 128 32768 ≡ 2 ∷ 0 ∷ 0 ∷ []
two_and_3 = more 128 256 32768 (2 ∷ 0 ∷ []) (lit< tt) (lit< tt) refl two_and_2

two_and_4 : digits_of 128 4194304 ≡ 2 ∷ 0 ∷ 0 ∷ 0 ∷ []
two_and_4 = more 128 32768 4194304 (2 ∷ 0 ∷ 0 ∷ []) (lit< tt) (lit< tt) refl two_and_3

two_and_5 : digits_of 128 536870912 ≡ 2 ∷ 0 ∷ 0 ∷ 0 ∷ 0 ∷ []
two_and_5 = more 128 4194304 536870912 (2 ∷ 0 ∷ 0 ∷ 0 ∷ []) (lit< tt) (lit< tt) refl two_and_4

two_and_6 : digits_of 128 68719476736 ≡ 2 ∷ 0 ∷ 0 ∷ 0 ∷ 0 ∷ 0 ∷ []
two_and_6 = more 128 536870912 68719476736 (2 ∷ 0 ∷ 0 ∷ 0 ∷ 0 ∷ []) (lit< tt) (lit< tt) refl two_and_5

two_and_7 : digits_of 128 8796093022208 ≡ 2 ∷ 0 ∷ 0 ∷ 0 ∷ 0 ∷ 0 ∷ 0 ∷ []
two_and_7 = more 128 68719476736 8796093022208 (2 ∷ 0 ∷ 0 ∷ 0 ∷ 0 ∷ 0 ∷ []) (lit< tt) (lit< tt) refl two_and_6

two_and_8 : digits_of 128 1125899906842624 ≡ 2 ∷ 0 ∷ 0 ∷ 0 ∷ 0 ∷ 0 ∷ 0 ∷ 0 ∷ []
two_and_8 = more 128 8796093022208 1125899906842624 (2 ∷ 0 ∷ 0 ∷ 0 ∷ 0 ∷ 0 ∷ 0 ∷ []) (lit< tt) (lit< tt) refl two_and_7

two_and_9 : digits_of 128 144115188075855872 ≡ 2 ∷ 0 ∷ 0 ∷ 0 ∷ 0 ∷ 0 ∷ 0 ∷ 0 ∷ 0 ∷ []
two_and_9 = more 128 1125899906842624 144115188075855872 (2 ∷ 0 ∷ 0 ∷ 0 ∷ 0 ∷ 0 ∷ 0 ∷ 0 ∷ []) (lit< tt) (lit< tt) refl two_and_8

-- {2 18446744073709551615} begins with 18446744073709551695, 8280808080808080804F; {0 39} is 27, {1 39} is 4F and {2 0}
-- 50
greatest_arcs : septets 18446744073709551695 ≡ 130 ∷ 128 ∷ 128 ∷ 128 ∷ 128 ∷ 128 ∷ 128 ∷ 128 ∷ 128 ∷ 79 ∷ []
greatest_arcs = in_septets 18446744073709551695 144115188075855872 (2 ∷ 0 ∷ 0 ∷ 0 ∷ 0 ∷ 0 ∷ 0 ∷ 0 ∷ 0 ∷ []) refl two_and_9

joined_greatest : joined (2 ∷ 18446744073709551615 ∷ []) ≡ 18446744073709551695 ∷ []
joined_greatest = refl

arcs_0_39 : flat_map septets (joined (0 ∷ 39 ∷ [])) ≡ 39 ∷ []
arcs_0_39 = refl

arcs_1_39 : flat_map septets (joined (1 ∷ 39 ∷ [])) ≡ 79 ∷ []
arcs_1_39 = refl

arcs_2_0 : flat_map septets (joined (2 ∷ 0 ∷ [])) ≡ 80 ∷ []
arcs_2_0 = refl

-- the greatest RELATIVE-OID, 64 such numbers, has 640 octets; the greatest OBJECT IDENTIFIER, in which two are one, has
-- 630
abbrev times : ℕ → ℕ → List ℕ
times x zero = []
times x (suc n) = x ∷ times x n

times_long : (x : ℕ) → length (septets x) ≡ 10 → (n : ℕ) → length (flat_map septets (times x n)) ≡ 10 * n
times_long x e zero = omega arith
times_long x e (suc n) = omega (arith, times_long x e n, e, length-append (septets x) (flat_map septets (times x n)))

greatest_relative_oid : (x : ℕ) → septets x ≡ 129 ∷ 255 ∷ 255 ∷ 255 ∷ 255 ∷ 255 ∷ 255 ∷ 255 ∷ 255 ∷ 127 ∷ [] → length (flat_map septets (times x 64)) ≡ 640
greatest_relative_oid x e = times_long x (ap length e) 64

greatest_oid : (x y : ℕ) → length (septets y) ≡ 10 → length (septets x) ≡ 10 → length (flat_map septets (y ∷ times x 62)) ≡ 630
greatest_oid x y e f = omega (arith, times_long x f 62, e, length-append (septets y) (flat_map septets (times x 62)))
