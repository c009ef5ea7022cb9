-- Octets of a number in two's complement, and of one without a sign: the shortest ones (X.691, 11.3 and 11.4).
use Rattle.std.proofs.Common.{arith, ◌≡◌, ℕ, ℤ, suc, ◌-◌, ◌*◌, ◌<◌, ◌≤◌, ◌^◌, pos, negsuc, Bool, true, false, List, [], ◌∷◌, length, map, refl, sym, ap, subst, ◌∙◌, ⊎_elim, to_z, of_z}
use mir.Syntax.{w128}
use Rattle.std.proofs.lemmas.Int.{ints}
use Rattle.std.specs.Prelude.{nat_lt, if◌then◌else◌, ◌==◌, ◌&&◌, ◌||◌, not}
use Rattle.std.proofs.lemmas.Bool.{cases_lt, lt-ltb, le-ltb, ltb-true, ltb-false, eq-eqb, eqb-true, eqb-false, false_from_ne_true}
use Rattle.std.proofs.Math.Nat.{mul-le-mul_left, pow-le-pow_right}
use Rattle.std.specs.Int.Digits.{number_from_digits, number_from_digits_after, AllBelowBase}
use Rattle.std.proofs.lemmas.Int.Digits.{number_lt}
use Rattle.asn_base.specs.Abstract.{integer}
use Rattle.asn_base.specs.Typed.{IsWithinLimit}
use Rattle.asn_base.specs.Types.{any_number, an_integer}
use Rattle.encodings.specs.Contents.{Contents, TwosComplement, Number, of_integer}
use Rattle.encodings.specs.Rules.{Basic}
use Rattle.encodings.specs.declared.leaf_kind.LeafKind.TheVariants.{Integer}
use Rattle.encodings.specs.proving.TwosComplement.{first_part, without_zero, without_ones, all_octets, some_there}
use Rattle.packed_encodings.specs.Numbers.{Unsigned, FewestUnsigned}
use Rattle.decode_faults.specs.declared.refusal.Refusal.TheVariants as why
use Rattle.primitive_reader.specs.declared.fault.LeafFault.{LeafFault}
use Rattle.primitive_reader.specs.declared.fault.LeafFault.TheVariants as leaf_faults
use Rattle.primitive_reader.specs.declared.leaf.Leaf.{Leaf}
use Rattle.primitive_reader.specs.declared.leaf.Leaf.TheVariants.{Int}
use Rattle.primitive_reader.specs.Leaves.{IsReadAs, ReadsContents}
use Rattle.primitive_reader.specs.Refused.{IsRightFault, without_form, integer_past}
use Rattle.primitive_reader.specs.proving.Numbers.{IsShort}
use Rattle.primitive_reader.specs.proving.Shortest.{low_number, high_number, one_worth}
use Rattle.packed_readings.specs.Outcome.{good, bad}
use Rattle.packed_readings.specs.Leaves.{is_within_limit, signed_worth, signed_number, unsigned_number}
use Rattle.packed_readings.specs.proving.Numbers.{HasZeroFirst, limited}
use Rattle.packed_readings.proofs.Fields.{if_true, if_false}
use Rattle.packed_readings.proofs.Ranges.{bool_cases}
use Rattle.packed_readings.proofs.Sizes.{good_is, not_good}

-- ---- what short octets are worth

worth_number : (o : List ℕ) → AllBelowBase 256 o → IsShort o → Number (signed_worth o) o
worth_number [] b s = absurd s
worth_number (x ∷ o) b s = by (nat_lt x 128) refl
  where
    by : (t : Bool) → nat_lt x 128 ≡ t → Number (if t then pos (number_from_digits 256 (x ∷ o)) else negsuc (number_from_digits 256 (map (λ d. 255 - d) (x ∷ o)))) (x ∷ o)
    by true e = low_number (x ∷ o) b s (ltb-true x 128 e)
    by false e = high_number (x ∷ o) b s (ltb-false x 128 e)

abbrev is_padded : ℕ → ℕ → Bool
is_padded x y = ((x == 0) && nat_lt y 128) || ((x == 255) && not (nat_lt y 128))

short_is : (x y : ℕ) (o : List ℕ) → is_padded x y ≡ false → IsShort (x ∷ y ∷ o)
short_is x y o e = (zero_case, ones_case)
  where
    zero_case : x ≡ 0 → 128 ≤ y
    zero_case f = ⊎_elim (λ l. absurd (none (x == 0) (nat_lt y 128) ((x == 255) && not (nat_lt y 128)) (eq-eqb x 0 f) (lt-ltb y 128 l) e)) (λ g. g) (cases_lt y 128)
      where
        none : (a b c : Bool) → a ≡ true → b ≡ true → ((a && b) || c) ≡ false → ⊥
        none true true c f g h = cc
        none true false c f g h = cc
        none false b c f g h = cc

    ones_case : x ≡ 255 → y < 128
    ones_case f = ⊎_elim (λ l. l) (λ g. absurd (none ((x == 0) && nat_lt y 128) (x == 255) (nat_lt y 128) (eq-eqb x 255 f) (le-ltb y 128 g) e)) (cases_lt y 128)
      where
        none : (a b c : Bool) → b ≡ true → c ≡ false → (a || (b && not c)) ≡ false → ⊥
        none true b c f g h = cc
        none false true true f g h = cc
        none false true false f g h = cc
        none false false c f g h = cc

is_short : (x y : ℕ) (o : List ℕ) → IsShort (x ∷ y ∷ o) → is_padded x y ≡ false
is_short x y o s = by (x == 0) refl (x == 255) refl (nat_lt y 128) refl
  where
    by : (a : Bool) → (x == 0) ≡ a → (b : Bool) → (x == 255) ≡ b → (c : Bool) → nat_lt y 128 ≡ c → ((a && c) || (b && not c)) ≡ false
    by true e b f true g = absurd (let l = ltb-true y 128 g in let k = s.0 (eqb-true x 0 e) in omega (arith, l, k))
    by true e true f false g = absurd (let k = eqb-true x 0 e in let m = eqb-true x 255 f in omega (arith, k, m))
    by true e false f false g = refl
    by false e true f true g = refl
    by false e true f false g = absurd (let l = ltb-false y 128 g in let k = s.1 (eqb-true x 255 f) in omega (arith, l, k))
    by false e false f true g = refl
    by false e false f false g = refl

short_number : {z : ℤ} (o : List ℕ) → Number z o → IsShort o
short_number [] n = absurd (let l = some_there n.is in omega (arith, l))
short_number (x ∷ []) n = tt
short_number {z} (x ∷ y ∷ o) n = (zero_first, ones_first)
  where
    shorter : TwosComplement z (y ∷ o) → ⊥
    shorter t = let l = n.shortest (y ∷ o) t in omega (arith, l)

    zero_first : x ≡ 0 → 128 ≤ y
    zero_first e = ⊎_elim (λ l. absurd (shorter (without_zero (subst (λ q. TwosComplement z (q ∷ y ∷ o)) e n.is) l))) (λ g. g) (cases_lt y 128)

    ones_first : x ≡ 255 → y < 128
    ones_first e = ⊎_elim (λ l. l) (λ g. absurd (shorter (without_ones (subst (λ q. TwosComplement z (q ∷ y ∷ o)) e n.is) g))) (cases_lt y 128)

pub signed_is : (o : List ℕ) (z : ℤ) → AllBelowBase 256 o → signed_number o ≡ good z → Number z o
signed_is [] z b e = absurd (not_good e)
signed_is (x ∷ []) z b e = subst (λ q. Number q (x ∷ [])) (good_is e) (worth_number (x ∷ []) b tt)
signed_is (x ∷ y ∷ o) z b e = by (is_padded x y) refl e
  where
    by : (t : Bool) → is_padded x y ≡ t → (if t then bad why.NotCanonical else good (signed_worth (x ∷ y ∷ o))) ≡ good z → Number z (x ∷ y ∷ o)
    by true f e = absurd (not_good e)
    by false f e = subst (λ q. Number q (x ∷ y ∷ o)) (good_is e) (worth_number (x ∷ y ∷ o) b (short_is x y o f))

pub is_signed : (o : List ℕ) (z : ℤ) → Number z o → signed_number o ≡ good z
is_signed o z n = by o n (short_number o n) (worth_number o (all_octets n.is) (short_number o n))
  where
    by : (o : List ℕ) → Number z o → IsShort o → Number (signed_worth o) o → signed_number o ≡ good z
    by [] n s w = absurd s
    by (x ∷ []) n s w = ap good (one_worth w.is n.is)
    by (x ∷ y ∷ o) n s w = if_false (is_padded x y) (bad why.NotCanonical) (good (signed_worth (x ∷ y ∷ o))) (is_short x y o s) ∙ ap good (one_worth w.is n.is)

-- ---- without a sign

at_least : (x : ℕ) (xs : List ℕ) → 1 ≤ x → 256 ^ length xs ≤ number_from_digits 256 (x ∷ xs)
at_least x xs l = let more = mul-le-mul_left (256 ^ length xs) l in omega (arith, first_part x xs, more)

fewest : (x y : ℕ) (o : List ℕ) → AllBelowBase 256 (x ∷ y ∷ o) → 1 ≤ x → FewestUnsigned (number_from_digits 256 (x ∷ y ∷ o)) (x ∷ y ∷ o)
fewest x y o b l = record {
  is = record { some = omega arith; octets = b; worth = refl };
  fewest = λ p u. ⊎_elim (λ h. absurd (too_few p u h)) (λ h. h) (cases_lt (length p) (suc (suc (length o))));
}
  where
    too_few : (p : List ℕ) → Unsigned (number_from_digits 256 (x ∷ y ∷ o)) p → length p < suc (suc (length o)) → ⊥
    too_few p u h =
        let a = number_lt 256 p u.octets in
        let w = u.worth in
        let m : 256 ^ length p ≤ 256 ^ suc (length o) = pow-le-pow_right (omega arith) (let k : length p ≤ suc (length o) = omega (arith, h) in k) in
        let g = at_least x (y ∷ o) l in
        omega (arith, a, w, m, g)

pub unsigned_is : (o : List ℕ) (n : ℕ) → AllBelowBase 256 o → unsigned_number o ≡ good n → FewestUnsigned n o
unsigned_is [] n b e = absurd (not_good e)
unsigned_is (x ∷ []) n b e = record {
  is = record { some = omega arith; octets = b; worth = (let g : x ≡ n = good_is e in omega (arith, g)) };
  fewest = λ p u. u.some;
}
unsigned_is (x ∷ y ∷ o) n b e = by (x == 0) refl e
  where
    by : (t : Bool) → (x == 0) ≡ t → (if t then bad why.NotCanonical else good (number_from_digits 256 (x ∷ y ∷ o))) ≡ good n → FewestUnsigned n (x ∷ y ∷ o)
    by true f e = absurd (not_good e)
    by false f e = subst (λ q. FewestUnsigned q (x ∷ y ∷ o)) (good_is e) (fewest x y o b (⊎_elim (λ l. absurd (eqb-false x 0 f (omega (arith, l)))) (λ l. l) (cases_lt x 1)))

pub is_unsigned : (o : List ℕ) (n : ℕ) → FewestUnsigned n o → unsigned_number o ≡ good n
is_unsigned [] n u = absurd (let l = u.is.some in omega (arith, l))
is_unsigned (x ∷ []) n u = ap good (let w = u.is.worth in omega (arith, w))
is_unsigned (x ∷ y ∷ o) n u = by (x == 0) refl
  where
    by : (t : Bool) → (x == 0) ≡ t → (if t then bad why.NotCanonical else good (number_from_digits 256 (x ∷ y ∷ o))) ≡ good n
    by false f = ap good u.is.worth
    by true f = absurd (let l = u.fewest (y ∷ o) (record { some = omega arith; octets = u.is.octets.1; worth = shorter }) in omega (arith, l))
      where
        shorter : number_from_digits 256 (y ∷ o) ≡ n
        shorter = let w = u.is.worth in let z = eqb-true x 0 f in omega (arith, first_part x (y ∷ o), w, ap (λ q. q * 256 ^ length (y ∷ o)) z)

-- ---- as calls judge them

pub limit_is : (z : ℤ) → is_within_limit z ≡ true → IsWithinLimit z
limit_is (pos n) e = ltb-true n (2 ^ 127) e
limit_is (negsuc n) e = ltb-true n (2 ^ 127) e

pub limit_true : (z : ℤ) → IsWithinLimit z → is_within_limit z ≡ true
limit_true (pos n) l = lt-ltb n (2 ^ 127) l
limit_true (negsuc n) l = lt-ltb n (2 ^ 127) l

number_of : {z : ℤ} {x : List ℕ} → Contents Basic (an_integer any_number) (integer z) false x → Number z x
number_of (of_integer n) = n

pub signed_none : (o : List ℕ) → length o ≡ 0 → limited (signed_number o) ≡ bad why.Outside
signed_none [] e = refl
signed_none (x ∷ o) e = absurd (omega (arith, e))

pub signed_good : {l : Leaf} (o : List ℕ) (z : ℤ) → l ≡ Int z → ReadsContents Integer o l
    → limited (signed_number o) ≡ good (to_z w128 (of_z w128 z))
signed_good o z is found =
    let r = subst (λ q. ReadsContents Integer o q) is found in
    let h = subst (λ q. IsReadAs Integer q o) r.means r.is_read in
    subst (λ q. limited (signed_number o) ≡ good q) (sym (same z h.suits))
    (ap limited (is_signed o z (number_of h.contents)) ∙ if_true (is_within_limit z) (good z) (bad why.IntegerLimit) (limit_true z h.suits))
  where
    same : (z : ℤ) → IsWithinLimit z → to_z w128 (of_z w128 z) ≡ z
    same (pos n) l = omega (arith, ints)
    same (negsuc n) l = omega (arith, ints)

signed_padded : (o : List ℕ) → (length o ≡ 0 → ⊥) → AllBelowBase 256 o → IsRightFault leaf_faults.BadContents Integer o → limited (signed_number o) ≡ bad why.NotCanonical
signed_padded [] some b f = absurd (some refl)
signed_padded (x ∷ []) some b (without_form h) = absurd (h (signed_worth (x ∷ []), worth_number (x ∷ []) b tt))
signed_padded (x ∷ y ∷ o) some b (without_form h) = ⊎_elim
    (λ e. ap limited (if_true (is_padded x y) (bad why.NotCanonical) (good (signed_worth (x ∷ y ∷ o))) e))
    (λ e. absurd (h (signed_worth (x ∷ y ∷ o), worth_number (x ∷ y ∷ o) b (short_is x y o e))))
    (bool_cases (is_padded x y))

pub signed_long : {f : LeafFault} (o : List ℕ) → (length o ≡ 0 → ⊥) → AllBelowBase 256 o → f ≡ leaf_faults.BadContents
    → IsRightFault f Integer o → limited (signed_number o) ≡ bad why.NotCanonical
signed_long o some b is f = signed_padded o some b (subst (λ q. IsRightFault q Integer o) is f)

past_limit : (o : List ℕ) → IsRightFault leaf_faults.IntegerLimit Integer o → limited (signed_number o) ≡ bad why.IntegerLimit
past_limit o (integer_past {z = z} n h) =
    ap limited (is_signed o z n) ∙ if_false (is_within_limit z) (good z) (bad why.IntegerLimit) (false_from_ne_true (is_within_limit z) (λ e. h (limit_is z e)))

pub signed_past : {f : LeafFault} (o : List ℕ) → f ≡ leaf_faults.IntegerLimit → IsRightFault f Integer o
    → limited (signed_number o) ≡ bad why.IntegerLimit
signed_past o is f = past_limit o (subst (λ q. IsRightFault q Integer o) is f)

pub unsigned_none : (o : List ℕ) → length o ≡ 0 → unsigned_number o ≡ bad why.Outside
unsigned_none [] e = refl
unsigned_none (x ∷ o) e = absurd (omega (arith, e))

pub unsigned_zero : (o : List ℕ) → HasZeroFirst o → unsigned_number o ≡ bad why.NotCanonical
unsigned_zero [] e = absurd e
unsigned_zero (x ∷ []) e = absurd e
unsigned_zero (x ∷ y ∷ o) e = if_true (x == 0) (bad why.NotCanonical) (good (number_from_digits 256 (x ∷ y ∷ o))) (eq-eqb x 0 e)

pub unsigned_good : (o : List ℕ) (n : ℕ) → (length o ≡ 0 → ⊥) → (HasZeroFirst o → ⊥) → n ≡ number_from_digits_after 256 0 o → unsigned_number o ≡ good n
unsigned_good [] n s h e = absurd (s refl)
unsigned_good (x ∷ []) n s h e = ap good (omega (arith, e))
unsigned_good (x ∷ y ∷ o) n s h e = if_false (x == 0) (bad why.NotCanonical) (good (number_from_digits 256 (x ∷ y ∷ o))) (false_from_ne_true (x == 0) (λ f. h (eqb-true x 0 f))) ∙ ap good (sym e)

pub unsigned_past : (o : List ℕ) → (HasZeroFirst o → ⊥) → 17 ≤ length o → (n : ℕ) × (2 ^ 128 ≤ n) × (unsigned_number o ≡ good n)
unsigned_past o h l = (number_from_digits 256 o, large o h l, unsigned_good o (number_from_digits 256 o) (λ e. omega (arith, e, l)) h refl)
  where
    large : (o : List ℕ) → (HasZeroFirst o → ⊥) → 17 ≤ length o → 2 ^ 128 ≤ number_from_digits 256 o
    large [] h l = absurd (omega (arith, l))
    large (x ∷ []) h l = absurd (omega (arith, l))
    large (x ∷ y ∷ o) h l =
        let some : 1 ≤ x = ⊎_elim (λ z. absurd (h (omega (arith, z)))) (λ g. g) (cases_lt x 1) in
        let a = at_least x (y ∷ o) some in
        let m : 256 ^ 16 ≤ 256 ^ length (y ∷ o) = pow-le-pow_right (omega arith) (let k : 16 ≤ length (y ∷ o) = omega (arith, l) in k) in
        omega (arith, a, m)

pub never : false ≡ true → ⊥
never e = absurd (cc)
