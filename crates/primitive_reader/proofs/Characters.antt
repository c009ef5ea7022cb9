-- Characters of the restricted strings have codes below 128, so that strings of them are UTF-8.
use Rattle.std.proofs.Common.{arith, ◌≡◌, ℕ, zero, suc, ◌<◌, Bool, true, false, List, [], ◌∷◌, refl, get_or}
use Rattle.std.specs.Prelude.{IsTrue, IsUtf8, ◌||◌, ◌&&◌, nat_le}
use Rattle.std.specs.List.{AllByRecursion}
use Rattle.std.specs.Int.{is_in_range}
use Rattle.std.proofs.lemmas.Bool.{eqb-true, ltb-true, leb-true}
use Rattle.std.proofs.lemmas.Str.{IsUtf8-from_ascii}
use Rattle.asn_base.specs.declared.strings.StringKind.{StringKind}
use Rattle.asn_base.specs.declared.strings.StringKind.TheVariants.{Numeric, Printable, Ia5, Visible}
use Rattle.asn_base.specs.Schemas.{is_character}

either : (a b : Bool) {P : Type 0} → (a ≡ true → P) → (b ≡ true → P) → (a || b) ≡ true → P
either true b f g e = f refl
either false b f g e = g e

second : (a b : Bool) → (a && b) ≡ true → b ≡ true
second true b e = e
second false b e = absurd (cc)

in_range : (lo hi c : ℕ) → hi < 128 → is_in_range lo hi c ≡ true → c < 128
in_range lo hi c l e = let h = leb-true c hi (second (nat_le lo c) (nat_le c hi) e) in omega (arith, h, l)

is_one : (n c : ℕ) → n < 128 → (c ≡ n) → c < 128
is_one n c l e = omega (arith, l, e)

pub character_low : (k : StringKind) (c : ℕ) → IsTrue (is_character k c) → c < 128
character_low Numeric c t = either _ _ (in_range 48 57 c (omega arith)) (λ e. is_one 32 c (omega arith) (eqb-true c 32 e)) t
character_low Printable c t =
    let one : (n : ℕ) → n < 128 → Rattle.std.specs.Prelude.nat_eq c n ≡ true → c < 128 = λ n l e. is_one n c l (eqb-true c n e) in
    either _ _ (either _ _ (either _ _ (either _ _ (either _ _ (either _ _ (either _ _ (either _ _ (either _ _ (either _ _ (either _ _ (either _ _ alphanumeric
    (one 32 (omega arith))) (one 39 (omega arith))) (one 40 (omega arith))) (one 41 (omega arith))) (one 43 (omega arith))) (one 44 (omega arith))) (one 45 (omega arith)))
    (one 46 (omega arith))) (one 47 (omega arith))) (one 58 (omega arith))) (one 61 (omega arith))) (one 63 (omega arith)) t
  where
    alphanumeric : Rattle.std.specs.Char.is_ascii_alphanumeric c ≡ true → c < 128
    alphanumeric = either _ _ (either _ _ (in_range 48 57 c (omega arith)) (in_range 65 90 c (omega arith))) (in_range 97 122 c (omega arith))
character_low Ia5 c t = ltb-true c 128 t
character_low Visible c t = either _ _ (in_range 33 126 c (omega arith)) (λ e. is_one 32 c (omega arith) (eqb-true c 32 e)) t

all_low : (k : StringKind) (o : List ℕ) → AllByRecursion (λ c. IsTrue (is_character k c)) o → (i : ℕ) → get_or o i 0 < 128
all_low k [] a i = omega arith
all_low k (c ∷ o) a zero = character_low k c a.0
all_low k (c ∷ o) a (suc i) = all_low k o a.1 i

pub are_utf8 : (k : StringKind) (o : List ℕ) → AllByRecursion (λ c. IsTrue (is_character k c)) o → IsUtf8 o
are_utf8 k o a = IsUtf8-from_ascii o (all_low k o a)
