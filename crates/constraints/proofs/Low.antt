-- Characters of the four restricted strings have codes below 128 (X.680, clause 41).
use Rattle.std.proofs.Common.{arith, ◌≡◌, ℕ, ◌<◌, Bool, true, false, refl}
use Rattle.std.specs.Prelude.{IsTrue, ◌||◌, ◌&&◌, nat_eq, nat_le}
use Rattle.std.specs.Char.{is_ascii_alphanumeric}
use Rattle.std.specs.Int.{is_in_range}
use Rattle.std.proofs.lemmas.Bool.{eqb-true, ltb-true, leb-true}
use Rattle.asn_base.specs.declared.strings.StringKind.{StringKind}
use Rattle.asn_base.specs.declared.strings.StringKind.TheVariants.{Numeric, Printable, Ia5, Visible}
use Rattle.asn_base.specs.Schemas.{is_character}

either : (a b : Bool) {P : Type 0} → (a ≡ true → P) → (b ≡ true → P) → (a || b) ≡ true → P
either true b f g e = f refl
either false b f g e = g e

second : (a b : Bool) → (a && b) ≡ true → b ≡ true
second true b e = e
second false b e = absurd (cc)

in_range : (lo hi c : ℕ) → hi < 128 → is_in_range lo hi c ≡ true → c < 128
in_range lo hi c l e = let h = leb-true c hi (second (nat_le lo c) (nat_le c hi) e) in omega (arith, h, l)

one : (c n : ℕ) → n < 128 → nat_eq c n ≡ true → c < 128
one c n l e = let q = eqb-true c n e in omega (arith, l, q)

pub character_low : (k : StringKind) (c : ℕ) → IsTrue (is_character k c) → c < 128
character_low Numeric c t = either _ _ (in_range 48 57 c (omega arith)) (one c 32 (omega arith)) t
character_low Printable c t =
    either _ _ (either _ _ (either _ _ (either _ _ (either _ _ (either _ _ (either _ _ (either _ _ (either _ _ (either _ _
    (either _ _ (either _ _ alphanumeric
    (one c 32 (omega arith))) (one c 39 (omega arith))) (one c 40 (omega arith))) (one c 41 (omega arith)))
    (one c 43 (omega arith))) (one c 44 (omega arith))) (one c 45 (omega arith))) (one c 46 (omega arith)))
    (one c 47 (omega arith))) (one c 58 (omega arith))) (one c 61 (omega arith))) (one c 63 (omega arith)) t
  where
    alphanumeric : is_ascii_alphanumeric c ≡ true → c < 128
    alphanumeric =
        either _ _ (either _ _ (in_range 48 57 c (omega arith)) (in_range 65 90 c (omega arith)))
        (in_range 97 122 c (omega arith))
character_low Ia5 c t = ltb-true c 128 t
character_low Visible c t = either _ _ (in_range 33 126 c (omega arith)) (one c 32 (omega arith)) t
