-- The bits of the characters of the string types.
use Rattle.std.proofs.Common.{inl, inr, ◌≡◌, ℕ, zero, suc, ◌<◌, arith, refl, sym, true, false, ◌∙◌, cond, not, subst}
use Rattle.std.specs.Prelude.{◌⊎◌, ◌↔◌, Bool, ◌==◌, ◌&&◌, IsTrue}
use Rattle.std.specs.Int.{bit_at}
use Rattle.asn_base.specs.declared.strings.StringKind.{StringKind}
use Rattle.asn_base.specs.declared.strings.StringKind.TheVariants.{Numeric, Printable, Ia5, Visible}
use Rattle.asn_base.specs.Names.{IsMember}
use Rattle.asn_base.specs.Schemas.{is_character}
use Rattle.ranges.specs.Codes.{codes_of}
use Rattle.ranges.proofs.Bits.{member_is, set_is, is_set}

abbrev same : Bool → Bool → Bool
same a b = cond a b (not b)

same_is : (a b : Bool) → same a b ≡ true → a ≡ b
same_is true true e = refl
same_is true false e = absurd (grind arith)
same_is false true e = absurd (grind arith)
same_is false false e = refl

-- below n the bits are those of the characters
abbrev agree : (n mask : ℕ) → StringKind → Bool
agree zero mask k = true
agree (suc n) mask k = same (bit_at mask n == 1) (is_character k n) && agree n mask k

both_true : (a b : Bool) → (a && b) ≡ true → (a ≡ true) × (b ≡ true)
both_true true b e = (refl, e)
both_true false b e = absurd (grind arith)

last_or_before : (c n : ℕ) → c < suc n → (c ≡ n) ⊎ (c < n)
last_or_before c n h = grind arith

agree_at : (n mask c : ℕ) (k : StringKind) → agree n mask k ≡ true → c < n → (bit_at mask c == 1) ≡ is_character k c
agree_at zero mask c k e h = absurd (omega arith)
agree_at (suc n) mask c k e h =
    let both = both_true (same (bit_at mask n == 1) (is_character k n)) (agree n mask k) e in
    elim (last_or_before c n h) [
      | inl f ↦ rw f (same_is (bit_at mask n == 1) (is_character k n) both.0)
      | inr l ↦ agree_at n mask c k both.1 l
    ]

pub by_mask : (mask : ℕ) (k : StringKind)
    → agree 128 mask k ≡ true
    → (c : ℕ)
    → c < 128
    → (bit_at mask c ≡ 1) ↔ IsTrue (is_character k c)
by_mask mask k e c h =
    let same = agree_at 128 mask c k e h in
    (λ s. sym same ∙ is_set (bit_at mask c) s, λ t. set_is (bit_at mask c) (same ∙ t))

pub listed_as : (mask : ℕ) (k j : StringKind)
    → k ≡ j
    → agree 128 mask j ≡ true
    → (c : ℕ)
    → c < 128
    → (bit_at mask c ≡ 1) ↔ IsTrue (is_character k c)
listed_as mask k j e a =
    subst (λ (x : StringKind). (c : ℕ) → c < 128 → (bit_at mask c ≡ 1) ↔ IsTrue (is_character x c)) (sym e) (by_mask mask j a)

numeric : (c : ℕ) → IsTrue (is_character Numeric c) → c < 128
numeric c t = grind arith

printable : (c : ℕ) → IsTrue (is_character Printable c) → c < 128
printable c t = grind arith

ia5 : (c : ℕ) → IsTrue (is_character Ia5 c) → c < 128
ia5 c t = grind arith

visible : (c : ℕ) → IsTrue (is_character Visible c) → c < 128
visible c t = grind arith

pub below_128 : (k : StringKind) (c : ℕ) → IsTrue (is_character k c) → c < 128
below_128 Numeric c t = numeric c t
below_128 Printable c t = printable c t
below_128 Ia5 c t = ia5 c t
below_128 Visible c t = visible c t

-- the codes of the bits of a string type are its characters
pub characters_are : (mask : ℕ) (k : StringKind)
    → ((c : ℕ) → c < 128 → (bit_at mask c ≡ 1) ↔ IsTrue (is_character k c))
    → (c : ℕ)
    → IsMember c (codes_of mask) ↔ IsTrue (is_character k c)
characters_are mask k t c = (
  λ m. let s = (member_is mask c).0 m in (t c s.0).0 s.1,
  λ i. let b = below_128 k c i in (member_is mask c).1 (b, (t c b).1 i),
)
