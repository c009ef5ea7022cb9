-- Codes and the bits that stand for them.
use Rattle.std.proofs.Common.{inl, inr, append_assoc, ◌/◌, ◌≡◌, ℕ, zero, suc, ◌+◌, ◌-◌, ◌<◌, ◌≤◌, ◌^◌, min, max, arith, refl, sym, ap, true, false, subst, ◌∙◌}
use Rattle.std.specs.Prelude.{◌⊎◌, ◌↔◌, List, [], ◌∷◌, ◌++◌, length, Bool, ◌==◌, cond, bit_and, bit_or}
use Rattle.std.specs.List.{AllByRecursion}
use Rattle.std.specs.Int.{bit_at, trailing_zeros}
use Rattle.std.specs.Bool.{MatchBool}
use mir.Syntax.{w128}
use Rattle.std.proofs.lemmas.Nat.Bits.{bit_at-zero, bit_at_and, bit_at_or, bit_at-lt, bit_at_ones, bit_at_ones_above, bit_at_mask_inside, bit_at_mask_below, ones_shr, bit_at-trailing_zeros}
use Rattle.asn_base.specs.Names.{IsMember, is_first, is_later}
use Rattle.asn_base.specs.Schemas.{CodesAscend}
use Rattle.ranges.specs.Codes.{codes_from, codes_of}
use Rattle.ranges.specs.proving.Masking.{IsBetween}

-- one step of the codes
pub from_step : (n bits : ℕ)
    → codes_from (suc n) bits ≡ cond (bit_at bits (127 - n) == 1) ((127 - n) ∷ codes_from n bits) (codes_from n bits)
unfolding codes_from
from_step n bits = refl

pub from_none : (bits : ℕ) → codes_from 0 bits ≡ []
unfolding codes_from
from_none bits = refl

pub of_is : (bits : ℕ) → codes_of bits ≡ codes_from 128 bits
unfolding codes_of
of_is bits = refl

-- ---- members

step_member : (b : Bool) (x c : ℕ) (cs : List ℕ)
    → IsMember c (cond b (x ∷ cs) cs)
    → ((b ≡ true) × (c ≡ x)) ⊎ IsMember c cs
step_member true x c cs is_first = inl (refl, refl)
step_member true x c cs (is_later m) = inr m
step_member false x c cs m = inr m

step_later : (b : Bool) (x c : ℕ) (cs : List ℕ) → IsMember c cs → IsMember c (cond b (x ∷ cs) cs)
step_later true x c cs m = is_later m
step_later false x c cs m = m

pub set_is : (n : ℕ) → (n == 1) ≡ true → n ≡ 1
set_is n e = grind arith

pub is_set : (n : ℕ) → n ≡ 1 → (n == 1) ≡ true
is_set n e = grind arith

-- c is one of the last n codes, and its bit is set
pub record IsSet (n bits c : ℕ) : Type 0 where
  pub last : 128 ≤ c + n
  pub below : c < 128
  pub set : bit_at bits c ≡ 1

no_member : (c : ℕ) → IsMember c [] → ⊥
no_member c m = elim m [ ]

pub member_from : (n bits c : ℕ) → n ≤ 128 → IsMember c (codes_from n bits) → IsSet n bits c
member_from zero bits c h m = absurd (no_member c (subst (λ (cs : List ℕ). IsMember c cs) (from_none bits) m))
member_from (suc n) bits c h m =
    elim (step_member (bit_at bits (127 - n) == 1) (127 - n) c (codes_from n bits)
    (subst (λ (cs : List ℕ). IsMember c cs) (from_step n bits) m)) [
      | inl e ↦ record {
        last = (let i = e.1 in omega arith);
        below = (let i = e.1 in omega arith);
        set = subst (λ (x : ℕ). bit_at bits x ≡ 1) (sym e.1) (set_is (bit_at bits (127 - n)) e.0);
      }
      | inr k ↦
          let s = member_from n bits c (omega arith) k in
          record { last = (let l = s.last in omega arith); below = s.below; set = s.set }
    ]

member_here : (b : Bool) (x c : ℕ) (cs : List ℕ) → b ≡ true → c ≡ x → IsMember c (cond b (x ∷ cs) cs)
member_here true x c cs e f = subst (λ (y : ℕ). IsMember c (y ∷ cs)) f is_first
member_here false x c cs e f = absurd (grind arith)

first_or_later : (c n : ℕ) → 128 ≤ c + suc n → c < 128 → n < 128 → (c ≡ 127 - n) ⊎ (128 ≤ c + n)
first_or_later c n h l m = grind arith

pub member_into : (n bits c : ℕ) → n ≤ 128 → IsSet n bits c → IsMember c (codes_from n bits)
member_into zero bits c h s = absurd (let a = s.last in let b = s.below in omega arith)
member_into (suc n) bits c h s =
    subst (λ (cs : List ℕ). IsMember c cs) (sym (from_step n bits))
    (elim (first_or_later c n s.last s.below (omega arith)) [
      | inl e ↦ member_here (bit_at bits (127 - n) == 1) (127 - n) c (codes_from n bits)
          (is_set (bit_at bits (127 - n)) (subst (λ (x : ℕ). bit_at bits x ≡ 1) e s.set)) e
      | inr l ↦ step_later (bit_at bits (127 - n) == 1) (127 - n) c (codes_from n bits)
          (member_into n bits c (omega arith) (record { last = l; below = s.below; set = s.set }))
    ])

-- a code is a member exactly if it is below 128 and its bit is set
pub member_is : (bits c : ℕ) → IsMember c (codes_of bits) ↔ ((c < 128) × (bit_at bits c ≡ 1))
member_is bits c = (
  λ m. let s = member_from 128 bits c (omega arith) (subst (λ (cs : List ℕ). IsMember c cs) (of_is bits) m) in (s.below, s.set),
  λ p. subst (λ (cs : List ℕ). IsMember c cs) (sym (of_is bits))
      (member_into 128 bits c (omega arith) (record { last = omega arith; below = p.0; set = p.1 })),
)

-- ---- order

all_step : (P : ℕ → Type 0) (b : Bool) (x : ℕ) (cs : List ℕ)
    → (b ≡ true → P x)
    → AllByRecursion P cs
    → AllByRecursion P (cond b (x ∷ cs) cs)
all_step P true x cs p a = (p refl, a)
all_step P false x cs p a = a

all_from : (P : ℕ → Type 0) (n bits : ℕ) → n ≤ 128 → ((c : ℕ) → IsSet n bits c → P c) → AllByRecursion P (codes_from n bits)
all_from P zero bits h f = subst (λ (cs : List ℕ). AllByRecursion P cs) (sym (from_none bits)) tt
all_from P (suc n) bits h f =
    subst (λ (cs : List ℕ). AllByRecursion P cs) (sym (from_step n bits))
    (all_step P (bit_at bits (127 - n) == 1) (127 - n) (codes_from n bits)
    (λ e. f (127 - n) (record { last = omega arith; below = omega arith; set = set_is (bit_at bits (127 - n)) e }))
    (all_from P n bits (omega arith) (λ c s. f c (record { last = (let l = s.last in omega arith); below = s.below; set = s.set }))))

ascend_step : (b : Bool) (x : ℕ) (cs : List ℕ)
    → AllByRecursion (λ d. x < d) cs
    → CodesAscend cs
    → CodesAscend (cond b (x ∷ cs) cs)
ascend_step true x cs p a = (p, a)
ascend_step false x cs p a = a

ascend_from : (n bits : ℕ) → n ≤ 128 → CodesAscend (codes_from n bits)
ascend_from zero bits h = subst CodesAscend (sym (from_none bits)) tt
ascend_from (suc n) bits h =
    subst CodesAscend (sym (from_step n bits))
    (ascend_step (bit_at bits (127 - n) == 1) (127 - n) (codes_from n bits)
    (all_from (λ d. 127 - n < d) n bits (omega arith) (λ c s. let l = s.last in omega arith))
    (ascend_from n bits (omega arith)))

pub codes_ascend : (bits : ℕ) → CodesAscend (codes_of bits)
codes_ascend bits = subst CodesAscend (sym (of_is bits)) (ascend_from 128 bits (omega arith))

pub codes_below : (bits : ℕ) → AllByRecursion (λ c. c < 128) (codes_of bits)
codes_below bits =
    subst (λ (cs : List ℕ). AllByRecursion (λ c. c < 128) cs) (sym (of_is bits))
    (all_from (λ c. c < 128) 128 bits (omega arith) (λ c s. s.below))

-- ---- none

all_false : (n : ℕ) → codes_from n 0 ≡ []
all_false zero = from_none 0
all_false (suc n) =
    from_step n 0 ∙ subst (λ (x : ℕ). cond (x == 1) ((127 - n) ∷ codes_from n 0) (codes_from n 0) ≡ []) (sym (bit_at-zero (127 - n))) (all_false n)

pub none_of_zero : codes_of 0 ≡ []
none_of_zero = of_is 0 ∙ all_false 128

some_member : (cs : List ℕ) (c : ℕ) → IsMember c cs → 0 < length cs
some_member [] c m = absurd (no_member c m)
some_member (x ∷ cs) c m = omega arith

pub some_set : (bits c : ℕ) → c < 128 → bit_at bits c ≡ 1 → 0 < length (codes_of bits)
some_set bits c h e = some_member (codes_of bits) c ((member_is bits c).1 (h, e))

-- ---- both, and either

one_of_two : (a b : ℕ) → a < 2 → max a b ≡ 1 → (a ≡ 1) ⊎ (b ≡ 1)
one_of_two zero b h e = inr (omega arith)
one_of_two (suc a) b h e = inl (omega arith)

pub both_set : (a b i : ℕ) → (bit_at (bit_and a b) i ≡ 1) ↔ ((bit_at a i ≡ 1) × (bit_at b i ≡ 1))
both_set a b i =
    let e = bit_at_and a b i in
    let x = bit_at-lt a i in
    let y = bit_at-lt b i in
    (λ h. (omega arith, omega arith), λ h. let f = h.0 in let g = h.1 in omega arith)

pub either_set : (a b i : ℕ) → (bit_at (bit_or a b) i ≡ 1) ↔ ((bit_at a i ≡ 1) ⊎ (bit_at b i ≡ 1))
either_set a b i =
    let e = bit_at_or a b i in
    let x = bit_at-lt a i in
    let y = bit_at-lt b i in (
      λ h. one_of_two (bit_at a i) (bit_at b i) x (sym e ∙ h),
      λ h. elim h [ inl f ↦ omega arith | inr f ↦ omega arith ],
    )

-- the codes of numbers whose bits are of both, and of either
pub member_both : (a b c : ℕ) → IsMember c (codes_of (bit_and a b)) ↔ (IsMember c (codes_of a) × IsMember c (codes_of b))
member_both a b c = (
  λ m. let s = (member_is (bit_and a b) c).0 m in
      let t = (both_set a b c).0 s.1 in
      ((member_is a c).1 (s.0, t.0), (member_is b c).1 (s.0, t.1)),
  λ m. let s = (member_is a c).0 m.0 in
      let t = (member_is b c).0 m.1 in
      (member_is (bit_and a b) c).1 (s.0, (both_set a b c).1 (s.1, t.1)),
)

pub member_either : (a b c : ℕ) (P : Type 0)
    → (c < 128 → (bit_at b c ≡ 1) ↔ P)
    → IsMember c (codes_of (bit_or a b)) ↔ (IsMember c (codes_of a) ⊎ (P × (c < 128)))
member_either a b c P h = (
  λ m. let s = (member_is (bit_or a b) c).0 m in
      elim ((either_set a b c).0 s.1) [
        | inl e ↦ inl ((member_is a c).1 (s.0, e))
        | inr e ↦ inr ((h s.0).0 e, s.0)
      ],
  λ m. elim m [
    | inl e ↦ let s = (member_is a c).0 e in (member_is (bit_or a b) c).1 (s.0, (either_set a b c).1 (inl s.1))
    | inr e ↦ (member_is (bit_or a b) c).1 (e.1, (either_set a b c).1 (inr ((h e.1).1 e.0)))
  ],
)

-- ---- the loops over the codes

place : (i : ℕ) → i < 128 → 128 - i ≡ suc (128 - (i + 1))
place i h = omega arith

place_is : (i : ℕ) → i < 128 → 127 - (128 - (i + 1)) ≡ i
place_is i h = omega arith

from_place : (bits i : ℕ)
    → i < 128
    → codes_from (128 - i) bits
    ≡ cond (bit_at bits i == 1) (i ∷ codes_from (128 - (i + 1)) bits) (codes_from (128 - (i + 1)) bits)
from_place bits i h =
    ap (λ n. codes_from n bits) (place i h)
    ∙ from_step (128 - (i + 1)) bits
    ∙ ap (λ x. cond (bit_at bits x == 1) (x ∷ codes_from (128 - (i + 1)) bits) (codes_from (128 - (i + 1)) bits))
    (place_is i h)

length_step : (b : Bool) (i : ℕ) (cs : List ℕ) (count : ℕ)
    → cond b (count + 1) count + length cs ≡ count + length (cond b (i ∷ cs) cs)
length_step true i cs count = omega arith
length_step false i cs count = refl

append_step : (b : Bool) (i : ℕ) (cs all : List ℕ)
    → cond b (all ++ (i ∷ [])) all ++ cs ≡ all ++ cond b (i ∷ cs) cs
append_step true i cs all = append_assoc all (i ∷ []) cs
append_step false i cs all = refl

pub count_step : (bits i count : ℕ) (b : Bool)
    → i < 128
    → b ≡ (bit_at bits i == 1)
    → count + length (codes_from (128 - i) bits) ≡ length (codes_of bits)
    → cond b (count + 1) count + length (codes_from (128 - (i + 1)) bits) ≡ length (codes_of bits)
count_step bits i count b h e c =
    length_step b i (codes_from (128 - (i + 1)) bits) count
    ∙ ap (λ x. count + length (cond x (i ∷ codes_from (128 - (i + 1)) bits) (codes_from (128 - (i + 1)) bits))) e
    ∙ ap (λ cs. count + length cs) (sym (from_place bits i h))
    ∙ c

pub list_step : (bits i : ℕ) (all : List ℕ) (b : Bool)
    → i < 128
    → b ≡ (bit_at bits i == 1)
    → all ++ codes_from (128 - i) bits ≡ codes_of bits
    → cond b (all ++ (i ∷ [])) all ++ codes_from (128 - (i + 1)) bits ≡ codes_of bits
list_step bits i all b h e c =
    append_step b i (codes_from (128 - (i + 1)) bits) all
    ∙ ap (λ x. all ++ cond x (i ∷ codes_from (128 - (i + 1)) bits) (codes_from (128 - (i + 1)) bits)) e
    ∙ ap (λ cs. all ++ cs) (sym (from_place bits i h))
    ∙ c

-- ---- masks

le_or_lt : (a b : ℕ) → (a ≤ b) ⊎ (b < a)
le_or_lt a b = grind arith

first_at : (first c : ℕ) → bit_at (2 ^ 128 - 2 ^ first) c ≡ 1 → first ≤ c
first_at first c e =
    elim (le_or_lt first c) [
      | inl h ↦ h
      | inr h ↦ absurd (let f = bit_at_mask_below first 128 c h in omega arith)
    ]

last_at : (last c : ℕ) → c < 128 → bit_at (2 ^ (128 - (127 - min last 127)) - 1) c ≡ 1 → c ≤ last
last_at last c k e =
    elim (le_or_lt c last) [
      | inl h ↦ h
      | inr h ↦ absurd (let f = bit_at_ones_above (128 - (127 - min last 127)) c (omega arith) in omega arith)
    ]

pub masked : (first last c : ℕ)
    → first < 128
    → c < 128
    → (bit_at (bit_and ((2 ^ 128 - 1) / 2 ^ (127 - min last 127)) (2 ^ 128 - 2 ^ first)) c ≡ 1) ↔ IsBetween first last c
masked first last c h k =
    let up : (2 ^ 128 - 1) / 2 ^ (127 - min last 127) ≡ 2 ^ (128 - (127 - min last 127)) - 1 =
    ones_shr 128 (127 - min last 127) (omega arith) in
    rw up (
      λ e. let p = (both_set (2 ^ (128 - (127 - min last 127)) - 1) (2 ^ 128 - 2 ^ first) c).0 e in
          (first_at first c p.1, last_at last c k p.0),
      λ b. (both_set (2 ^ (128 - (127 - min last 127)) - 1) (2 ^ 128 - 2 ^ first) c).1
          (bit_at_ones (128 - (127 - min last 127)) c (let u = b.1 in omega arith), bit_at_mask_inside first 128 c b.0 k),
    )

-- no code is set exactly if the number is 0
none_by : (b : Bool) (bits : ℕ)
    → bits < 2 ^ 128
    → (b ≡ true → bits ≡ 0)
    → (b ≡ false → 0 < bits)
    → MatchBool b (codes_of bits ≡ []) (0 < length (codes_of bits))
none_by true bits h is_zero above = subst (λ (n : ℕ). codes_of n ≡ []) (sym (is_zero refl)) none_of_zero
none_by false bits h is_zero above =
    let t = bit_at-trailing_zeros w128 bits (above refl) h in some_set bits (trailing_zeros w128 bits) t.0 t.1

zero_is : (n : ℕ) → (n == 0) ≡ true → n ≡ 0
zero_is n e = grind arith

zero_not : (n : ℕ) → (n == 0) ≡ false → 0 < n
zero_not n e = grind arith

pub none_if_zero : (bits : ℕ)
    → bits < 2 ^ 128
    → MatchBool (bits == 0) (codes_of bits ≡ []) (0 < length (codes_of bits))
none_if_zero bits h = none_by (bits == 0) bits h (zero_is bits) (zero_not bits)
