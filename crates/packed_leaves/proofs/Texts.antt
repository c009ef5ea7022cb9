-- Characters of an alphabet.
use Rattle.std.proofs.Common.{◌≡◌, ℕ, suc, ◌+◌, ◌-◌, ◌*◌, ◌%◌, ◌^◌, ◌<◌, ◌≤◌, Bool, true, false, List, [], ◌∷◌, length, refl, sym, ap, subst, ◌∙◌, arith}
use Rattle.std.specs.Prelude.{nat_lt, ◌&&◌, slice_index}
use Rattle.std.proofs.lemmas.Bool.{lt-ltb, ltb-true}
use Rattle.std.proofs.lemmas.Int.Digits.{length-digits_of-le}
use Rattle.std.specs.List.{AllByRecursion}
use Rattle.asn_base.specs.Schemas.{CodesAscend}
use Rattle.packed_encodings.specs.Leaves.{place_width}
use Rattle.packed_encodings.specs.Computed.{all_below}

pub few_bits : (n : ℕ) → n ≤ 256 → place_width n ≤ 8
few_bits n h = length-digits_of-le 2 8 (n - 1) (omega arith) (omega (arith, h))

pub small_power : (w : ℕ) → w ≤ 8 → 1 * 2 ^ w % 4294967296 ≡ 2 ^ w
small_power (suc (suc (suc (suc (suc (suc (suc (suc (suc w))))))))) h = absurd (omega (arith, h))
small_power q h = refl

and_true : (b : Bool) → (b && true) ≡ b
and_true true = refl
and_true false = refl

last_step : (d e : ℕ) (cs : List ℕ) → slice_index (d ∷ e ∷ cs) (length (d ∷ e ∷ cs) - 1) ≡ slice_index (e ∷ cs) (length (e ∷ cs) - 1)
last_step d e cs = ap (slice_index (d ∷ e ∷ cs)) (let k : length (d ∷ e ∷ cs) - 1 ≡ suc (length (e ∷ cs) - 1) = omega arith in k)

last_above : (c : ℕ) (cs : List ℕ) (d : ℕ) → AllByRecursion (λ x. c < x) (d ∷ cs) → c < slice_index (d ∷ cs) (length (d ∷ cs) - 1)
last_above c [] d h = h.0
last_above c (e ∷ cs) d h = subst (λ q. c < q) (sym (last_step d e cs)) (last_above c cs e h.1)

lower_true : (c x n : ℕ) → c < x → nat_lt x n ≡ true → nat_lt c n ≡ true
lower_true c x n l e = lt-ltb c n (let k = ltb-true x n e in omega (arith, l, k))

both : (c x n : ℕ) (b : Bool) → c < x → nat_lt x n ≡ b → (nat_lt c n && b) ≡ b
both c x n true l e = ap (λ q. q && true) (lower_true c x n l e)
both c x n false l e = by (nat_lt c n)
  where
    by : (b : Bool) → (b && false) ≡ false
    by true = refl
    by false = refl

-- if codes ascend, all are below a number if the last one is
pub last_decides : (n d : ℕ) (cs : List ℕ) → CodesAscend (d ∷ cs) → nat_lt (slice_index (d ∷ cs) (length (d ∷ cs) - 1)) n ≡ all_below n (d ∷ cs)
last_decides n d [] h = sym (and_true (nat_lt d n))
last_decides n d (e ∷ cs) h =
    let r : nat_lt (slice_index (e ∷ cs) (length (e ∷ cs) - 1)) n ≡ all_below n (e ∷ cs) = last_decides n e cs h.1 in
    let b : (nat_lt d n && nat_lt (slice_index (e ∷ cs) (length (e ∷ cs) - 1)) n) ≡ nat_lt (slice_index (e ∷ cs) (length (e ∷ cs) - 1)) n
    = both d (slice_index (e ∷ cs) (length (e ∷ cs) - 1)) n (nat_lt (slice_index (e ∷ cs) (length (e ∷ cs) - 1)) n) (last_above d cs e h.0) refl in
    ap (λ q. nat_lt q n) (last_step d e cs) ∙ sym b ∙ ap (λ q. nat_lt d n && q) r

pub last_is : (n : ℕ) (cs : List ℕ) → (length cs ≡ 0 → ⊥) → CodesAscend cs → nat_lt (slice_index cs (length cs - 1)) n ≡ all_below n cs
last_is n [] k h = absurd (k refl)
last_is n (d ∷ cs) k h = last_decides n d cs h

pub none_below : (n : ℕ) (cs : List ℕ) → length cs ≡ 0 → true ≡ all_below n cs
none_below n [] e = refl
none_below n (c ∷ cs) e = absurd (omega (arith, e))

below_129 : (m d : ℕ) (cs : List ℕ) → m ≤ d → AllByRecursion (λ c. c < 128) (d ∷ cs) → CodesAscend (d ∷ cs) → m + length (d ∷ cs) ≤ 128
below_129 m d [] l h a = let k = h.0 in omega (arith, k, l)
below_129 m d (e ∷ cs) l h a =
    let k = a.0.0 in
    let r = below_129 (suc m) e cs (omega (arith, l, k)) h.1 a.1 in
    omega (arith, r)

-- an alphabet has few codes
pub few_codes : (cs : List ℕ) → AllByRecursion (λ c. c < 128) cs → CodesAscend cs → length cs ≤ 128
few_codes [] h a = omega arith
few_codes (d ∷ cs) h a = let r = below_129 0 d cs (omega arith) h a in omega (arith, r)
