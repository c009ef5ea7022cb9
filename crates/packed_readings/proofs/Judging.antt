-- Numbers and items, as calls judge them.
use Rattle.std.proofs.Common.{arith, ◌≡◌, ℕ, ◌+◌, ◌-◌, ◌*◌, ◌^◌, ◌<◌, ◌≤◌, Bool, true, false, [], ◌∷◌, ◌++◌, length, refl, sym, ap, ◌∙◌, append_assoc, length-append}
use Rattle.std.proofs.lemmas.Int.{ints}
use Rattle.std.proofs.lemmas.Bool.{false_from_ne_true, ltb-true}
use Rattle.std.proofs.Math.Nat.{add-mul}
use Rattle.std.proofs.lemmas.Nat.{pow-add}
use Rattle.std.specs.Prelude.{nat_lt, if◌then◌else◌, ◌&&◌, ℤ, pos, negsuc, ◌+ℤ◌, FitsSigned}
use mir.Syntax.{w128}
use Rattle.bits.specs.Words.{low_bits}
use Rattle.asn_base.specs.Abstract.{AbstractValue, integer}
use Rattle.asn_base.specs.Types.{Constraint}
use Rattle.encodings.specs.Header.{Octets}
use Rattle.packed_encodings.specs.Lengths.{Bits, worth}
use Rattle.packed_encodings.specs.Computed.{is_in_root}
use Rattle.decode_faults.specs.declared.refusal.Refusal.{Refusal}
use Rattle.decode_faults.specs.declared.refusal.Refusal.TheVariants as why
use Rattle.packed_readings.specs.Outcome.{found, Judged, good, bad, and_then, field_from}
use Rattle.packed_readings.specs.Counts.{is_allowed}
use Rattle.packed_readings.specs.Leaves.{is_within_limit, root_number, other_number, signed_number, unsigned_number}
use Rattle.packed_readings.specs.Code.{root_judge, outside_judge, above_judge}
use Rattle.packed_readings.specs.proving.Numbers.{limited}
use Rattle.packed_encodings.specs.proving.Words.{word_length, worth_word}
use Rattle.packed_readings.proofs.Fields.{if_false, block_found}
use Rattle.packed_readings.proofs.Sizes.{good_is, not_good}

-- ---- one number

pub root_past : (c : Constraint) (z : ℤ) → is_within_limit z ≡ false → root_number c z ≡ bad why.IntegerLimit
root_past c z e = if_false (is_within_limit z) (if is_in_root c.visible z && is_allowed c z then good (integer z) else bad why.Outside) (bad why.IntegerLimit) e

pub other_past : (c : Constraint) (z : ℤ) → is_within_limit z ≡ false → other_number c z ≡ bad why.IntegerLimit
other_past c z e = if_false (is_within_limit z) (if is_in_root c.visible z then bad why.NotCanonical else (if is_allowed c z then good (integer z) else bad why.Outside)) (bad why.IntegerLimit) e

abbrev as_refused : Judged ℤ → Judged AbstractValue
as_refused (good v) = bad why.IntegerLimit
as_refused (bad e) = bad e

module _ (h : ℤ → Judged AbstractValue) where
  pass_good : (j : Judged ℤ) (z : ℤ) → limited j ≡ good z → and_then j h ≡ h z
  pass_good (good v) z e = by (is_within_limit v) e
    where
      by : (t : Bool) → (if t then good v else bad why.IntegerLimit) ≡ good z → h v ≡ h z
      by true e = ap h (good_is e)
      by false e = absurd (not_good e)
  pass_good (bad f) z e = absurd (not_good e)

  pass_bad : ((v : ℤ) → is_within_limit v ≡ false → h v ≡ bad why.IntegerLimit) → (j : Judged ℤ) (e : Refusal) → limited j ≡ bad e → and_then j h ≡ bad e
  pass_bad past (good v) e d = by (is_within_limit v) refl d
    where
      by : (t : Bool) → is_within_limit v ≡ t → (if t then good v else bad why.IntegerLimit) ≡ bad e → h v ≡ bad e
      by true f d = absurd (not_bad d)
        where
          not_bad : good v ≡ bad e → ⊥
          not_bad d = absurd (cc)
      by false f d = past v f ∙ ap as_refused d
  pass_bad past (bad f) e d = ap as_refused d

pub root_read : (c : Constraint) (o : Octets) (z : ℤ) (v : AbstractValue) → limited (signed_number o) ≡ good z → root_number c z ≡ good v → root_judge c o ≡ good v
root_read c o z v e f = pass_good (root_number c) (signed_number o) z e ∙ f

pub root_refused : (c : Constraint) (o : Octets) (z : ℤ) (e : Refusal) → limited (signed_number o) ≡ good z → root_number c z ≡ bad e → root_judge c o ≡ bad e
root_refused c o z e d f = pass_good (root_number c) (signed_number o) z d ∙ f

pub root_none : (c : Constraint) (o : Octets) (e : Refusal) → limited (signed_number o) ≡ bad e → root_judge c o ≡ bad e
root_none c o e d = pass_bad (root_number c) (root_past c) (signed_number o) e d

pub other_read : (c : Constraint) (o : Octets) (z : ℤ) (v : AbstractValue) → limited (signed_number o) ≡ good z → other_number c z ≡ good v → outside_judge c o ≡ good v
other_read c o z v e f = pass_good (other_number c) (signed_number o) z e ∙ f

pub other_refused : (c : Constraint) (o : Octets) (z : ℤ) (e : Refusal) → limited (signed_number o) ≡ good z → other_number c z ≡ bad e → outside_judge c o ≡ bad e
other_refused c o z e d f = pass_good (other_number c) (signed_number o) z d ∙ f

pub other_none : (c : Constraint) (o : Octets) (e : Refusal) → limited (signed_number o) ≡ bad e → outside_judge c o ≡ bad e
other_none c o e d = pass_bad (other_number c) (other_past c) (signed_number o) e d

-- a sum that doesn't fit is past the limit
pub not_within : (z : ℤ) → (FitsSigned w128 z → ⊥) → is_within_limit z ≡ false
not_within (pos n) h = false_from_ne_true (nat_lt n (2 ^ 127)) (λ e. (let l = ltb-true n (2 ^ 127) e in h (omega (arith, ints, l))))
not_within (negsuc n) h = false_from_ne_true (nat_lt n (2 ^ 127)) (λ e. (let l = ltb-true n (2 ^ 127) e in h (omega (arith, ints, l))))

pub sum_past : (c : Constraint) (l : ℤ) (n : ℕ) → (FitsSigned w128 (l +ℤ pos n) → ⊥) → root_number c (l +ℤ pos n) ≡ bad why.IntegerLimit
sum_past c l n h = root_past c (l +ℤ pos n) (not_within (l +ℤ pos n) h)

pub above_past : (c : Constraint) (l : ℤ) (o : Octets) (n : ℕ) → FitsSigned w128 l → 2 ^ 128 ≤ n → unsigned_number o ≡ good n → above_judge c l o ≡ bad why.IntegerLimit
above_past c l o n f g e = ap (λ j. and_then j (λ n. root_number c (l +ℤ pos n))) e ∙ sum_past c l n (λ h. (omega (arith, ints, f, g, h)))

pub above_read : (c : Constraint) (l : ℤ) (o : Octets) (n : ℕ) (v : Judged AbstractValue) → unsigned_number o ≡ good n → root_number c (l +ℤ pos n) ≡ v → above_judge c l o ≡ v
above_read c l o n v e f = ap (λ j. and_then j (λ n. root_number c (l +ℤ pos n))) e ∙ f

pub above_none : (c : Constraint) (l : ℤ) (o : Octets) (e : Refusal) → unsigned_number o ≡ bad e → above_judge c l o ≡ bad e
above_none c l o e d = ap (λ j. and_then j (λ n. root_number c (l +ℤ pos n))) d

-- ---- fields of more than 64 bits

pub worth_append : (x y : Bits) → worth (x ++ y) ≡ worth x * 2 ^ length y + worth y
worth_append [] y = omega arith
worth_append (true ∷ x) y =
    let h = worth_append x y in
    let l : 2 ^ length (x ++ y) ≡ 2 ^ length x * 2 ^ length y = ap (λ q. 2 ^ q) (length-append x y) ∙ pow-add 2 (length x) (length y) in
    let m = add-mul (2 ^ length x) (worth x) (2 ^ length y) in
    omega (arith, h, l, m)
worth_append (false ∷ x) y = let h = worth_append x y in omega (arith, h)

pub wide_taken : (a h l : ℕ) (b m r : Bits) → b ≡ low_bits a h ++ m → m ≡ low_bits 64 l ++ r → h < 2 ^ a → l < 2 ^ 64 → field_from (a + 64) b ≡ found (h * 2 ^ 64 + l) r
wide_taken a h l b m r e f g k =
    ap (field_from (a + 64)) (e ∙ ap (λ q. low_bits a h ++ q) f ∙ sym (append_assoc (low_bits a h) (low_bits 64 l) r))
    ∙ block_found (a + 64) worth (low_bits a h ++ low_bits 64 l) r (length-append (low_bits a h) (low_bits 64 l) ∙ ap (λ q. q + length (low_bits 64 l)) (word_length a h) ∙ ap (λ q. a + q) (word_length 64 l))
    ∙ ap (λ q. found q r) (worth_append (low_bits a h) (low_bits 64 l) ∙ ap (λ q. worth (low_bits a h) * 2 ^ q + worth (low_bits 64 l)) (word_length 64 l) ∙ ap (λ q. q * 2 ^ 64 + worth (low_bits 64 l)) (worth_word a h g) ∙ ap (λ q. h * 2 ^ 64 + q) (worth_word 64 l k))

pub wide_left : (w h : ℕ) (b m : Bits) → b ≡ low_bits (w - 64) h ++ m → w ≤ length b → 64 < w → 64 ≤ length m
wide_left w h b m e l g =
    let k = ap length e in
    let a : length (low_bits (w - 64) h ++ m) ≡ length (low_bits (w - 64) h) + length m = length-append (low_bits (w - 64) h) m in
    let n = word_length (w - 64) h in
    omega (arith, k, a, n, l, g)

pub wide_at : (w h l : ℕ) (b m r : Bits) → 64 < w → b ≡ low_bits (w - 64) h ++ m → m ≡ low_bits 64 l ++ r → h < 2 ^ (w - 64) → l < 2 ^ 64 → field_from w b ≡ found (h * 18446744073709551616 + l) r
wide_at w h l b m r g e f i j = ap (λ q. field_from q b) (let k : w ≡ w - 64 + 64 = omega (arith, g) in k) ∙ wide_taken (w - 64) h l b m r e f i j
