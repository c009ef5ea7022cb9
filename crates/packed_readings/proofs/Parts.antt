-- Numbers of items, and items after their number, are read as they are, piece by piece.
use Rattle.std.proofs.Common.{arith, ◌≡◌, ℕ, zero, suc, ◌+◌, ◌*◌, ◌^◌, ◌<◌, ◌≤◌, ◌⊎◌, inl, inr, ⊎_elim, Bool, true, false, List, [], ◌∷◌, ◌++◌, length, refl, sym, ap, subst, ◌∙◌, append_assoc, length-append}
use Rattle.std.specs.Prelude.{◌==◌, ◌&&◌, nat_lt, if◌then◌else◌, Option, Some, None}
use Rattle.std.proofs.lemmas.Bool.{lt-ltb, le-ltb, cases_lt, eq-eqb, eqb-true}
use Rattle.std.proofs.lemmas.List.{append-nil}
use Rattle.bits.specs.Words.{low_bits}
use Rattle.packed_encodings.specs.Lengths.{Bits, Items, all_bits, Counted, short, long, fragment}
use Rattle.decode_faults.specs.declared.refusal.Refusal.{Refusal}
use Rattle.decode_faults.specs.declared.refusal.Refusal.TheVariants.{NotCanonical}
use Rattle.packed_readings.specs.Outcome.{Outcome, found, onward, good, bad, bit_from, field_from, IsBit, IsField, IsReading, Then, IsJudged, judging}
use Rattle.packed_readings.specs.Composing.{Sound, Inside, Grows, sound_of, inside_of, grows_of, next_sound, next_inside, next_grows, stops_why, stops_where, not_both, next, judged, same, same_sound}
use Rattle.packed_readings.specs.Counts.{Count, last, part, StatedCount, in_7_bits, in_14_bits, in_parts, stated_count, canonical_count, count_from, IsCount, short_count, long_count, part_count, InParts, last_items, part_items, EachHas, none_has, one_has, AreSeveral, AreCounted, Several, total, items_of, parts_from, counted_from}
use Rattle.packed_readings.proofs.Fields.{if_true, if_false, bit, field, nothing}

-- ---- one number

-- the form of a number, by its first two bits
data IsTold : StatedCount → Bits → Type 0 where
  stated_7 : {n : ℕ} → n < 128 → IsTold (in_7_bits n) (false ∷ low_bits 7 n)
  stated_14 : {n : ℕ} → n < 16384 → IsTold (in_14_bits n) (true ∷ (false ∷ low_bits 14 n))
  stated_parts : {n : ℕ} → n < 64 → IsTold (in_parts n) (true ∷ (true ∷ low_bits 6 n))

abbrev Numbered : ℕ → (ℕ → StatedCount) → StatedCount → Bits → Type 0
Numbered k to = Then (IsField k) (λ n w x. (w ≡ to n) × (x ≡ []))

numbered : (k : ℕ) (to : ℕ → StatedCount) → IsReading (Numbered k to) (λ b. onward (field_from k b) (λ n r. found (to n) r))
numbered k to = next (field k) (λ n. nothing (to n))

abbrev Second : Bool → StatedCount → Bits → Type 0
Second true = Numbered 6 in_parts
Second false = Numbered 14 in_14_bits

abbrev second_from : Bool → Bits → Outcome StatedCount
second_from y s = if y then onward (field_from 6 s) (λ n t. found (in_parts n) t) else onward (field_from 14 s) (λ n t. found (in_14_bits n) t)

second : (y : Bool) → IsReading (Second y) (second_from y)
second true = numbered 6 in_parts
second false = numbered 14 in_14_bits

abbrev First : Bool → StatedCount → Bits → Type 0
First true = Then IsBit Second
First false = Numbered 7 in_7_bits

abbrev first_from : Bool → Bits → Outcome StatedCount
first_from x r = if x then onward (bit_from r) (λ y s. second_from y s) else onward (field_from 7 r) (λ n s. found (in_7_bits n) s)

first : (x : Bool) → IsReading (First x) (first_from x)
first true = next bit second
first false = numbered 7 in_7_bits

stated_at : {t u : StatedCount} {x y : Bits} → t ≡ u → x ≡ y → IsTold t x → IsTold u y
stated_at {t} {u} {x} {y} e f p = subst (λ q. IsTold u q) f (subst (λ q. IsTold q x) e p)

number_bits : (k : ℕ) (to : ℕ → StatedCount) (w : StatedCount) (x : Bits) (t : Numbered k to w x) → x ≡ low_bits k t.first
number_bits k to w x t = t.whole ∙ ap (λ q. t.front ++ q) t.is_next.1 ∙ append-nil t.front ∙ t.is_first.is

to_stated : (w : StatedCount) (z : Bits) → Then IsBit First w z → IsTold w z
to_stated w z t = by t.first t.back (t.whole ∙ ap (λ q. q ++ t.back) t.is_first) t.is_next
  where
    by_second : (y : Bool) (x : Bits) → z ≡ true ∷ (y ∷ x) → Second y w x → IsTold w z
    by_second true x e t = stated_at (sym t.is_next.0) (ap (λ q. true ∷ (true ∷ q)) (sym (number_bits 6 in_parts w x t)) ∙ sym e) (stated_parts t.is_first.fits)
    by_second false x e t = stated_at (sym t.is_next.0) (ap (λ q. true ∷ (false ∷ q)) (sym (number_bits 14 in_14_bits w x t)) ∙ sym e) (stated_14 t.is_first.fits)

    by : (x : Bool) (y : Bits) → z ≡ x ∷ y → First x w y → IsTold w z
    by true y e t = by_second t.first t.back (e ∙ ap (λ q. true ∷ q) (t.whole ∙ ap (λ q. q ++ t.back) t.is_first)) t.is_next
    by false y e t = stated_at (sym t.is_next.0) (ap (λ q. false ∷ q) (sym (number_bits 7 in_7_bits w y t)) ∙ sym e) (stated_7 t.is_first.fits)

a_number : (k : ℕ) (to : ℕ → StatedCount) (n : ℕ) → n < 2 ^ k → Numbered k to (to n) (low_bits k n)
a_number k to n l = record {
  first = n;
  front = low_bits k n;
  back = [];
  is_first = record { fits = l; is = refl };
  is_next = (refl, refl);
  whole = sym (append-nil (low_bits k n));
}

from_stated : (w : StatedCount) (z : Bits) → IsTold w z → Then IsBit First w z
from_stated w z (stated_7 {n = n} l) = record { first = false; front = false ∷ []; back = low_bits 7 n; is_first = refl; is_next = a_number 7 in_7_bits n l; whole = refl }
from_stated w z (stated_14 {n = n} l) = record {
  first = true;
  front = true ∷ [];
  back = false ∷ low_bits 14 n;
  is_first = refl;
  is_next = record { first = false; front = false ∷ []; back = low_bits 14 n; is_first = refl; is_next = a_number 14 in_14_bits n l; whole = refl };
  whole = refl;
}
from_stated w z (stated_parts {n = n} l) = record {
  first = true;
  front = true ∷ [];
  back = true ∷ low_bits 6 n;
  is_first = refl;
  is_next = record { first = true; front = true ∷ []; back = low_bits 6 n; is_first = refl; is_next = a_number 6 in_parts n l; whole = refl };
  whole = refl;
}

stated : IsReading IsTold stated_count
stated = same to_stated from_stated (next bit first)

not_good : {X : Type 0} {e : Refusal} {v : X} → bad e ≡ good v → ⊥
not_good d = absurd (cc)

good_is : {X : Type 0} {v w : X} → good v ≡ good w → v ≡ w
good_is d = cc

count_at : {full : Bool} {c d : Count} {x : Bits} → c ≡ d → IsCount full c x → IsCount full d x
count_at {full} {x = x} e p = subst (λ q. IsCount full q x) e p

to_count : (full : Bool) {t : StatedCount} (c : Count) {x : Bits} → IsTold t x → canonical_count full t ≡ good c → IsCount full c x
to_count full c (stated_7 {n = n} l) d = count_at (good_is d) (short_count l)
to_count full c (stated_14 {n = n} l) d = ⊎_elim
    (λ h. absurd (not_good (sym (if_true (nat_lt n 128) (bad NotCanonical) (good (last n)) (lt-ltb n 128 h)) ∙ d)))
    (λ h. count_at (good_is (sym (if_false (nat_lt n 128) (bad NotCanonical) (good (last n)) (le-ltb n 128 h)) ∙ d)) (long_count h l))
    (cases_lt n 128)
to_count false c (stated_parts {n = n} l) d = absurd (not_good d)
to_count true c (stated_parts {n = n} l) d = ⊎_elim
    (λ h. absurd (not_good (sym (none (nat_lt 0 n) (nat_lt n 5) (inl (le-ltb 0 n h))) ∙ d)))
    (λ h. ⊎_elim
    (λ k. count_at (good_is (sym (some (nat_lt 0 n) (nat_lt n 5) (lt-ltb 0 n h) (lt-ltb n 5 k)) ∙ d)) (part_count h (omega (arith, k))))
    (λ k. absurd (not_good (sym (none (nat_lt 0 n) (nat_lt n 5) (inr (le-ltb n 5 k))) ∙ d)))
    (cases_lt n 5))
    (⊎_elim (λ h. inr h) (λ h. inl h) (cases_lt 0 n))
  where
    none : (a b : Bool) → (a ≡ false) ⊎ (b ≡ false) → (if a && b then good (part n) else bad NotCanonical) ≡ bad NotCanonical
    none false b e = refl
    none true false e = refl
    none true true e = absurd (⊎_elim (λ h. cc) (λ h. cc) e)

    some : (a b : Bool) → a ≡ true → b ≡ true → (if a && b then good (part n) else bad NotCanonical) ≡ good (part n)
    some a b e f = if_true (a && b) (good (part n)) (bad NotCanonical) (ap (λ q. q && b) e ∙ f)

from_count : (full : Bool) (c : Count) (x : Bits) → IsCount full c x → IsJudged IsTold (canonical_count full) c x
from_count full c x (short_count {n = n} l) = record { read = in_7_bits n; is_read = stated_7 l; judged = refl }
from_count full c x (long_count {n = n} h l) = record {
  read = in_14_bits n;
  is_read = stated_14 l;
  judged = if_false (nat_lt n 128) (bad NotCanonical) (good (last n)) (le-ltb n 128 h);
}
from_count full c x (part_count {m = m} h l) = record {
  read = in_parts m;
  is_read = stated_parts (omega (arith, l));
  judged = if_true (nat_lt 0 m && nat_lt m 5) (good (part m)) (bad NotCanonical) (ap (λ q. q && nat_lt m 5) (lt-ltb 0 m h) ∙ lt-ltb m 5 (omega (arith, l)));
}

pub count : (full : Bool) → IsReading (IsCount full) (count_from full)
count full = same (λ c x t. to_count full c t.is_read t.judged) (from_count full) (judged (canonical_count full) stated)

-- ---- the parts of what is counted

bool_cases : (b : Bool) → (b ≡ true) ⊎ (b ≡ false)
bool_cases true = inl refl
bool_cases false = inr refl

few_parts : {xs : Items} {b : Bits} (full : Bool) → length xs < 16384 → Counted xs b → InParts full xs b
few_parts full l (short {xs = xs} h) = last_items xs (short_count h)
few_parts full l (long {xs = xs} k h) = last_items xs (long_count k h)
few_parts full l (fragment m xs ys a b c d e) = absurd (let s = length-append xs ys in omega (arith, l, s, a, c))

pub to_parts : {xs : Items} {b : Bits} → Counted xs b → InParts true xs b
to_parts (short {xs = xs} h) = last_items xs (short_count h)
to_parts (long {xs = xs} k h) = last_items xs (long_count k h)
to_parts (fragment m xs ys {b = b} l u c d e) = part_items xs ys (part_count l u) c
    (⊎_elim (λ h. few_parts (m == 4) h e) (λ h. subst (λ q. InParts q ys b) (sym (eq-eqb m 4 h)) (to_parts e)) d)

record Whole (full : Bool) (xs : Items) (b : Bits) : Type 0 where
  counted : Counted xs b
  few : full ≡ false → length xs < 16384

last_count : {n : ℕ} {full : Bool} {h : Bits} (xs : Items) → n ≡ length xs → IsCount full (last n) h → Whole full xs (h ++ all_bits xs)
last_count xs e (short_count {n = n} l) = record {
  counted = subst (λ q. Counted xs (false ∷ (low_bits 7 q ++ all_bits xs))) (sym e) (short (omega (arith, l, e)));
  few = λ f. omega (arith, l, e);
}
last_count xs e (long_count {n = n} k l) = record {
  counted = subst (λ q. Counted xs (true ∷ (false ∷ (low_bits 14 q ++ all_bits xs)))) (sym e) (long (omega (arith, k, e)) (omega (arith, l, e)));
  few = λ f. omega (arith, l, e);
}

part_at : {m : ℕ} {h b : Bits} (xs ys : Items) → IsCount true (part m) h → length xs ≡ 16384 * m → Whole (m == 4) ys b → Counted (xs ++ ys) (h ++ (all_bits xs ++ b))
part_at xs ys (part_count {m = m} l u) c w =
    fragment m xs ys l u c (⊎_elim (λ e. inr (eqb-true m 4 e)) (λ e. inl (w.few e)) (bool_cases (m == 4))) w.counted

whole_of : {full : Bool} {xs : Items} {b : Bits} → InParts full xs b → Whole full xs b
whole_of (last_items xs c) = last_count xs refl c
whole_of (part_items xs ys c l p) = record { counted = part_at xs ys c l (whole_of p); few = λ f. absurd (cc) }

pub from_parts : {xs : Items} {b : Bits} → InParts true xs b → Counted xs b
from_parts p = (whole_of p).counted

-- ---- values part by part

record AreParts {X : Type 0} (P : X → Bits → Type 0) (test : ℕ → Option Refusal) (full : Bool) (before zs : List X) (b : Bits) : Type 0 where
  values : List X
  items : Items
  are : EachHas P values items
  joined : zs ≡ before ++ values
  passed : test (length before + length items) ≡ None
  parts : InParts full items b

each_append : {X : Type 0} {P : X → Bits → Type 0} {vs ws : List X} {xs ys : Items} → EachHas P vs xs → EachHas P ws ys → EachHas P (vs ++ ws) (xs ++ ys)
each_append none_has f = f
each_append (one_has p e) f = one_has p (each_append e f)

each_long : {X : Type 0} {P : X → Bits → Type 0} {vs : List X} {xs : Items} → EachHas P vs xs → length vs ≡ length xs
each_long none_has = refl
each_long (one_has p e) = ap suc (each_long e)

-- a number, which passes the test if it is the last one
abbrev Passed : (ℕ → Option Refusal) → ℕ → Count → Type 0
Passed test d (last n) = test (d + n) ≡ None
Passed test d (part m) = Unit {0}

record IsPassed (test : ℕ → Option Refusal) (full : Bool) (d : ℕ) (c : Count) (h : Bits) : Type 0 where
  is_count : IsCount full c h
  passed : Passed test d c

passed_at : (test : ℕ → Option Refusal) (full : Bool) (d : ℕ) {b c : Count} {h : Bits} → b ≡ c → IsPassed test full d b h → IsPassed test full d c h
passed_at test full d {h = h} e p = subst (λ q. IsPassed test full d q h) e p

to_passed : (test : ℕ → Option Refusal) (full : Bool) (d : ℕ) (b c : Count) (h : Bits) → IsCount full b h → total test d b ≡ good c → IsPassed test full d c h
to_passed test full d (last n) c h p e = by (test (d + n)) refl e
  where
    by : (o : Option Refusal) → test (d + n) ≡ o → elim o [ None ↦ good (last n) | Some f ↦ bad f ] ≡ good c → IsPassed test full d c h
    by None g e = passed_at test full d (good_is e) (record { is_count = p; passed = g })
    by (Some f) g e = absurd (not_good e)
to_passed test full d (part m) c h p e = passed_at test full d (good_is e) (record { is_count = p; passed = tt })

from_passed : (test : ℕ → Option Refusal) (full : Bool) (d : ℕ) (c : Count) (h : Bits) → IsCount full c h → Passed test d c → IsJudged (IsCount full) (total test d) c h
from_passed test full d (last n) h p e = record { read = last n; is_read = p; judged = ap (λ o. elim o [ None ↦ good (last n) | Some f ↦ bad f ]) e }
from_passed test full d (part m) h p e = record { read = part m; is_read = p; judged = refl }

passes : (test : ℕ → Option Refusal) (full : Bool) (d : ℕ) → IsReading (IsPassed test full d) (judging (total test d) (count_from full))
passes test full d = same (λ c h t. to_passed test full d t.read c h t.is_read t.judged) (λ c h t. from_passed test full d c h t.is_count t.passed) (judged (total test d) (count full))

part_joined : {full : Bool} {m : ℕ} {h b : Bits} (xs ys : Items) → IsCount full (part m) h → length xs ≡ 16384 * m → InParts (m == 4) ys b → InParts full (xs ++ ys) (h ++ (all_bits xs ++ b))
part_joined xs ys (part_count l u) c p = part_items xs ys (part_count l u) c p

some_bits : {full : Bool} {c : Count} {h : Bits} → IsCount full c h → 1 ≤ length h
some_bits (short_count l) = omega arith
some_bits (long_count k l) = omega arith
some_bits (part_count k l) = omega arith

record Split {X : Type 0} (P : X → Bits → Type 0) (vs : List X) (xs ys : Items) : Type 0 where
  front : List X
  back : List X
  whole : vs ≡ front ++ back
  are_front : EachHas P front xs
  are_back : EachHas P back ys

each_split : {X : Type 0} {P : X → Bits → Type 0} (vs : List X) (xs ys : Items) → EachHas P vs (xs ++ ys) → Split P vs xs ys
each_split vs [] ys e = record { front = []; back = vs; whole = refl; are_front = none_has; are_back = e }
each_split [] (x ∷ xs) ys e = elim e [ ]
each_split (v ∷ vs) (x ∷ xs) ys (one_has p e) =
    let t = each_split vs xs ys e in
    record { front = v ∷ t.front; back = t.back; whole = ap (λ q. v ∷ q) t.whole; are_front = one_has p t.are_front; are_back = t.are_back }

module _ {X : Type 0} {P : X → Bits → Type 0} (test : ℕ → Option Refusal) (items : Several X) (F : (n : ℕ) → IsReading (AreSeveral P n) (items n)) where
  abbrev Next : List X → Count → List X → Bits → Type 0
  Next before (last n) = Then (AreSeveral P n) (λ xs w x. (w ≡ before ++ xs) × (x ≡ []))
  Next before (part m) = Then (AreSeveral P (16384 * m)) (λ xs. AreParts P test (m == 4) (before ++ xs))

  to_values : (full : Bool) (before zs : List X) (b : Bits) → Then (IsPassed test full (length before)) (Next before) zs b → AreParts P test full before zs b
  to_values full before zs b t = by t.first t.is_first.is_count t.is_first.passed t.is_next
    where
      by : (c : Count) → IsCount full c t.front → Passed test (length before) c → Next before c zs t.back → AreParts P test full before zs b
      by (last n) h p u =
          let s = u.is_first in
          record {
            values = u.first;
            items = s.items;
            are = s.are;
            joined = u.is_next.0;
            passed = ap (λ q. test (length before + q)) s.many ∙ p;
            parts = subst (InParts full s.items) (sym (t.whole ∙ ap (λ q. t.front ++ q) (u.whole ∙ ap (λ q. u.front ++ q) u.is_next.1 ∙ append-nil u.front ∙ s.whole))) (last_items s.items (subst (λ q. IsCount full (last q) t.front) (sym s.many) h));
          }
      by (part m) h p u =
          let s = u.is_first in
          let w = u.is_next in
          let l : length u.first ≡ length s.items = each_long s.are in
          let a : length (before ++ u.first) ≡ length before + length u.first = length-append before u.first in
          let k : length (s.items ++ w.items) ≡ length s.items + length w.items = length-append s.items w.items in
          let n : length before + length (s.items ++ w.items) ≡ length (before ++ u.first) + length w.items = omega (arith, l, a, k) in
          record {
            values = u.first ++ w.values;
            items = s.items ++ w.items;
            are = each_append s.are w.are;
            joined = w.joined ∙ append_assoc before u.first w.values;
            passed = ap test n ∙ w.passed;
            parts = subst (InParts full (s.items ++ w.items)) (sym (t.whole ∙ ap (λ q. t.front ++ q) (u.whole ∙ ap (λ q. q ++ u.back) s.whole))) (part_joined s.items w.items h s.many w.parts);
          }

  parts_sound : (fuel : ℕ) (full : Bool) (before : List X) → Sound (AreParts P test full before) (parts_from fuel test items full before)
  parts_sound zero full before = record { is = λ b r v e. absurd (not_both e) }
  parts_sound (suc fuel) full before = same_sound (to_values full before) (next_sound (sound_of (passes test full (length before))) (by (λ f xs. parts_sound fuel f xs)))
    where
      by : ((f : Bool) (xs : List X) → Sound (AreParts P test f xs) (parts_from fuel test items f xs)) → (c : Count) → Sound (Next before c) (λ r. items_of items before c r (λ f xs s. parts_from fuel test items f xs s))
      by again (last n) = next_sound (sound_of (F n)) (λ xs. sound_of (nothing (before ++ xs)))
      by again (part m) = next_sound (sound_of (F (16384 * m))) (λ xs. again (m == 4) (before ++ xs))

  parts_inside : (fuel : ℕ) (full : Bool) (before : List X) → Inside (parts_from fuel test items full before)
  parts_inside zero full before = record { is = λ b r e d. ([], stops_where refl d) }
  parts_inside (suc fuel) full before = next_inside (sound_of (passes test full (length before))) (inside_of (passes test full (length before))) (by (λ f xs. parts_inside fuel f xs))
    where
      by : ((f : Bool) (xs : List X) → Inside (parts_from fuel test items f xs)) → (c : Count) → Inside (λ r. items_of items before c r (λ f xs s. parts_from fuel test items f xs s))
      by again (last n) = next_inside (sound_of (F n)) (inside_of (F n)) (λ xs. inside_of (nothing (before ++ xs)))
      by again (part m) = next_inside (sound_of (F (16384 * m))) (inside_of (F (16384 * m))) (λ xs. again (m == 4) (before ++ xs))

  parts_grow : (fuel more : ℕ) (full : Bool) (before : List X) → fuel ≤ more → Grows (parts_from fuel test items full before) (parts_from more test items full before)
  parts_grow zero more full before l = record { finds = λ b r m v e. absurd (not_both e); stays = λ b r m e d n. absurd (n (stops_why d refl)) }
  parts_grow (suc fuel) zero full before l = absurd (omega arith)
  parts_grow (suc fuel) (suc more) full before l = next_grows (grows_of (passes test full (length before))) (by (λ f xs. parts_grow fuel more f xs (omega (arith, l))))
    where
      by : ((f : Bool) (xs : List X) → Grows (parts_from fuel test items f xs) (parts_from more test items f xs)) → (c : Count) → Grows (λ r. items_of items before c r (λ f xs s. parts_from fuel test items f xs s)) (λ r. items_of items before c r (λ f xs s. parts_from more test items f xs s))
      by again (last n) = next_grows (grows_of (F n)) (λ xs. grows_of (nothing (before ++ xs)))
      by again (part m) = next_grows (grows_of (F (16384 * m))) (λ xs. again (m == 4) (before ++ xs))

  abbrev Answers : ℕ → Bool → List X → List X → Bits → Bits → Type 0
  Answers fuel full before zs b r = parts_from fuel test items full before (b ++ r) ≡ found zs r

  abbrev Again : ℕ → Bits → Type 0
  Again fuel r = (f : Bool) (xs zs : List X) (z : Bits) → AreParts P test f xs zs z → length z < fuel → Answers fuel f xs zs z r

  parts_whole : (fuel : ℕ) (full : Bool) (before zs : List X) (b r : Bits) → AreParts P test full before zs b → length b < fuel → Answers fuel full before zs b r
  parts_whole zero full before zs b r t l = absurd (omega arith)
  parts_whole (suc fuel) full before zs b r t l = by (λ f xs zs z p k. parts_whole fuel f xs zs z r p k) full b t.items t.values refl refl t.are t.joined t.passed t.parts
    where
      go : (h z : Bits) (c : Count) → IsCount full c h → Passed test (length before) c → b ≡ h ++ z → items_of items before c (z ++ r) (λ f xs s. parts_from fuel test items f xs s) ≡ found zs r → Answers (suc fuel) full before zs b r
      go h z c i p e k =
          ap (λ q. parts_from (suc fuel) test items full before (q ++ r)) e
          ∙ ap (parts_from (suc fuel) test items full before) (append_assoc h z r)
          ∙ ap (λ o. onward o (λ c r. items_of items before c r (λ f xs s. parts_from fuel test items f xs s))) ((passes test full (length before)).whole c h (z ++ r) (record { is_count = i; passed = p }))
          ∙ k

      in_part : Again fuel r → {m : ℕ} {h z : Bits} (vs : List X) (xs ys : Items) → EachHas P vs (xs ++ ys) → zs ≡ before ++ vs → test (length before + length (xs ++ ys)) ≡ None → b ≡ h ++ (all_bits xs ++ z) → IsCount full (part m) h → length xs ≡ 16384 * m → InParts (m == 4) ys z → Answers (suc fuel) full before zs b r
      in_part again {m} {h} {z} vs xs ys e j p w i c q =
          let s = each_split vs xs ys e in
          let a : length (before ++ s.front) ≡ length before + length s.front = length-append before s.front in
          let k : length (xs ++ ys) ≡ length xs + length ys = length-append xs ys in
          let f : length s.front ≡ length xs = each_long s.are_front in
          let n : length (before ++ s.front) + length ys ≡ length before + length (xs ++ ys) = omega (arith, a, k, f) in
          let lb : length b ≡ length h + length (all_bits xs ++ z) = ap length w ∙ length-append h (all_bits xs ++ z) in
          let lz : length (all_bits xs ++ z) ≡ length (all_bits xs) + length z = length-append (all_bits xs) z in
          let lh = some_bits i in
          let rest : AreParts P test (m == 4) (before ++ s.front) zs z = record {
            values = s.back;
            items = ys;
            are = s.are_back;
            joined = j ∙ ap (λ q. before ++ q) s.whole ∙ sym (append_assoc before s.front s.back);
            passed = ap test n ∙ p;
            parts = q;
          } in
          go h (all_bits xs ++ z) (part m) i tt w
          (ap (λ q. onward (items (16384 * m) q) (λ xs s. parts_from fuel test items (m == 4) (before ++ xs) s)) (append_assoc (all_bits xs) z r)
          ∙ ap (λ o. onward o (λ xs s. parts_from fuel test items (m == 4) (before ++ xs) s)) ((F (16384 * m)).whole s.front (all_bits xs) (z ++ r) (record { items = xs; are = s.are_front; many = c; whole = refl }))
          ∙ again (m == 4) (before ++ s.front) zs z rest (omega (arith, l, lb, lz, lh)))

      by : Again fuel r → (f : Bool) (z : Bits) (xs : Items) (vs : List X) → f ≡ full → z ≡ b → EachHas P vs xs → zs ≡ before ++ vs → test (length before + length xs) ≡ None → InParts f xs z → Answers (suc fuel) full before zs b r
      by again f z zz vs ef eb e j p (last_items {h = h} xs i) =
          go h (all_bits xs) (last (length xs)) (subst (λ q. IsCount q (last (length xs)) h) ef i) p (sym eb)
          (ap (λ o. onward o (λ xs s. found (before ++ xs) s)) ((F (length xs)).whole vs (all_bits xs) r (record { items = xs; are = e; many = refl; whole = refl }))
          ∙ ap (λ q. found q r) (sym j))
      by again f z zz vs ef eb e j p (part_items {m = m} {h = h} xs ys i c q) = in_part again vs xs ys e j p (sym eb) (subst (λ q. IsCount q (part m) h) ef i) c q

  pub counted : IsReading (AreCounted P test) (counted_from test items)
  counted = record {
    sound = λ b r v e. (let s = (parts_sound (suc (length b)) true []).is b r v e in (s.0, to v s.0 s.1, s.2));
    whole = λ v x r c. parts_whole (suc (length (x ++ r))) true [] v x r (from v x c) (let a = length-append x r in omega (arith, a));
    firm = λ b r m e d n. (parts_grow (suc (length b)) (suc (length (b ++ m))) true [] (let a = length-append b m in omega (arith, a))).stays b r m e d n;
    inside = λ b r e d. (parts_inside (suc (length b)) true []).is b r e d;
  }
    where
      to : (v : List X) (x : Bits) → AreParts P test true [] v x → AreCounted P test v x
      to v x t = record { items = t.items; are = subst (λ q. EachHas P q t.items) (sym t.joined) t.are; passed = ap test (let z : length t.items ≡ 0 + length t.items = omega arith in z) ∙ t.passed; counted = from_parts t.parts }

      from : (v : List X) (x : Bits) → AreCounted P test v x → AreParts P test true [] v x
      from v x c = record { values = v; items = c.items; are = c.are; joined = refl; passed = ap test (let z : 0 + length c.items ≡ length c.items = omega arith in z) ∙ c.passed; parts = to_parts c.counted }
