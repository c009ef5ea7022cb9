-- Whole numbers are read as their constraint bounds them.
use Rattle.std.proofs.Common.{arith, ◌≡◌, ℕ, ◌≤◌, ⊎_elim, Bool, true, false, List, [], ◌∷◌, ◌++◌, refl, sym, ap, subst, ◌∙◌}
use Rattle.std.proofs.lemmas.Int.{ints}
use Rattle.std.proofs.lemmas.Bool.{lt-ltb, le-ltb, cases_lt}
use Rattle.std.specs.Prelude.{nat_lt, nat_abs, if◌then◌else◌, ◌&&◌, Option, Some, None, IfSome, ℤ, pos, ◌+ℤ◌, ◌-ℤ◌, ◌≤ℤ◌}
use Rattle.bits.specs.Words.{low_bits}
use Rattle.asn_base.specs.Abstract.{AbstractValue, integer}
use Rattle.asn_base.specs.Types.{Bounds, Constraint, an_integer}
use Rattle.asn_base.specs.Typed.{IsAllowed, IsWithinLimit, IsPrimitive, fits_integer}
use Rattle.asn_base.specs.Schemas.{AreBounds, IsNumber}
use Rattle.packed_encodings.specs.Lengths.{Bits, fewest_bits, IsInRootBounds, CountedOctets}
use Rattle.packed_encodings.specs.Numbers.{IntegerInRoot, between, from_least, unbounded, Integer, integer_bounded, integer_in_root, integer_outside}
use Rattle.packed_encodings.specs.Leaves.{LeafPer, of_integer}
use Rattle.packed_encodings.specs.Computed.{is_in_root}
use Rattle.decode_faults.specs.declared.refusal.Refusal.TheVariants as why
use Rattle.packed_readings.specs.Outcome.{Outcome, onward, Judged, good, bad, and_then, bit_from, field_from, IsBit, IsField, IsReading, Then, IsJudged, judging}
use Rattle.packed_readings.specs.Composing.{next, judged, same}
use Rattle.packed_readings.specs.Counts.{is_allowed, octets_from}
use Rattle.packed_readings.specs.Leaves.{is_within_limit, root_number, other_number, signed_number, unsigned_number, number_between, root_integer_from, integer_from, IsLeafOf}
use Rattle.packed_encodings.specs.proving.Words.{fewest_fit}
use Rattle.packed_readings.proofs.Fields.{if_true, if_false, bit, field}
use Rattle.packed_readings.proofs.Octets.{octets}
use Rattle.packed_encodings.specs.proving.Tests.{both_true, true_both, in_root_true, in_root_is, in_root_false}
use Rattle.packed_encodings.specs.proving.Bounding.{far_is, above}
use Rattle.packed_readings.proofs.Ranges.{apart, if_reading, allowed_true, allowed_is}
use Rattle.packed_readings.proofs.Sizes.{good_is, not_good, in_order}
use Rattle.packed_readings.proofs.Shortest.{limit_true, limit_is, signed_is, is_signed, unsigned_is, is_unsigned}

-- ---- judged one after the other

pub record Both {X Y : Type 0} (j : Judged X) (k : X → Judged Y) (w : Y) : Type 0 where
  pub value : X
  pub is_first : j ≡ good value
  pub is_second : k value ≡ good w

pub both_of : {X Y : Type 0} (j : Judged X) (k : X → Judged Y) (w : Y) → and_then j k ≡ good w → Both j k w
both_of (good v) k w e = record { value = v; is_first = refl; is_second = e }
both_of (bad f) k w e = absurd (not_good e)

pub of_both : {X Y : Type 0} (j : Judged X) (k : X → Judged Y) (v : X) (w : Y) → j ≡ good v → k v ≡ good w → and_then j k ≡ good w
of_both j k v w e f = ap (λ q. and_then q k) e ∙ f

-- ---- judgements of a number

record IsRootNumber (c : Constraint) (z : ℤ) (w : AbstractValue) : Type 0 where
  is : w ≡ integer z
  within : IsWithinLimit z
  inside : IsInRootBounds c.visible z
  allowed : IsAllowed c z

root_number_is : (c : Constraint) (z : ℤ) (w : AbstractValue) → root_number c z ≡ good w → IsRootNumber c z w
root_number_is c z w e = by (is_within_limit z) refl (is_in_root c.visible z && is_allowed c z) refl e
  where
    by : (a : Bool) → is_within_limit z ≡ a → (b : Bool) → (is_in_root c.visible z && is_allowed c z) ≡ b → (if a then (if b then good (integer z) else bad why.Outside) else bad why.IntegerLimit) ≡ good w → IsRootNumber c z w
    by true f true g e =
        let p = true_both (is_in_root c.visible z) (is_allowed c z) g in
        record { is = sym (good_is e); within = limit_is z f; inside = in_root_is c.visible z p.0; allowed = allowed_is c z p.1 }
    by true f false g e = absurd (not_good e)
    by false f b g e = absurd (not_good e)

is_root_number : (c : Constraint) (z : ℤ) → IsWithinLimit z → IsInRootBounds c.visible z → IsAllowed c z → root_number c z ≡ good (integer z)
is_root_number c z l r a =
    if_true (is_within_limit z) (if is_in_root c.visible z && is_allowed c z then good (integer z) else bad why.Outside) (bad why.IntegerLimit) (limit_true z l)
    ∙ if_true (is_in_root c.visible z && is_allowed c z) (good (integer z)) (bad why.Outside) (both_true (is_in_root c.visible z) (is_allowed c z) (in_root_true c.visible z r) (allowed_true c z a))

record IsOther (c : Constraint) (z : ℤ) (w : AbstractValue) : Type 0 where
  is : w ≡ integer z
  within : IsWithinLimit z
  outside : IsInRootBounds c.visible z → ⊥
  allowed : IsAllowed c z

other_number_is : (c : Constraint) (z : ℤ) (w : AbstractValue) → other_number c z ≡ good w → IsOther c z w
other_number_is c z w e = by (is_within_limit z) refl (is_in_root c.visible z) refl (is_allowed c z) refl e
  where
    by : (a : Bool) → is_within_limit z ≡ a → (b : Bool) → is_in_root c.visible z ≡ b → (d : Bool) → is_allowed c z ≡ d → (if a then (if b then bad why.NotCanonical else (if d then good (integer z) else bad why.Outside)) else bad why.IntegerLimit) ≡ good w → IsOther c z w
    by true f false g true h e = record { is = sym (good_is e); within = limit_is z f; outside = λ r. apart (sym (in_root_true c.visible z r) ∙ g); allowed = allowed_is c z h }
    by true f false g false h e = absurd (not_good e)
    by true f true g d h e = absurd (not_good e)
    by false f b g d h e = absurd (not_good e)

is_other_number : (c : Constraint) (z : ℤ) → IsWithinLimit z → (IsInRootBounds c.visible z → ⊥) → IsAllowed c z → other_number c z ≡ good (integer z)
is_other_number c z l r a =
    if_true (is_within_limit z) (if is_in_root c.visible z then bad why.NotCanonical else (if is_allowed c z then good (integer z) else bad why.Outside)) (bad why.IntegerLimit) (limit_true z l)
    ∙ if_false (is_in_root c.visible z) (bad why.NotCanonical) (if is_allowed c z then good (integer z) else bad why.Outside) (in_root_false c.visible z r)
    ∙ if_true (is_allowed c z) (good (integer z)) (bad why.Outside) (allowed_true c z a)

-- ---- how far above a number another one is

pub far_above : (l u : ℤ) → l ≤ℤ u → u ≡ l +ℤ pos (nat_abs (u -ℤ l))
far_above l u h = let r = above l u h in r.1 ∙ ap (λ q. l +ℤ pos q) (sym (far_is l u r.0 r.1))

some_same : {A : Type 0} {x y : A} → Some x ≡ Some y → x ≡ y
some_same e = cc

none_some : {A : Type 0} {x : A} → None ≡ Some x → ⊥
none_some e = cc

in_between : (v l : ℤ) (m n : ℕ) (z : Bounds) → z.least ≡ Some l → z.greatest ≡ Some (l +ℤ pos m) → n ≤ m → v ≡ l +ℤ pos n → IsInRootBounds z v
in_between v l m n z e f h g = (
  subst (λ q. IfSome q (λ l. l ≤ℤ v)) (sym e) (let k : l ≤ℤ v = omega (arith, ints, g) in k),
  subst (λ q. IfSome q (λ u. v ≤ℤ u)) (sym f) (let k : v ≤ℤ (l +ℤ pos m) = omega (arith, ints, g, h) in k),
)

pub is_in_the_root : {z : Bounds} {v : ℤ} {b : Bits} → IntegerInRoot z v b → IsInRootBounds z v
is_in_the_root {z} {v} (between l m n e f h g) = in_between v l m n z e f h g
is_in_the_root {z} {v} (from_least l n e f g u c) = (
  subst (λ q. IfSome q (λ l. l ≤ℤ v)) (sym e) (let k : l ≤ℤ v = omega (arith, ints, g) in k),
  subst (λ q. IfSome q (λ u. v ≤ℤ u)) (sym f) tt,
)
is_in_the_root {z} {v} (unbounded e i n c) = (subst (λ q. IfSome q (λ l. l ≤ℤ v)) (sym e) tt, i)

-- ---- numbers of the root

record RootInteger (c : Constraint) (w : AbstractValue) (b : Bits) : Type 0 where
  number : ℤ
  is : w ≡ integer number
  bits : IntegerInRoot c.visible number b
  within : IsWithinLimit number
  allowed : IsAllowed c number

in_root_at : {z : Bounds} {v : ℤ} {a b : Bits} → a ≡ b → IntegerInRoot z v b → IntegerInRoot z v a
in_root_at {z} {v} e p = subst (λ q. IntegerInRoot z v q) (sym e) p

module _ (c : Constraint) (bounds : AreBounds IsNumber c) where
  module _ (l u : ℤ) (least : c.visible.least ≡ Some l) (greatest : c.visible.greatest ≡ Some u) where
    abbrev m : ℕ
    m = nat_abs (u -ℤ l)

    top : u ≡ l +ℤ pos m
    top = far_above l u (in_order IsNumber c l u bounds least greatest)

    between_to : (w : AbstractValue) (b : Bits) → IsJudged (IsField (fewest_bits m)) (number_between c l m) w b → RootInteger c w b
    between_to w b j = ⊎_elim
        (λ h. absurd (not_good (sym (if_true (nat_lt m j.read) (bad why.Outside) (root_number c (l +ℤ pos j.read)) (lt-ltb m j.read h)) ∙ j.judged)))
        (λ h. (let r = root_number_is c (l +ℤ pos j.read) w (sym (if_false (nat_lt m j.read) (bad why.Outside) (root_number c (l +ℤ pos j.read)) (le-ltb m j.read h)) ∙ j.judged) in
        record { number = l +ℤ pos j.read; is = r.is; bits = in_root_at j.is_read.is (between l m j.read least (greatest ∙ ap (λ q. Some q) top) h refl); within = r.within; allowed = r.allowed }))
        (cases_lt m j.read)

    between_at : (w : AbstractValue) (v : ℤ) (n : ℕ) (b : Bits) → w ≡ integer v → n ≤ m → v ≡ l +ℤ pos n → b ≡ low_bits (fewest_bits m) n → IsWithinLimit v → IsAllowed c v → IsJudged (IsField (fewest_bits m)) (number_between c l m) w b
    between_at w v n b e h g f i a = record {
      read = n;
      is_read = record { fits = fewest_fit m n h; is = f };
      judged =
          if_false (nat_lt m n) (bad why.Outside) (root_number c (l +ℤ pos n)) (le-ltb m n h)
          ∙ is_root_number c (l +ℤ pos n) (subst IsWithinLimit g i) (in_between (l +ℤ pos n) l m n c.visible least (greatest ∙ ap (λ q. Some q) top) h refl) (subst (IsAllowed c) g a)
          ∙ ap (λ q. good (integer q)) (sym g) ∙ ap good (sym e);
    }

    between_from : (w : AbstractValue) (b : Bits) (r : RootInteger c w b) → IsJudged (IsField (fewest_bits m)) (number_between c l m) w b
    between_from w b r = by r.number b r.is r.bits r.within r.allowed
      where
        by : (v : ℤ) (b : Bits) → w ≡ integer v → IntegerInRoot c.visible v b → IsWithinLimit v → IsAllowed c v → IsJudged (IsField (fewest_bits m)) (number_between c l m) w b
        by v b e (between k p n lk gp h g) i a =
            let same : k ≡ l = some_same (sym lk ∙ least) in
            let far : p ≡ m = sym (far_is k (k +ℤ pos p) p refl) ∙ ap nat_abs (ap (λ q. q -ℤ k) (some_same (sym gp ∙ greatest)) ∙ ap (λ q. u -ℤ q) same) in
            between_at w v n (low_bits (fewest_bits p) n) e (omega (arith, far, h)) (g ∙ ap (λ q. q +ℤ pos n) same) (ap (λ q. low_bits (fewest_bits q) n) far) i a
        by v b e (from_least k n lk gk g s d) i a = absurd (none_some (sym gk ∙ greatest))
        by v b e (unbounded lk h s d) i a = absurd (none_some (sym lk ∙ least))

    root_between : IsReading (RootInteger c) (judging (number_between c l m) (field_from (fewest_bits m)))
    root_between = same between_to between_from (judged (number_between c l m) (field (fewest_bits m)))

  module _ (l : ℤ) (least : c.visible.least ≡ Some l) (greatest : c.visible.greatest ≡ None) where
    abbrev above_least : List ℕ → Judged AbstractValue
    above_least o = and_then (unsigned_number o) (λ n. root_number c (l +ℤ pos n))

    least_to : (w : AbstractValue) (b : Bits) → IsJudged CountedOctets above_least w b → RootInteger c w b
    least_to w b j =
        let t = both_of (unsigned_number j.read) (λ n. root_number c (l +ℤ pos n)) w j.judged in
        let r = root_number_is c (l +ℤ pos t.value) w t.is_second in
        record { number = l +ℤ pos t.value; is = r.is; bits = from_least l t.value least greatest refl (unsigned_is j.read t.value j.is_read.octets t.is_first) j.is_read; within = r.within; allowed = r.allowed }

    least_from : (w : AbstractValue) (b : Bits) (r : RootInteger c w b) → IsJudged CountedOctets above_least w b
    least_from w b r = by r.number b r.is r.bits r.within r.allowed
      where
        by : (v : ℤ) (b : Bits) → w ≡ integer v → IntegerInRoot c.visible v b → IsWithinLimit v → IsAllowed c v → IsJudged CountedOctets above_least w b
        by v b e (between k p n lk gp h g) i a = absurd (none_some (sym greatest ∙ gp))
        by v b e (from_least k n {o = o} lk gk g s d) i a =
            let same : k ≡ l = some_same (sym lk ∙ least) in
            let f : v ≡ l +ℤ pos n = g ∙ ap (λ q. q +ℤ pos n) same in
            record {
              read = o;
              is_read = d;
              judged =
                  of_both (unsigned_number o) (λ n. root_number c (l +ℤ pos n)) n w (is_unsigned o n s)
                  (is_root_number c (l +ℤ pos n) (subst IsWithinLimit f i) (subst (IsInRootBounds c.visible) f (is_in_the_root {z = c.visible} (from_least k n lk gk g s d))) (subst (IsAllowed c) f a)
                  ∙ ap (λ q. good (integer q)) (sym f) ∙ ap good (sym e));
            }
        by v b e (unbounded lk h s d) i a = absurd (none_some (sym lk ∙ least))

    root_above : IsReading (RootInteger c) (judging above_least octets_from)
    root_above = same least_to least_from (judged above_least octets)

  module _ (least : c.visible.least ≡ None) where
    abbrev any_root : List ℕ → Judged AbstractValue
    any_root o = and_then (signed_number o) (root_number c)

    any_to : (w : AbstractValue) (b : Bits) → IsJudged CountedOctets any_root w b → RootInteger c w b
    any_to w b j =
        let t = both_of (signed_number j.read) (root_number c) w j.judged in
        let r = root_number_is c t.value w t.is_second in
        record { number = t.value; is = r.is; bits = unbounded least r.inside.1 (signed_is j.read t.value j.is_read.octets t.is_first) j.is_read; within = r.within; allowed = r.allowed }

    any_from : (w : AbstractValue) (b : Bits) (r : RootInteger c w b) → IsJudged CountedOctets any_root w b
    any_from w b r = by r.number b r.is r.bits r.within r.allowed
      where
        by : (v : ℤ) (b : Bits) → w ≡ integer v → IntegerInRoot c.visible v b → IsWithinLimit v → IsAllowed c v → IsJudged CountedOctets any_root w b
        by v b e (between k p n lk gp h g) i a = absurd (none_some (sym least ∙ lk))
        by v b e (from_least k n lk gk g s d) i a = absurd (none_some (sym least ∙ lk))
        by v b e (unbounded {o = o} lk h s d) i a = record {
          read = o;
          is_read = d;
          judged = of_both (signed_number o) (root_number c) v w (is_signed o v s) (is_root_number c v i (is_in_the_root {z = c.visible} (unbounded lk h s d)) a ∙ ap good (sym e));
        }

    root_any : IsReading (RootInteger c) (judging any_root octets_from)
    root_any = same any_to any_from (judged any_root octets)

  root_reading : (o g : Option ℤ) → c.visible.least ≡ o → c.visible.greatest ≡ g → IsReading (RootInteger c) (root_integer_from c o g)
  root_reading (Some l) (Some u) e f = root_between l u e f
  root_reading (Some l) None e f = root_above l e f
  root_reading None g e f = root_any e

  -- ---- with the bit before

  abbrev Outside : List ℕ → Judged AbstractValue
  Outside o = and_then (signed_number o) (other_number c)

  abbrev Following : Bool → AbstractValue → Bits → Type 0
  Following true = IsJudged CountedOctets Outside
  Following false = RootInteger c

  abbrev outcome_from : Bool → Bits → Outcome AbstractValue
  outcome_from x r = if x then judging Outside octets_from r else root_integer_from c c.visible.least c.visible.greatest r

  following : (x : Bool) → IsReading (Following x) (outcome_from x)
  following true = judged Outside octets
  following false = root_reading c.visible.least c.visible.greatest refl refl

  leaf_at : (w : AbstractValue) (v : ℤ) (b : Bits) → w ≡ integer v → Integer c.visible v b → IsWithinLimit v → IsAllowed c v → IsLeafOf (an_integer c) w b
  leaf_at w v b e p i a = record {
    leaf = subst (λ q. LeafPer (an_integer c) q b) (sym e) (of_integer p);
    fits = subst (IsPrimitive (an_integer c)) (sym e) (fits_integer i a);
  }

  record Taken (w : AbstractValue) (b : Bits) : Type 0 where
    number : ℤ
    is : w ≡ integer number
    bits : Integer c.visible number b
    within : IsWithinLimit number
    allowed : IsAllowed c number

  taken : {w : AbstractValue} {b : Bits} → LeafPer (an_integer c) w b → IsPrimitive (an_integer c) w → Taken w b
  taken (of_integer {z = v} p) (fits_integer i a) = record { number = v; is = refl; bits = p; within = i; allowed = a }

  marked_to : c.visible.extensible ≡ true → (w : AbstractValue) (x : Bits) → Then IsBit Following w x → IsLeafOf (an_integer c) w x
  marked_to e w x t = by t.first t.back (t.whole ∙ ap (λ q. q ++ t.back) t.is_first) t.is_next
    where
      by : (b : Bool) (y : Bits) → x ≡ b ∷ y → Following b w y → IsLeafOf (an_integer c) w x
      by true y f j =
          let t = both_of (signed_number j.read) (other_number c) w j.judged in
          let r = other_number_is c t.value w t.is_second in
          leaf_at w t.value x r.is (subst (Integer c.visible t.value) (sym f) (integer_outside e r.outside (signed_is j.read t.value j.is_read.octets t.is_first) j.is_read)) r.within r.allowed
      by false y f r = leaf_at w r.number x r.is (subst (Integer c.visible r.number) (sym f) (integer_in_root e r.bits)) r.within r.allowed

  marked_from : c.visible.extensible ≡ true → (w : AbstractValue) (x : Bits) → IsLeafOf (an_integer c) w x → Then IsBit Following w x
  marked_from e w x l = let t = taken l.leaf l.fits in by t.number x t.is t.bits t.within t.allowed
    where
      by : (v : ℤ) (x : Bits) → w ≡ integer v → Integer c.visible v x → IsWithinLimit v → IsAllowed c v → Then IsBit Following w x
      by v x f (integer_bounded n p) i a = absurd (apart (sym e ∙ n))
      by v x f (integer_in_root {b = b} n p) i a = record {
        first = false;
        front = false ∷ [];
        back = b;
        is_first = refl;
        is_next = record { number = v; is = f; bits = p; within = i; allowed = a };
        whole = refl;
      }
      by v x f (integer_outside {o = o} {b = b} n r s d) i a = record {
        first = true;
        front = true ∷ [];
        back = b;
        is_first = refl;
        is_next = record { read = o; is_read = d; judged = of_both (signed_number o) (other_number c) v w (is_signed o v s) (is_other_number c v i r a ∙ ap good (sym f)) };
        whole = refl;
      }

  plain_to : c.visible.extensible ≡ false → (w : AbstractValue) (x : Bits) → RootInteger c w x → IsLeafOf (an_integer c) w x
  plain_to e w x r = leaf_at w r.number x r.is (integer_bounded e r.bits) r.within r.allowed

  plain_from : c.visible.extensible ≡ false → (w : AbstractValue) (x : Bits) → IsLeafOf (an_integer c) w x → RootInteger c w x
  plain_from e w x l = let t = taken l.leaf l.fits in by t.number x t.is t.bits t.within t.allowed
    where
      by : (v : ℤ) (x : Bits) → w ≡ integer v → Integer c.visible v x → IsWithinLimit v → IsAllowed c v → RootInteger c w x
      by v x f (integer_bounded n p) i a = record { number = v; is = f; bits = p; within = i; allowed = a }
      by v x f (integer_in_root n p) i a = absurd (apart (sym n ∙ e))
      by v x f (integer_outside n r s d) i a = absurd (apart (sym n ∙ e))

  pub integers : IsReading (IsLeafOf (an_integer c)) (integer_from c)
  integers = if_reading (IsLeafOf (an_integer c)) c.visible.extensible (λ b. onward (bit_from b) outcome_from) (root_integer_from c c.visible.least c.visible.greatest)
      (λ e. same (marked_to e) (marked_from e) (next bit following))
      (λ e. same (plain_to e) (plain_from e) (root_reading c.visible.least c.visible.greatest refl refl))
