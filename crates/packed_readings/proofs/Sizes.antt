-- The bits before items by the bounds of SIZE, and sized items, are read as they are.
use Rattle.std.proofs.Common.{arith, ◌≡◌, ℕ, ◌+◌, ◌-◌, ◌<◌, ◌≤◌, ◌⊎◌, inl, inr, ⊎_elim, Bool, true, false, List, [], ◌∷◌, ◌++◌, length, refl, sym, ap, subst, ◌∙◌, append_assoc}
use Rattle.std.proofs.lemmas.Int.{ints}
use Rattle.std.proofs.lemmas.Bool.{lt-ltb, le-ltb, ltb-true, ltb-false, cases_lt}
use Rattle.std.proofs.lemmas.List.{append-nil}
use Rattle.std.specs.Prelude.{nat_lt, nat_abs, if◌then◌else◌, ◌&&◌, Option, Some, None, IfSome, ℤ, pos, negsuc, ◌≤ℤ◌}
use Rattle.bits.specs.Words.{low_bits}
use Rattle.asn_base.specs.Types.{Constraint}
use Rattle.asn_base.specs.Typed.{IsInSome, IsAllowedSize}
use Rattle.asn_base.specs.Schemas.{IsLeast, IsGreatest, AreBounds, IsSize}
use Rattle.packed_encodings.specs.Lengths.{Bits, Items, all_bits, fewest_bits, Counted, IsInRootBounds, IsNarrow, CountedInRoot, narrow, wide, Sized, sized, sized_in_root, sized_outside}
use Rattle.packed_encodings.specs.Leaves.{root_bit}
use Rattle.packed_encodings.specs.Computed.{is_in_root}
use Rattle.decode_faults.specs.declared.refusal.Refusal.{Refusal}
use Rattle.decode_faults.specs.declared.refusal.Refusal.TheVariants.{NotCanonical, Outside}
use Rattle.packed_readings.specs.Outcome.{Outcome, found, onward, Judged, good, bad, bit_from, field_from, IsBit, IsField, IsReading, Then, IsJudged, judging}
use Rattle.packed_readings.specs.Composing.{next, judged, same}
use Rattle.packed_readings.specs.Counts.{EachHas, AreSeveral, AreCounted, AreSized, Several, Sizing, at_once, counted as stated_counted, size_of, root_size, size_from, size_fault, after_size, sized_from, is_allowed, IsSizing, narrow_size, wide_size, outside_size, InSize, items_at_once, items_in_parts}
use Rattle.packed_encodings.specs.proving.Words.{fewest_fit}
use Rattle.packed_readings.proofs.Fields.{if_true, if_false, bit, field, nothing}
use Rattle.packed_readings.proofs.Parts.{to_parts, from_parts, counted}
use Rattle.packed_encodings.specs.proving.Bounding.{least_size}
use Rattle.packed_encodings.specs.proving.Tests.{in_root_true, in_root_is, in_root_false}
use Rattle.packed_readings.proofs.Ranges.{apart, if_reading, allowed_true, allowed_is}

some_same : {A : Type 0} {x y : A} → Some x ≡ Some y → x ≡ y
some_same e = cc

none_some : {A : Type 0} {x : A} → None ≡ Some x → ⊥
none_some e = cc

pos_same : {m n : ℕ} → pos m ≡ pos n → m ≡ n
pos_same e = ap nat_abs e

not_negative : {m n : ℕ} → Some (negsuc m) ≡ Some (pos n) → ⊥
not_negative e = cc

pub good_is : {X : Type 0} {v w : X} → good v ≡ good w → v ≡ w
good_is d = cc

pub not_good : {X : Type 0} {e : Refusal} {v : X} → bad e ≡ good v → ⊥
not_good d = absurd (cc)

pub size_least : (c : Constraint) → AreBounds IsSize c → (l : ℕ) × (c.visible.least ≡ Some (pos l))
size_least c b = least_size (λ z. IsSize z × IfSome b.root (IsInSome z)) c.visible.least (λ z q. q.0) b.least

pub in_order : (P : ℤ → Type 0) (c : Constraint) (l u : ℤ) → AreBounds P c → c.visible.least ≡ Some l → c.visible.greatest ≡ Some u → l ≤ℤ u
in_order P c l u b e f =
    let g : IsGreatest (λ z. P z × IfSome b.root (IsInSome z)) (Some u) = subst (IsGreatest (λ z. P z × IfSome b.root (IsInSome z))) f b.greatest in
    let m : IsLeast (λ z. P z × IfSome b.root (IsInSome z)) (Some l) = subst (IsLeast (λ z. P z × IfSome b.root (IsInSome z))) e b.least in
    m.1 u g.0

-- ---- the bits before items

data IsRootSizing (c : Constraint) : Sizing → Bits → Type 0 where
  narrow_root : (l m n : ℕ)
      → c.visible.least ≡ Some (pos l)
      → c.visible.greatest ≡ Some (pos (l + m))
      → l + m < 65536
      → n ≤ m
      → IsAllowedSize c (l + n)
      → IsRootSizing c (at_once (l + n)) (low_bits (fewest_bits m) n)
  wide_root : (IsNarrow c.visible.greatest → ⊥) → IsRootSizing c (stated_counted false) []

root_sizing_at : (c : Constraint) {y z : Sizing} {x w : Bits} → y ≡ z → x ≡ w → IsRootSizing c y x → IsRootSizing c z w
root_sizing_at c {z = z} {x = x} e f p = subst (IsRootSizing c z) f (subst (λ q. IsRootSizing c q x) e p)

module _ (c : Constraint) (bounds : AreBounds IsSize c) where
  root_wide : (IsNarrow c.visible.greatest → ⊥) → IsReading (IsRootSizing c) (found (stated_counted false))
  root_wide n = same (λ z x p. root_sizing_at c (sym p.0) (sym p.1) (wide_root n)) from (nothing (stated_counted false))
    where
      is_narrow : {o : Option ℤ} {u : ℕ} → o ≡ Some (pos u) → u < 65536 → IsNarrow o
      is_narrow e l = subst IsNarrow (sym e) l

      from : (z : Sizing) (x : Bits) → IsRootSizing c z x → (z ≡ stated_counted false) × (x ≡ [])
      from z x (narrow_root l m k e f g h a) = absurd (n (is_narrow f g))
      from z x (wide_root h) = (refl, refl)

  module _ (l u : ℕ) (least : c.visible.least ≡ Some (pos l)) (greatest : c.visible.greatest ≡ Some (pos u)) (few : u < 65536) where
    in_bounds : l ≤ u
    in_bounds = let h = in_order IsSize c (pos l) (pos u) bounds least greatest in omega (arith, ints, h)

    sized_to : (z : Sizing) (x : Bits) → IsJudged (IsField (fewest_bits (u - l))) (size_of c l (u - l)) z x → IsRootSizing c z x
    sized_to z x j = ⊎_elim
        (λ h. absurd (not_good (sym (if_true (nat_lt (u - l) j.read) (bad Outside) inner (lt-ltb (u - l) j.read h)) ∙ j.judged)))
        (λ h. by h (is_allowed c (pos (l + j.read))) refl (sym (if_false (nat_lt (u - l) j.read) (bad Outside) inner (le-ltb (u - l) j.read h)) ∙ j.judged))
        (cases_lt (u - l) j.read)
      where
        inner : Judged Sizing
        inner = if is_allowed c (pos (l + j.read)) then good (at_once (l + j.read)) else bad Outside

        by : j.read ≤ u - l → (t : Bool) → is_allowed c (pos (l + j.read)) ≡ t → (if t then good (at_once (l + j.read)) else bad Outside) ≡ good z → IsRootSizing c z x
        by h true a e = root_sizing_at c (good_is e) (sym j.is_read.is) (narrow_root l (u - l) j.read least (greatest ∙ ap (λ q. Some (pos q)) (let o = in_bounds in let k : u ≡ l + (u - l) = omega (arith, o) in k)) (let o = in_bounds in omega (arith, few, o)) h (allowed_is c (pos (l + j.read)) a))
        by h false a e = absurd (not_good e)

    sized_from_root : (z : Sizing) (x : Bits) → IsRootSizing c z x → IsJudged (IsField (fewest_bits (u - l))) (size_of c l (u - l)) z x
    sized_from_root z x (narrow_root k m n e f g h a) =
        let same_l : k ≡ l = pos_same (some_same (sym e ∙ least)) in
        let same_u : k + m ≡ u = pos_same (some_same (sym f ∙ greatest)) in
        let same_m : m ≡ u - l = omega (arith, same_l, same_u) in
        at k m n same_l same_m h a
      where
        at : (k m n : ℕ) → k ≡ l → m ≡ u - l → n ≤ m → IsAllowedSize c (k + n) → IsJudged (IsField (fewest_bits (u - l))) (size_of c l (u - l)) (at_once (k + n)) (low_bits (fewest_bits m) n)
        at k m n el em h a =
            let le : n ≤ u - l = omega (arith, em, h) in
            record {
              read = n;
              is_read = record { fits = fewest_fit (u - l) n le; is = ap (λ q. low_bits (fewest_bits q) n) em };
              judged =
                  if_false (nat_lt (u - l) n) (bad Outside) (if is_allowed c (pos (l + n)) then good (at_once (l + n)) else bad Outside) (le-ltb (u - l) n le)
                  ∙ if_true (is_allowed c (pos (l + n))) (good (at_once (l + n))) (bad Outside) (allowed_true c (pos (l + n)) (subst (λ q. IsAllowedSize c (q + n)) el a))
                  ∙ ap (λ q. good (at_once (q + n))) (sym el);
            }
    sized_from_root z x (wide_root n) = absurd (n (subst IsNarrow (sym greatest) few))

    root_narrow : IsReading (IsRootSizing c) (judging (size_of c l (u - l)) (field_from (fewest_bits (u - l))))
    root_narrow = same sized_to sized_from_root (judged (size_of c l (u - l)) (field (fewest_bits (u - l))))

  root_reading : (o g : Option ℤ) → c.visible.least ≡ o → c.visible.greatest ≡ g → IsReading (IsRootSizing c) (root_size c o g)
  root_reading None g e f = absurd (none_some (sym e ∙ (size_least c bounds).1))
  root_reading (Some (negsuc l)) g e f = absurd (not_negative (sym e ∙ (size_least c bounds).1))
  root_reading (Some (pos l)) None e f = root_wide (λ n. subst IsNarrow f n)
  root_reading (Some (pos l)) (Some (negsuc u)) e f = root_wide (λ n. subst IsNarrow f n)
  root_reading (Some (pos l)) (Some (pos u)) e f = if_reading (IsRootSizing c) (nat_lt u 65536) (judging (size_of c l (u - l)) (field_from (fewest_bits (u - l)))) (found (stated_counted false))
      (λ t. root_narrow l u e f (ltb-true u 65536 t))
      (λ t. root_wide (λ n. (let h : u < 65536 = subst IsNarrow f n in let k = ltb-false u 65536 t in omega (arith, h, k))))

  -- ---- with the bit before

  abbrev Following : Bool → Sizing → Bits → Type 0
  Following true z x = (z ≡ stated_counted true) × (x ≡ [])
  Following false z x = IsRootSizing c z x

  abbrev outcome_from : Bool → Bits → Outcome Sizing
  outcome_from x r = if x then found (stated_counted true) r else root_size c c.visible.least c.visible.greatest r

  following : (x : Bool) → IsReading (Following x) (outcome_from x)
  following true = nothing (stated_counted true)
  following false = root_reading c.visible.least c.visible.greatest refl refl

  sizing_at : {y z : Sizing} {x w : Bits} → y ≡ z → x ≡ w → IsSizing c y x → IsSizing c z w
  sizing_at {z = z} {x = x} e f p = subst (IsSizing c z) f (subst (λ q. IsSizing c q x) e p)

  to_sizing : (e : Bool) → c.visible.extensible ≡ e → {z : Sizing} {x : Bits} → IsRootSizing c z x → IsSizing c z (root_bit e ++ x)
  to_sizing e f (narrow_root l m n a b d g h) = subst (λ q. IsSizing c (at_once (l + n)) (root_bit q ++ low_bits (fewest_bits m) n)) f (narrow_size l m n a b d g h)
  to_sizing e f (wide_root n) = sizing_at refl (ap root_bit f ∙ sym (append-nil (root_bit e))) (wide_size n)

  record FromSizing (z : Sizing) (y : Bits) : Type 0 where
    bits : Bits
    is : IsRootSizing c z bits
    whole : y ≡ root_bit c.visible.extensible ++ bits

  from_sizing : {z : Sizing} {y : Bits} → IsSizing c z y → FromSizing z y ⊎ ((c.visible.extensible ≡ true) × (z ≡ stated_counted true) × (y ≡ true ∷ []))
  from_sizing (narrow_size l m n a b d g h) = inl (record { bits = low_bits (fewest_bits m) n; is = narrow_root l m n a b d g h; whole = refl })
  from_sizing (wide_size n) = inl (record { bits = []; is = wide_root n; whole = sym (append-nil (root_bit c.visible.extensible)) })
  from_sizing (outside_size e) = inr (e, refl, refl)

  -- a type without the marker
  size_plain : c.visible.extensible ≡ false → IsReading (IsSizing c) (root_size c c.visible.least c.visible.greatest)
  size_plain e = same (λ z x p. to_sizing false e p)
      (λ z x p. ⊎_elim (λ t. subst (IsRootSizing c z) (sym (t.whole ∙ ap (λ q. root_bit q ++ t.bits) e)) t.is) (λ t. absurd (apart (sym t.0 ∙ e))) (from_sizing p))
      (root_reading c.visible.least c.visible.greatest refl refl)

  marked_to : c.visible.extensible ≡ true → (z : Sizing) (x : Bits) → Then IsBit Following z x → IsSizing c z x
  marked_to e z x t = by t.first t.back (t.whole ∙ ap (λ q. q ++ t.back) t.is_first) t.is_next
    where
      by : (b : Bool) (y : Bits) → x ≡ b ∷ y → Following b z y → IsSizing c z x
      by true y f p = sizing_at (sym p.0) (ap (λ q. true ∷ q) (sym p.1) ∙ sym f) (outside_size e)
      by false y f p = sizing_at refl (sym f) (to_sizing true e p)

  marked_from : c.visible.extensible ≡ true → (z : Sizing) (x : Bits) → IsSizing c z x → Then IsBit Following z x
  marked_from e z x p = ⊎_elim
      (λ t. record { first = false; front = false ∷ []; back = t.bits; is_first = refl; is_next = t.is; whole = t.whole ∙ ap (λ q. root_bit q ++ t.bits) e })
      (λ t. record { first = true; front = true ∷ []; back = []; is_first = refl; is_next = (t.1, refl); whole = t.2 })
      (from_sizing p)

  pub size : IsReading (IsSizing c) (size_from c)
  size = if_reading (IsSizing c) c.visible.extensible (λ b. onward (bit_from b) outcome_from) (root_size c c.visible.least c.visible.greatest)
      (λ e. same (marked_to e) (marked_from e) (next bit following)) size_plain

-- ---- items

none_is : {X : Type 0} {v : X} → Some v ≡ None → ⊥
none_is e = cc

fault_inside : (c : Constraint) (n : ℕ) → IsInRootBounds c.visible (pos n) → IsAllowedSize c n → size_fault c false n ≡ None
fault_inside c n r a =
    if_true (is_in_root c.visible (pos n)) (if is_allowed c (pos n) then None else Some Outside) (if false && is_allowed c (pos n) then None else Some Outside) (in_root_true c.visible (pos n) r)
    ∙ if_true (is_allowed c (pos n)) None (Some Outside) (allowed_true c (pos n) a)

fault_outside : (c : Constraint) (n : ℕ) → (IsInRootBounds c.visible (pos n) → ⊥) → IsAllowedSize c n → size_fault c true n ≡ None
fault_outside c n r a =
    if_false (is_in_root c.visible (pos n)) (Some NotCanonical) (if true && is_allowed c (pos n) then None else Some Outside) (in_root_false c.visible (pos n) r)
    ∙ if_true (is_allowed c (pos n)) None (Some Outside) (allowed_true c (pos n) a)

abbrev IsTold : Constraint → ℕ → Bool → Type 0
IsTold c n false = IsInRootBounds c.visible (pos n)
IsTold c n true = IsInRootBounds c.visible (pos n) → ⊥

no_fault : (c : Constraint) (n : ℕ) (outside : Bool) → size_fault c outside n ≡ None → IsTold c n outside × IsAllowedSize c n
no_fault c n outside e = by outside (is_in_root c.visible (pos n)) refl (is_allowed c (pos n)) refl e
  where
    by : (o r : Bool) → is_in_root c.visible (pos n) ≡ r → (a : Bool) → is_allowed c (pos n) ≡ a → (if r then (if o then Some NotCanonical else (if a then None else Some Outside)) else (if o && a then None else Some Outside)) ≡ None → IsTold c n o × IsAllowedSize c n
    by false true f true g e = (in_root_is c.visible (pos n) f, allowed_is c (pos n) g)
    by false true f false g e = absurd (none_is e)
    by true true f a g e = absurd (none_is e)
    by false false f a g e = absurd (none_is e)
    by true false f true g e = ((λ r. apart (sym (in_root_true c.visible (pos n) r) ∙ f)), allowed_is c (pos n) g)
    by true false f false g e = absurd (none_is e)

root_in_size : (c : Constraint) {xs : Items} {b : Bits} → CountedInRoot c.visible xs b → IsAllowedSize c (length xs) → InSize c xs (root_bit c.visible.extensible ++ b)
root_in_size c {xs} (narrow l m n e f g h k) a =
    subst (InSize c xs) (append_assoc (root_bit c.visible.extensible) (low_bits (fewest_bits m) n) (all_bits xs))
    (items_at_once xs (subst (λ q. IsSizing c (at_once q) (root_bit c.visible.extensible ++ low_bits (fewest_bits m) n)) (sym k) (narrow_size l m n e f g h (subst (IsAllowedSize c) k a))))
root_in_size c {xs} (wide n r d) a = items_in_parts xs (wide_size n) (fault_inside c (length xs) r a) (to_parts d)

pub in_size : (c : Constraint) {xs : Items} {b : Bits} → Sized c.visible xs b → IsAllowedSize c (length xs) → InSize c xs b
in_size c {xs} (sized {b = b} e d) a = subst (λ q. InSize c xs (root_bit q ++ b)) e (root_in_size c d a)
in_size c {xs} (sized_in_root {b = b} e d) a = subst (λ q. InSize c xs (root_bit q ++ b)) e (root_in_size c d a)
in_size c {xs} (sized_outside e o d) a = items_in_parts xs (outside_size e) (fault_outside c (length xs) o a) (to_parts d)

root_sized : (c : Constraint) (e : Bool) → c.visible.extensible ≡ e → (xs : Items) (b : Bits) → CountedInRoot c.visible xs b → Sized c.visible xs (root_bit e ++ b)
root_sized c false f xs b d = sized f d
root_sized c true f xs b d = sized_in_root f d

record IsOf (c : Constraint) (xs : Items) (b : Bits) : Type 0 where
  is_sized : Sized c.visible xs b
  is_allowed : IsAllowedSize c (length xs)

at_once_of : (c : Constraint) (xs : Items) (z : Sizing) (h : Bits) → IsSizing c z h → z ≡ at_once (length xs) → IsOf c xs (h ++ all_bits xs)
at_once_of c xs z h (narrow_size l m n e f g k a) w =
    let same : l + n ≡ length xs = once w in
    record {
      is_sized = subst (Sized c.visible xs) (sym (append_assoc (root_bit c.visible.extensible) (low_bits (fewest_bits m) n) (all_bits xs))) (root_sized c c.visible.extensible refl xs (low_bits (fewest_bits m) n ++ all_bits xs) (narrow l m n e f g k (sym same)));
      is_allowed = subst (IsAllowedSize c) same a;
    }
  where
    once : {m n : ℕ} → at_once m ≡ at_once n → m ≡ n
    once e = cc
at_once_of c xs z h (wide_size n) w = absurd (other w)
  where
    other : {b : Bool} {n : ℕ} → stated_counted b ≡ at_once n → ⊥
    other e = absurd (cc)
at_once_of c xs z h (outside_size e) w = absurd (other w)
  where
    other : {b : Bool} {n : ℕ} → stated_counted b ≡ at_once n → ⊥
    other e = absurd (cc)

in_parts_of : (c : Constraint) (xs : Items) (z : Sizing) (o : Bool) (h b : Bits) → IsSizing c z h → z ≡ stated_counted o → size_fault c o (length xs) ≡ None → Counted xs b → IsOf c xs (h ++ b)
in_parts_of c xs z o h b (narrow_size l m n e f g k a) w p d = absurd (other w)
  where
    other : {b : Bool} {n : ℕ} → at_once n ≡ stated_counted b → ⊥
    other e = absurd (cc)
in_parts_of c xs z o h b (wide_size n) w p d =
    let q : size_fault c false (length xs) ≡ None = subst (λ q. size_fault c q (length xs) ≡ None) (sym (stated w)) p in
    let f = no_fault c (length xs) false q in
    record { is_sized = root_sized c c.visible.extensible refl xs b (wide n f.0 d); is_allowed = f.1 }
  where
    stated : {a b : Bool} → stated_counted a ≡ stated_counted b → a ≡ b
    stated e = cc
in_parts_of c xs z o h b (outside_size e) w p d =
    let q : size_fault c true (length xs) ≡ None = subst (λ q. size_fault c q (length xs) ≡ None) (sym (stated w)) p in
    let f = no_fault c (length xs) true q in
    record { is_sized = sized_outside e f.0 d; is_allowed = f.1 }
  where
    stated : {a b : Bool} → stated_counted a ≡ stated_counted b → a ≡ b
    stated e = cc

pub of_size : (c : Constraint) {xs : Items} {b : Bits} → InSize c xs b → Sized c.visible xs b × IsAllowedSize c (length xs)
of_size c (items_at_once {h = h} xs p) = let r = at_once_of c xs (at_once (length xs)) h p refl in (r.is_sized, r.is_allowed)
of_size c (items_in_parts {outside = o} {h = h} {b = b} xs p f d) = let r = in_parts_of c xs (stated_counted o) o h b p refl f (from_parts d) in (r.is_sized, r.is_allowed)

module _ {X : Type 0} {P : X → Bits → Type 0} (c : Constraint) (items : Several X) (F : (n : ℕ) → IsReading (AreSeveral P n) (items n)) where
  abbrev After : Sizing → List X → Bits → Type 0
  After (at_once n) = AreSeveral P n
  After (stated_counted o) = AreCounted P (size_fault c o)

  after : (z : Sizing) → IsReading (After z) (after_size c items z)
  after (at_once n) = F n
  after (stated_counted o) = counted (size_fault c o) items F

  to_sized : (vs : List X) (x : Bits) → Then (IsSizing c) After vs x → AreSized P c vs x
  to_sized vs x t = by t.first t.is_first t.is_next
    where
      by : (z : Sizing) → IsSizing c z t.front → After z vs t.back → AreSized P c vs x
      by (at_once n) p s =
          let r = of_size c (items_at_once s.items (subst (λ q. IsSizing c (at_once q) t.front) (sym s.many) p)) in
          record { items = s.items; are = s.are; allowed = r.1; sized = subst (Sized c.visible s.items) (sym (t.whole ∙ ap (λ q. t.front ++ q) s.whole)) r.0 }
      by (stated_counted o) p s =
          let r = of_size c (items_in_parts s.items p s.passed (to_parts s.counted)) in
          record { items = s.items; are = s.are; allowed = r.1; sized = subst (Sized c.visible s.items) (sym t.whole) r.0 }

  from_sized : (vs : List X) (x : Bits) → AreSized P c vs x → Then (IsSizing c) After vs x
  from_sized vs x s = by s.items x s.are (in_size c s.sized s.allowed)
    where
      by : (xs : Items) (y : Bits) → EachHas P vs xs → InSize c xs y → Then (IsSizing c) After vs y
      by zz y e (items_at_once {h = h} xs p) = record {
        first = at_once (length xs);
        front = h;
        back = all_bits xs;
        is_first = p;
        is_next = record { items = xs; are = e; many = refl; whole = refl };
        whole = refl;
      }
      by zz y e (items_in_parts {outside = o} {h = h} {b = b} xs p f d) = record {
        first = stated_counted o;
        front = h;
        back = b;
        is_first = p;
        is_next = record { items = xs; are = e; passed = f; counted = from_parts d };
        whole = refl;
      }

  pub sized_read : AreBounds IsSize c → IsReading (AreSized P c) (sized_from c items)
  sized_read b = same to_sized from_sized (next (size c b) after)
