-- Elements are read as what bits say.
use Rattle.std.proofs.Common.{arith, ◌≡◌, ℕ, zero, suc, ◌+◌, ◌*◌, ◌<◌, ◌≤◌, ◌==◌, ◌||◌, Bool, true, false, List, [], ◌∷◌, ◌++◌, length, Option, Some, None, refl, sym, ap, subst, ◌∙◌}
use Rattle.std.specs.Prelude.{not}
use Rattle.asn_base.specs.Abstract.{AbstractValue, boolean, integer, enumerated, bits, octets, text, null, oid, relative_oid, fields, list, alternative}
use Rattle.asn_base.specs.Types.{TypeNumber, Constraint, Resolved}
use Rattle.asn_base.specs.Typed.{AreElements, no_element, one_element}
use Rattle.packed_encodings.specs.Weights.{weight, row_weight}
use Rattle.packed_encodings.specs.Lengths.{Bits, Items, all_bits}
use Rattle.packed_encodings.specs.Orders.{BitsAtMost, BitsAscend, ascending_one, ascending_more}
use Rattle.packed_encodings.specs.Packing as said
use Rattle.packed_encodings.specs.Packing.{lenient, ElementsPer}
use Rattle.decode_faults.specs.declared.refusal.Refusal.{Refusal}
use Rattle.decode_faults.specs.declared.refusal.Refusal.TheVariants as why
use Rattle.packed_readings.specs.Outcome.{IsReading, Then, IsJudged, good, bad, judging}
use Rattle.packed_readings.specs.Composing.{judged}
use Rattle.packed_readings.specs.declared.count.Count.{Count}
use Rattle.packed_readings.specs.declared.count.Count.TheVariants.{Last as last, Part as part}
use Rattle.packed_readings.specs.declared.size.Sizing.{Sizing}
use Rattle.packed_readings.specs.declared.size.Sizing.TheVariants.{AtOnce as at_once, Counted as counted}
use Rattle.packed_readings.specs.Counts.{count_from, total, IsCount, part_count, InParts, last_items, part_items, size_from, size_fault, IsSizing, InSize, items_at_once, items_in_parts}
use Rattle.packed_reader.specs.declared.part.Part.TheVariants.{Element}
use Rattle.packed_reader.specs.Readings.{plain, Taken, taken, IsExact}
use Rattle.packed_reader.specs.Structures.{joined}
use Rattle.packed_reader.specs.Lists.{at_most, Element', row_of_elements, items_of, ReadsElement, an_element, in_order, element_from, elements_from, last_bits, both, part_from, parts_from, after_size, list_from}
use Rattle.packed_reader.specs.Values.{IsValueRead}
use Rattle.packed_reader.proofs.Exact.{done_exact, convert, next_exact, Made, made_exact, part_exact, plain_exact, tested_exact, bits_exact}
use Rattle.packed_reader.proofs.Opening.{not_true}
use Rattle.packed_reader.proofs.Members.{moved}

-- ---- the order

at_most_is : (x y : Bits) → at_most x y ≡ true → BitsAtMost x y
at_most_is [] ys e = tt
at_most_is (false ∷ xs) [] e = (refl, at_most_is xs [] e)
at_most_is (true ∷ xs) [] e = absurd (not_true e)
at_most_is (false ∷ xs) (true ∷ ys) e = tt
at_most_is (true ∷ xs) (false ∷ ys) e = not_true e
at_most_is (false ∷ xs) (false ∷ ys) e = at_most_is xs ys e
at_most_is (true ∷ xs) (true ∷ ys) e = at_most_is xs ys e

is_at_most : (x y : Bits) → BitsAtMost x y → at_most x y ≡ true
is_at_most [] ys h = refl
is_at_most (false ∷ xs) [] h = is_at_most xs [] h.1
is_at_most (true ∷ xs) [] h = absurd (not_true (sym h.0))
is_at_most (false ∷ xs) (true ∷ ys) h = refl
is_at_most (true ∷ xs) (false ∷ ys) h = absurd h
is_at_most (false ∷ xs) (false ∷ ys) h = is_at_most xs ys h
is_at_most (true ∷ xs) (true ∷ ys) h = is_at_most xs ys h

ordered_is : (sorted : Bool) (x y : Bits) → not sorted || at_most x y ≡ true → sorted ≡ true → BitsAtMost x y
ordered_is true x y e h = at_most_is x y e
ordered_is false x y e h = absurd (not_true h)

is_ordered : (sorted : Bool) (x y : Bits) → (sorted ≡ true → BitsAtMost x y) → not sorted || at_most x y ≡ true
is_ordered true x y h = is_at_most x y (h refl)
is_ordered false x y h = refl

-- each is at most the next, where they are sorted, and the first one at least those before
abbrev pub Follow : Bool → Bits → Items → Type 0
Follow sorted before xs = sorted ≡ true → BitsAscend (before ∷ xs)

first_follows : {x y : Bits} {ys : Items} → BitsAscend (x ∷ (y ∷ ys)) → BitsAtMost x y
first_follows (ascending_more a r) = a

others_follow : {x y : Bits} {ys : Items} → BitsAscend (x ∷ (y ∷ ys)) → BitsAscend (y ∷ ys)
others_follow (ascending_more a r) = r

-- ---- elements

pub record AreElementsRead (s : List Resolved) (l : ℕ) (u : TypeNumber) (sorted : Bool) (before : Bits) (count n : ℕ) (t : Taken (List Element')) (x : Bits) : Type 0 where
  pub say_them : ElementsPer s lenient u (row_of_elements t.it) t.skipped (items_of t.it)
  pub values : AreElements s l u (row_of_elements t.it)
  pub follow : Follow sorted before (items_of t.it)
  pub counted : n ≡ row_weight (row_of_elements t.it) + t.left
  pub many : length t.it ≡ count
  pub whole : x ≡ all_bits (items_of t.it)

-- one of them
pub record IsElementRead (s : List Resolved) (l : ℕ) (u : TypeNumber) (sorted : Bool) (before : Bits) (n : ℕ) (t : Taken Element') (x : Bits) : Type 0 where
  pub value : Taken AbstractValue
  pub is : IsValueRead s l u n value x
  pub follows : sorted ≡ true → BitsAtMost before x
  pub made : t ≡ taken (value.it, x) value.skipped value.left

module _ (s : List Resolved) (l : ℕ) (u : TypeNumber) (value : ReadsElement) (V : (n : ℕ) → IsExact (IsValueRead s l u n) (value n)) (sorted : Bool) where
  abbrev ElementMade : Bits → ℕ → Taken Element' → Bits → Type 0
  ElementMade before n = Made {X = Taken AbstractValue × Bits} (λ p x. (IsValueRead s l u n p.0 x × (p.1 ≡ x)) × (in_order sorted before p ≡ true)) an_element

  element_exact : (i : ℕ) (before : Bits) (n : ℕ) → IsExact (IsElementRead s l u sorted before n) (element_from value sorted i before n)
  element_exact i before n =
      convert (made_exact an_element (part_exact (Element i) (tested_exact (in_order sorted before) why.NotCanonical (bits_exact (V n))))) to from
    where
      to : (t : Taken Element') (x : Bits) → ElementMade before n t x → IsElementRead s l u sorted before n t x
      to t x q = record {
        value = q.of.0;
        is = q.is.0.0;
        follows = λ h. subst (BitsAtMost before) q.is.0.1 (ordered_is sorted before q.of.1 q.is.1 h);
        made = q.made ∙ ap (λ z. taken (q.of.0.it, z) q.of.0.skipped q.of.0.left) q.is.0.1;
      }

      from : (t : Taken Element') (x : Bits) → IsElementRead s l u sorted before n t x → ElementMade before n t x
      from t x q = record { of = (q.value, x); is = ((q.is, refl), is_ordered sorted before x q.follows); made = q.made }

  abbrev ElementsThen : ℕ → Taken Element' → Taken (List Element') → Bits → Type 0
  ElementsThen k t = Made (AreElementsRead s l u sorted t.it.1 k t.left) (joined t)

  split : (k n : ℕ) (before : Bits) (it : List Element') (j left : ℕ) (x : Bits) → ElementsPer s lenient u (row_of_elements it) j (items_of it) → AreElements s l u (row_of_elements it) → Follow sorted before (items_of it) → n ≡ row_weight (row_of_elements it) + left → length it ≡ suc k → x ≡ all_bits (items_of it) → Then (IsElementRead s l u sorted before n) (ElementsThen k) (taken it j left) x
  split k n before [] j left x a v f c m w = absurd (omega arith)
  split k n before (e ∷ es) _ left x (said.element {j = i} {n = j} sa r) (one_element y v) f c m w = record {
    first = taken e i (row_weight (row_of_elements es) + left);
    front = e.1;
    back = all_bits (items_of es);
    is_first = record { value = taken e.0 i (row_weight (row_of_elements es) + left); is = record { says_it = sa; value = y; counted = omega arith }; follows = λ h. first_follows (f h); made = refl };
    is_next = record {
      of = taken es j left;
      is = record { say_them = r; values = v; follow = λ h. others_follow (f h); counted = refl; many = omega arith; whole = refl };
      made = refl;
    };
    whole = w;
  }

  pub elements_exact : (k i : ℕ) (before : Bits) (n : ℕ) → IsExact (AreElementsRead s l u sorted before k n) (elements_from value sorted k i before n)
  elements_exact zero i before n = convert (done_exact (taken [] 0 n)) to (λ t x a. none t.it t.skipped t.left x a.say_them a.counted a.many a.whole)
    where
      to : (t : Taken (List Element')) (x : Bits) → (t ≡ taken [] 0 n) × (x ≡ []) → AreElementsRead s l u sorted before zero n t x
      to t x q = moved (AreElementsRead s l u sorted before zero n) q.0 q.1 (record { say_them = said.no_element; values = no_element; follow = λ h. ascending_one; counted = omega arith; many = refl; whole = refl })

      none : (it : List Element') (j left : ℕ) (x : Bits) → ElementsPer s lenient u (row_of_elements it) j (items_of it) → n ≡ row_weight (row_of_elements it) + left → length it ≡ 0 → x ≡ all_bits (items_of it) → (taken it j left ≡ taken [] 0 n) × (x ≡ [])
      none [] _ left x said.no_element c m w = (ap (taken [] 0) (let f : left ≡ n = omega arith in f), w)
      none (e ∷ es) j left x a c m w = absurd (omega arith)
  elements_exact (suc k) i before n =
      convert (next_exact {Q = ElementsThen k} (element_exact i before n) (λ t x p. made_exact (joined t) (elements_exact k (suc i) t.it.1 t.left))) to
      (λ t x a. split k n before t.it t.skipped t.left x a.say_them a.values a.follow a.counted a.many a.whole)
    where
      to : (t : Taken (List Element')) (x : Bits) → Then (IsElementRead s l u sorted before n) (ElementsThen k) t x → AreElementsRead s l u sorted before (suc k) n t x
      to t x q =
          let a = q.is_first in
          let r = q.is_next.is in
          let e : q.first.it.1 ≡ q.front = ap (λ z. z.it.1) a.made in
          let f : q.first.left ≡ a.value.left = ap (λ z. z.left) a.made in
          moved (AreElementsRead s l u sorted before (suc k) n) (q.is_next.made ∙ ap (λ z. joined z q.is_next.of) a.made) (q.whole ∙ ap (λ z. q.front ++ z) r.whole)
          (record {
            say_them = said.element a.is.says_it r.say_them;
            values = one_element a.is.value r.values;
            follow = λ h. ascending_more (a.follows h) (subst (λ z. BitsAscend (z ∷ items_of q.is_next.of.it)) e (r.follow h));
            counted = (let c1 = a.is.counted in let c2 = r.counted in omega arith);
            many = (let m = r.many in omega arith);
            whole = refl;
          })

-- ---- elements in front of others

pub some_weight : (v : AbstractValue) → 1 ≤ weight v
some_weight (boolean b) = omega arith
some_weight q = omega arith

as_many_weight : (it : List Element') → length it ≤ row_weight (row_of_elements it)
as_many_weight [] = omega arith
as_many_weight (e ∷ es) = let a = some_weight e.0 in let b = as_many_weight es in omega arith

items_both : (it es : List Element') → items_of (it ++ es) ≡ items_of it ++ items_of es
items_both [] es = refl
items_both (e ∷ it) es = ap (λ q. e.1 ∷ q) (items_both it es)

weight_both : (it es : List Element') → row_weight (row_of_elements (it ++ es)) ≡ row_weight (row_of_elements it) + row_weight (row_of_elements es)
weight_both [] es = let z : row_weight (row_of_elements es) ≡ 0 + row_weight (row_of_elements es) = omega arith in z
weight_both (e ∷ it) es = let h = weight_both it es in omega arith

length_both : (it es : List Element') → length (it ++ es) ≡ length it + length es
length_both [] es = let z : length es ≡ 0 + length es = omega arith in z
length_both (e ∷ it) es = let h = length_both it es in omega arith

items_length : (it : List Element') → length (items_of it) ≡ length it
items_length [] = refl
items_length (e ∷ it) = ap suc (items_length it)

module _ (s : List Resolved) (l : ℕ) (u : TypeNumber) where
  say_both : (it es : List Element') (j k : ℕ) → ElementsPer s lenient u (row_of_elements it) j (items_of it) → ElementsPer s lenient u (row_of_elements es) k (items_of es) → ElementsPer s lenient u (row_of_elements (it ++ es)) (j + k) (items_of (it ++ es))
  say_both [] es _ k said.no_element b = subst (λ z. ElementsPer s lenient u (row_of_elements es) z (items_of es)) (let z : k ≡ 0 + k = omega arith in z) b
  say_both (e ∷ it) es _ k (said.element {j = i} {n = j} a r) b = subst (λ z. ElementsPer s lenient u (row_of_elements ((e ∷ it) ++ es)) z (items_of ((e ∷ it) ++ es))) (let z : i + (j + k) ≡ (i + j) + k = omega arith in z) (said.element a (say_both it es j k r b))

  values_both : (it es : List Element') → AreElements s l u (row_of_elements it) → AreElements s l u (row_of_elements es) → AreElements s l u (row_of_elements (it ++ es))
  values_both [] es a b = b
  values_both (e ∷ it) es (one_element v a) b = one_element v (values_both it es a b)

  -- taken apart again
  record Halves (it es : List Element') (k : ℕ) : Type 0 where
    first : ℕ
    second : ℕ
    sum : k ≡ first + second
    say_first : ElementsPer s lenient u (row_of_elements it) first (items_of it)
    say_second : ElementsPer s lenient u (row_of_elements es) second (items_of es)

  halves : (it es : List Element') (k : ℕ) → ElementsPer s lenient u (row_of_elements (it ++ es)) k (items_of (it ++ es)) → Halves it es k
  halves [] es k a = record { first = 0; second = k; sum = (let z : k ≡ 0 + k = omega arith in z); say_first = said.no_element; say_second = a }
  halves (e ∷ it) es _ (said.element {j = i} {n = j} a r) =
      let h = halves it es j r in
      record { first = i + h.first; second = h.second; sum = (let z = h.sum in omega arith); say_first = said.element a h.say_first; say_second = h.say_second }

  values_halves : (it es : List Element') → AreElements s l u (row_of_elements (it ++ es)) → AreElements s l u (row_of_elements it) × AreElements s l u (row_of_elements es)
  values_halves [] es a = (no_element, a)
  values_halves (e ∷ it) es (one_element v a) = let r = values_halves it es a in (one_element v r.0, r.1)

ascend_both : (before : Bits) (it es : List Element') → BitsAscend (before ∷ items_of it) → BitsAscend (last_bits before it ∷ items_of es) → BitsAscend (before ∷ items_of (it ++ es))
ascend_both before [] es a b = b
ascend_both before (e ∷ it) es (ascending_more m a) b = ascending_more m (ascend_both e.1 it es a b)

ascend_first : (before : Bits) (it es : List Element') → BitsAscend (before ∷ items_of (it ++ es)) → BitsAscend (before ∷ items_of it)
ascend_first before [] es a = ascending_one
ascend_first before (e ∷ it) es (ascending_more m a) = ascending_more m (ascend_first e.1 it es a)

ascend_second : (before : Bits) (it es : List Element') → BitsAscend (before ∷ items_of (it ++ es)) → BitsAscend (last_bits before it ∷ items_of es)
ascend_second before [] es a = a
ascend_second before (e ∷ it) es (ascending_more m a) = ascend_second e.1 it es a

-- elements whose items are two lists
record Apart (it : List Element') (xs ys : Items) : Type 0 where
  first : List Element'
  second : List Element'
  is : it ≡ first ++ second
  first_items : items_of first ≡ xs
  second_items : items_of second ≡ ys

apart : (xs ys : Items) (it : List Element') → items_of it ≡ xs ++ ys → Apart it xs ys
apart [] ys it e = record { first = []; second = it; is = refl; first_items = refl; second_items = e }
apart (x ∷ xs) ys [] e = absurd (cc)
apart (x ∷ xs) ys (a ∷ it) e =
    let h : a.1 ≡ x = cc in
    let t : items_of it ≡ xs ++ ys = cc in
    let r = apart xs ys it t in
    record {
      first = a ∷ r.first;
      second = r.second;
      is = ap (λ q. a ∷ q) r.is;
      first_items = ap (λ q. q ∷ items_of r.first) h ∙ ap (λ q. x ∷ q) r.first_items;
      second_items = r.second_items;
    }

-- ---- numbers of elements

-- the last number passes a test of all
abbrev pub Passes : (ℕ → Option Refusal) → ℕ → Count → Type 0
Passes test i (last k) = test (i + k) ≡ None
Passes test i (part m) = Unit {0}

-- a number, which passes
abbrev pub IsNumber : Bool → (ℕ → Option Refusal) → ℕ → Count → Bits → Type 0
IsNumber full test i c x = IsCount full c x × Passes test i c

good_is : {X : Type 0} {a b : X} → good a ≡ good b → a ≡ b
good_is e = cc

passes : (test : ℕ → Option Refusal) (i : ℕ) (d c : Count) → total test i d ≡ good c → (d ≡ c) × Passes test i c
passes test i (part m) c e = (good_is e, subst (Passes test i) (good_is e) tt)
passes test i (last k) c e = by (test (i + k)) refl e
  where
    by : (o : Option Refusal) → test (i + k) ≡ o → elim o [ None ↦ good (last k) | Some d ↦ bad d ] ≡ good c → (last k ≡ c) × Passes test i c
    by None f h = (good_is h, subst (Passes test i) (good_is h) f)
    by (Some d) f h = absurd (cc)

does_pass : (test : ℕ → Option Refusal) (i : ℕ) (c : Count) → Passes test i c → total test i c ≡ good c
does_pass test i (part m) p = refl
does_pass test i (last k) p = ap (λ o. elim o [ None ↦ good (last k) | Some d ↦ bad d ]) p

module _ (numbers : (full : Bool) → IsReading (IsCount full) (count_from full)) where
  number_exact : (full : Bool) (test : ℕ → Option Refusal) (i : ℕ) → IsExact (IsNumber full test i) (λ b. plain (judging (total test i) (count_from full) b))
  number_exact full test i = convert (plain_exact (judged (total test i) (numbers full))) to (λ c x p. record { read = c; is_read = p.0; judged = does_pass test i c p.1 })
    where
      to : (c : Count) (x : Bits) → IsJudged (IsCount full) (total test i) c x → IsNumber full test i c x
      to c x q = let p = passes test i q.read c q.judged in (subst (λ d. IsCount full d x) p.0 q.is_read, p.1)

-- ---- elements part by part

pub record ArePartsRead (s : List Resolved) (l : ℕ) (u : TypeNumber) (sorted : Bool) (test : ℕ → Option Refusal) (full : Bool) (i : ℕ) (before : Bits) (n : ℕ) (t : Taken (List Element')) (x : Bits) : Type 0 where
  pub say_them : ElementsPer s lenient u (row_of_elements t.it) t.skipped (items_of t.it)
  pub values : AreElements s l u (row_of_elements t.it)
  pub follow : Follow sorted before (items_of t.it)
  pub counted : n ≡ row_weight (row_of_elements t.it) + t.left
  pub passed : test (i + length t.it) ≡ None
  pub parts : InParts full (items_of t.it) x

part_some : {full : Bool} {m : ℕ} {x : Bits} → IsCount full (part m) x → 1 ≤ m
part_some (part_count a b) = a

part_full : {full : Bool} {m : ℕ} {x : Bits} → IsCount full (part m) x → full ≡ true
part_full (part_count a b) = refl

module _ (numbers : (full : Bool) → IsReading (IsCount full) (count_from full)) (s : List Resolved) (l : ℕ) (u : TypeNumber) (value : ReadsElement) (V : (n : ℕ) → IsExact (IsValueRead s l u n) (value n)) (sorted : Bool) (test : ℕ → Option Refusal) where
  -- what follows a number
  abbrev OthersThen : ℕ → Bits → ℕ → Taken (List Element') → Taken (List Element') → Bits → Type 0
  OthersThen i before m t = Made (ArePartsRead s l u sorted test (m == 4) (i + 16384 * m) (last_bits before t.it) t.left) (both t)

  abbrev PartThen : ℕ → Bits → ℕ → Count → Taken (List Element') → Bits → Type 0
  PartThen i before n (last k) = AreElementsRead s l u sorted before k n
  PartThen i before n (part m) = Then (AreElementsRead s l u sorted before (16384 * m) n) (OthersThen i before m)

  to_last : (full : Bool) (i : ℕ) (before : Bits) (n k : ℕ) (t : Taken (List Element')) (x y : Bits) → IsCount full (last k) x → test (i + k) ≡ None → AreElementsRead s l u sorted before k n t y → ArePartsRead s l u sorted test full i before n t (x ++ y)
  to_last full i before n k t x y c p a =
      let e : length (items_of t.it) ≡ k = items_length t.it ∙ a.many in
      record {
        say_them = a.say_them;
        values = a.values;
        follow = a.follow;
        counted = a.counted;
        passed = ap (λ z. test (i + z)) a.many ∙ p;
        parts = subst (λ z. InParts full (items_of t.it) (x ++ z)) (sym a.whole) (last_items (items_of t.it) (subst (λ z. IsCount full (last z) x) (sym e) c));
      }

  to_part : (i : ℕ) (before : Bits) (n m : ℕ) (t ts : Taken (List Element')) (x y z : Bits) → IsCount true (part m) x → AreElementsRead s l u sorted before (16384 * m) n t y → ArePartsRead s l u sorted test (m == 4) (i + 16384 * m) (last_bits before t.it) t.left ts z → ArePartsRead s l u sorted test true i before n (both t ts) (x ++ (y ++ z))
  to_part i before n m t ts x y z c a b =
      let len : length (t.it ++ ts.it) ≡ 16384 * m + length ts.it = length_both t.it ts.it ∙ ap (λ q. q + length ts.it) a.many in
      let place : i + length (t.it ++ ts.it) ≡ (i + 16384 * m) + length ts.it = omega arith in
      record {
        say_them = say_both s l u t.it ts.it t.skipped ts.skipped a.say_them b.say_them;
        values = values_both s l u t.it ts.it a.values b.values;
        follow = λ h. ascend_both before t.it ts.it (a.follow h) (b.follow h);
        counted = (let c1 = a.counted in let c2 = b.counted in let c3 = weight_both t.it ts.it in omega arith);
        passed = ap test place ∙ b.passed;
        parts = subst (λ q. InParts true q (x ++ (y ++ z))) (sym (items_both t.it ts.it))
            (subst (λ q. InParts true (items_of t.it ++ items_of ts.it) (x ++ (q ++ z))) (sym a.whole)
            (part_items (items_of t.it) (items_of ts.it) c (items_length t.it ∙ a.many) b.parts));
      }

  abbrev NumberThen : Bool → ℕ → Bits → ℕ → Taken (List Element') → Bits → Type 0
  NumberThen full i before n = Then (IsNumber full test i) (PartThen i before n)

  to_parts : (full : Bool) (i : ℕ) (before : Bits) (n : ℕ) (c : Count) (t : Taken (List Element')) (x y : Bits) → IsNumber full test i c x → PartThen i before n c t y → ArePartsRead s l u sorted test full i before n t (x ++ y)
  to_parts full i before n (last k) t x y c q = to_last full i before n k t x y c.0 c.1 q
  to_parts full i before n (part m) t x y c q =
      moved (λ t z. ArePartsRead s l u sorted test full i before n t (x ++ z)) q.is_next.made q.whole
      (subst (λ f. ArePartsRead s l u sorted test f i before n (both q.first q.is_next.of) (x ++ (q.front ++ q.back))) (sym (part_full c.0))
      (to_part i before n m q.first q.is_next.of x q.front q.back (subst (λ f. IsCount f (part m) x) (part_full c.0) c.0) q.is_first q.is_next.is))

  from_parts : (full : Bool) (i : ℕ) (before : Bits) (n : ℕ) (it : List Element') (k left : ℕ) (x : Bits) (xs : Items) → InParts full xs x → items_of it ≡ xs → ElementsPer s lenient u (row_of_elements it) k (items_of it) → AreElements s l u (row_of_elements it) → Follow sorted before (items_of it) → n ≡ row_weight (row_of_elements it) + left → test (i + length it) ≡ None → NumberThen full i before n (taken it k left) x
  from_parts full i before n it k left _ _ (last_items {h = h} xs c) e a v f ct p =
      let len : length it ≡ length xs = sym (items_length it) ∙ ap length e in
      record {
        first = last (length xs);
        front = h;
        back = all_bits xs;
        is_first = (c, sym (ap (λ z. test (i + z)) len) ∙ p);
        is_next = record { say_them = a; values = v; follow = f; counted = ct; many = len; whole = ap all_bits (sym e) };
        whole = refl;
      }
  from_parts _ i before n it k left _ _ (part_items {m = m} {h = h} {b = b} xs ys c lx r) e a v f ct p =
      let q = apart xs ys it e in
      let a' = subst (λ z. ElementsPer s lenient u (row_of_elements z) k (items_of z)) q.is a in
      let v' = values_halves s l u q.first q.second (subst (λ z. AreElements s l u (row_of_elements z)) q.is v) in
      let hs = halves s l u q.first q.second k a' in
      let f' : Follow sorted before (items_of (q.first ++ q.second)) = subst (λ z. Follow sorted before (items_of z)) q.is f in
      let len1 : length q.first ≡ 16384 * m = sym (items_length q.first) ∙ ap length q.first_items ∙ lx in
      let len : length it ≡ length q.first + length q.second = ap length q.is ∙ length_both q.first q.second in
      let place : (i + 16384 * m) + length q.second ≡ i + length it = omega arith in
      let nd : row_weight (row_of_elements it) ≡ row_weight (row_of_elements q.first) + row_weight (row_of_elements q.second) = ap (λ z. row_weight (row_of_elements z)) q.is ∙ weight_both q.first q.second in
      let left1 = row_weight (row_of_elements q.second) + left in
      record {
        first = part m;
        front = h;
        back = all_bits xs ++ b;
        is_first = (c, tt);
        is_next = record {
          first = taken q.first hs.first left1;
          front = all_bits xs;
          back = b;
          is_first = record { say_them = hs.say_first; values = v'.0; follow = λ z. ascend_first before q.first q.second (f' z); counted = omega arith; many = len1; whole = ap all_bits (sym q.first_items) };
          is_next = record {
            of = taken q.second hs.second left;
            is = record { say_them = hs.say_second; values = v'.1; follow = λ z. ascend_second before q.first q.second (f' z); counted = refl; passed = ap test place ∙ p; parts = subst (λ z. InParts (m == 4) z b) (sym q.second_items) r };
            made = ap (λ z. taken z k left) q.is ∙ ap (λ z. taken (q.first ++ q.second) z left) hs.sum;
          };
          whole = refl;
        };
        whole = refl;
      }

  after_number : (fuel i : ℕ) (before : Bits) (n : ℕ) (c : Count) → n < suc fuel → ((full : Bool) (i : ℕ) (before : Bits) (n : ℕ) → n < fuel → IsExact (ArePartsRead s l u sorted test full i before n) (parts_from value sorted test fuel full i before n)) → ((m : ℕ) → c ≡ part m → 1 ≤ m) → IsExact (PartThen i before n c) (part_from value sorted i before n c (parts_from value sorted test fuel))
  after_number fuel i before n (last k) f rec some = elements_exact s l u value V sorted k i before n
  after_number fuel i before n (part m) f rec some =
      next_exact {Q = OthersThen i before m} (elements_exact s l u value V sorted (16384 * m) i before n)
      (λ t x a. made_exact (both t) (rec (m == 4) (i + 16384 * m) (last_bits before t.it) t.left (let one = some m refl in let c1 = a.counted in let c2 = a.many in let c3 = as_many_weight t.it in omega arith)))

  pub parts_exact : (fuel : ℕ) (full : Bool) (i : ℕ) (before : Bits) (n : ℕ) → n < fuel → IsExact (ArePartsRead s l u sorted test full i before n) (parts_from value sorted test fuel full i before n)
  parts_exact zero full i before n f = absurd (omega arith)
  parts_exact (suc fuel) full i before n f =
      convert (next_exact {Q = PartThen i before n} (number_exact numbers full test i) (λ c x p. after_number fuel i before n c f (parts_exact fuel) (λ m e. part_some (subst (λ d. IsCount full d x) e p.0))))
      (λ t x q. moved (ArePartsRead s l u sorted test full i before n) refl q.whole (to_parts full i before n q.first t q.front q.back q.is_first q.is_next))
      (λ t x a. from_parts full i before n t.it t.skipped t.left x (items_of t.it) a.parts refl a.say_them a.values a.follow a.counted a.passed)

-- ---- lists

pub record IsListRead (s : List Resolved) (l : ℕ) (u : TypeNumber) (sorted : Bool) (c : Constraint) (n : ℕ) (t : Taken (List Element')) (x : Bits) : Type 0 where
  pub say_them : ElementsPer s lenient u (row_of_elements t.it) t.skipped (items_of t.it)
  pub values : AreElements s l u (row_of_elements t.it)
  pub follow : Follow sorted [] (items_of t.it)
  pub counted' : n ≡ row_weight (row_of_elements t.it) + t.left
  pub sized : InSize c (items_of t.it) x

module _ (numbers : (full : Bool) → IsReading (IsCount full) (count_from full)) (s : List Resolved) (l : ℕ) (u : TypeNumber) (value : ReadsElement) (V : (n : ℕ) → IsExact (IsValueRead s l u n) (value n)) (sorted : Bool) (c : Constraint) (size : IsReading (IsSizing c) (size_from c)) where
  abbrev SizeThen : ℕ → Sizing → Taken (List Element') → Bits → Type 0
  SizeThen n (at_once k) = AreElementsRead s l u sorted [] k n
  SizeThen n (counted outside) = ArePartsRead s l u sorted (size_fault c outside) true 0 [] n

  size_exact : (n : ℕ) (z : Sizing) → IsExact (SizeThen n z) (after_size value sorted c n z)
  size_exact n (at_once k) = elements_exact s l u value V sorted k 0 [] n
  size_exact n (counted outside) = parts_exact numbers s l u value V sorted (size_fault c outside) (suc n) true 0 [] n (omega arith)

  to_list : (n : ℕ) (z : Sizing) (t : Taken (List Element')) (x y : Bits) → IsSizing c z x → SizeThen n z t y → IsListRead s l u sorted c n t (x ++ y)
  to_list n (at_once k) t x y h a =
      let e : length (items_of t.it) ≡ k = items_length t.it ∙ a.many in
      record {
        say_them = a.say_them;
        values = a.values;
        follow = a.follow;
        counted' = a.counted;
        sized = subst (λ q. InSize c (items_of t.it) (x ++ q)) (sym a.whole) (items_at_once (items_of t.it) (subst (λ q. IsSizing c (at_once q) x) (sym e) h));
      }
  to_list n (counted outside) t x y h a =
      let e : length (items_of t.it) ≡ 0 + length t.it = (let f = items_length t.it in omega arith) in
      record {
        say_them = a.say_them;
        values = a.values;
        follow = a.follow;
        counted' = a.counted;
        sized = items_in_parts (items_of t.it) h (ap (size_fault c outside) e ∙ a.passed) a.parts;
      }

  from_list : (n : ℕ) (it : List Element') (k left : ℕ) (x : Bits) (xs : Items) → InSize c xs x → items_of it ≡ xs → ElementsPer s lenient u (row_of_elements it) k (items_of it) → AreElements s l u (row_of_elements it) → Follow sorted [] (items_of it) → n ≡ row_weight (row_of_elements it) + left → Then (IsSizing c) (SizeThen n) (taken it k left) x
  from_list n it k left _ _ (items_at_once {h = h} xs z) e a v f ct = record {
    first = at_once (length xs);
    front = h;
    back = all_bits xs;
    is_first = z;
    is_next = record { say_them = a; values = v; follow = f; counted = ct; many = sym (items_length it) ∙ ap length e; whole = ap all_bits (sym e) };
    whole = refl;
  }
  from_list n it k left _ _ (items_in_parts {outside = outside} {h = h} {b = b} xs z p r) e a v f ct =
      let g : 0 + length it ≡ length xs = (let q = items_length it in let w : length (items_of it) ≡ length xs = ap length e in omega arith) in
      record {
        first = counted outside;
        front = h;
        back = b;
        is_first = z;
        is_next = record { say_them = a; values = v; follow = f; counted = ct; passed = ap (size_fault c outside) g ∙ p; parts = subst (λ q. InParts true q b) (sym e) r };
        whole = refl;
      }

  pub list_exact : (n : ℕ) → IsExact (IsListRead s l u sorted c n) (list_from value sorted c n)
  list_exact n =
      convert (next_exact {Q = SizeThen n} (plain_exact size) (λ z x p. size_exact n z))
      (λ t x q. moved (IsListRead s l u sorted c n) refl q.whole (to_list n q.first t q.front q.back q.is_first q.is_next))
      (λ t x a. from_list n t.it t.skipped t.left x (items_of t.it) a.sized refl a.say_them a.values a.follow a.counted')
