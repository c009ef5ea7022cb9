-- Items of an enumeration, and characters, are read by their places and codes.
use Rattle.std.proofs.Common.{arith, ◌≡◌, ℕ, zero, suc, ◌-◌, ◌^◌, ◌<◌, ◌⊎◌, inl, inr, ⊎_elim, Bool, true, false, List, [], ◌∷◌, ◌++◌, length, get_or, refl, sym, ap, subst, ◌∙◌, ◌≤◌}
use Rattle.std.proofs.lemmas.Bool.{eq-eqb, eqb-true, false_from_ne_true}
use Rattle.std.specs.Prelude.{◌==◌, if◌then◌else◌, Option, Some, None, slice_get, ℤ, ◌↔◌, IsTrue}
use Rattle.std.specs.List.{AllByRecursion}
use Rattle.std.specs.Int.Digits.{AllBelowBase}
use Rattle.bits.specs.Words.{low_bits}
use Rattle.asn_base.specs.Abstract.{AbstractValue, enumerated, text}
use Rattle.asn_base.specs.Names.{IsMember, is_first, is_later}
use Rattle.asn_base.specs.declared.strings.StringKind.{StringKind}
use Rattle.asn_base.specs.Types.{Constraint, Item, an_enumerated, a_restricted_string}
use Rattle.asn_base.specs.Typed.{IsWithinLimit, HasNumber, IsAllowedSize, IsPrimitive, fits_enumerated, fits_restricted}
use Rattle.asn_base.specs.Schemas.{AreItems, AreBounds, IsSize}
use Rattle.packed_encodings.specs.Lengths.{Bits, Items}
use Rattle.packed_encodings.specs.Leaves.{place_width, place_bits, root_bit, root_item, added_item, CodesFit, Character, by_code, by_place, Characters, no_character, character, LeafPer, of_enumerated, of_restricted}
use Rattle.packed_encodings.specs.Computed.{all_below}
use Rattle.decode_faults.specs.declared.refusal.Refusal.{Refusal}
use Rattle.decode_faults.specs.declared.refusal.Refusal.TheVariants as why
use Rattle.packed_readings.specs.Outcome.{Outcome, onward, Judged, good, bad, bit_from, small_from, each_from, IsBit, IsField, IsSmall, IsReading, Then, IsJudged, judging}
use Rattle.packed_readings.specs.Composing.{next, judged, same}
use Rattle.packed_readings.specs.Counts.{EachHas, none_has, one_has, AreSized, sized_from}
use Rattle.packed_readings.specs.Leaves.{at_place, item_at, root_item_from, item_from, is_code, character_of, character_from, IsLeafOf}
use Rattle.packed_encodings.specs.proving.Words.{fewest_fit}
use Rattle.packed_readings.proofs.Fields.{if_true, if_false, bit, field, small, each}
use Rattle.packed_encodings.specs.proving.Tests.{below_true, below_is}
use Rattle.packed_readings.proofs.Ranges.{apart, if_reading}
use Rattle.packed_readings.proofs.Sizes.{good_is, not_good, sized_read}
use Rattle.packed_readings.proofs.Numbers.{both_of, of_both}

-- ---- places

found_below : {X : Type 0} {x : X} (xs : List X) (i : ℕ) → slice_get xs i ≡ Some x → i < length xs
found_below [] zero e = absurd (cc)
found_below [] (suc i) e = absurd (cc)
found_below (x ∷ xs) zero e = omega arith
found_below (x ∷ xs) (suc i) e = let h = found_below xs i e in omega arith

place_fits : (n i : ℕ) → i < n → i < 2 ^ place_width n
place_fits n i l = fewest_fit (n - 1) i (omega (arith, l))

some_same : {A : Type 0} {x y : A} → Some x ≡ Some y → x ≡ y
some_same e = cc

none_some : {A : Type 0} {x : A} → None ≡ Some x → ⊥
none_some e = cc

there : {X : Type 0} (e : Refusal) (xs : List X) (i : ℕ) (x : X) → at_place e xs i ≡ good x → slice_get xs i ≡ Some x
there {X} e xs i x h = by (slice_get xs i) refl h
  where
    by : (o : Option X) → slice_get xs i ≡ o → elim o [ None ↦ bad e | Some x ↦ good x ] ≡ good x → slice_get xs i ≡ Some x
    by None f h = absurd (not_good h)
    by (Some y) f h = f ∙ ap (λ q. Some q) (good_is h)

is_there : {X : Type 0} (e : Refusal) (xs : List X) (i : ℕ) (x : X) → slice_get xs i ≡ Some x → at_place e xs i ≡ good x
is_there {X} e xs i x h = ap (λ o. elim o [ None ↦ bad e | Some x ↦ good x ]) h

all_at : {X : Type 0} (P : X → Type 0) (xs : List X) (i : ℕ) (x : X) → AllByRecursion P xs → slice_get xs i ≡ Some x → P x
all_at P [] zero x a e = absurd (none_some e)
all_at P [] (suc i) x a e = absurd (none_some e)
all_at P (y ∷ xs) zero x a e = subst P (some_same e) a.0
all_at P (y ∷ xs) (suc i) x a e = all_at P xs i x a.1 e

all_front : {X : Type 0} (P : X → Type 0) (xs ys : List X) → AllByRecursion P (xs ++ ys) → AllByRecursion P xs
all_front P [] ys a = tt
all_front P (x ∷ xs) ys a = (a.0, all_front P xs ys a.1)

all_back : {X : Type 0} (P : X → Type 0) (xs ys : List X) → AllByRecursion P (xs ++ ys) → AllByRecursion P ys
all_back P [] ys a = a
all_back P (x ∷ xs) ys a = all_back P xs ys a.1

-- ---- items

abbrev InLimit : Item → Type 0
InLimit i = IsWithinLimit i.number

record ItemThere (is : List Item) (w : AbstractValue) (i : ℕ) : Type 0 where
  item : Item
  is_there : slice_get is i ≡ Some item
  value : w ≡ enumerated item.number

item_is : (e : Refusal) (is : List Item) (i : ℕ) (w : AbstractValue) → item_at e is i ≡ good w → ItemThere is w i
item_is e is i w h =
    let b = both_of (at_place e is i) (λ x. good (enumerated x.number)) w h in
    record { item = b.value; is_there = there e is i b.value b.is_first; value = sym (good_is b.is_second) }

is_item : (e : Refusal) (is : List Item) (i : ℕ) (x : Item) (w : AbstractValue) → slice_get is i ≡ Some x → w ≡ enumerated x.number → item_at e is i ≡ good w
is_item e is i x w h f = of_both (at_place e is i) (λ x. good (enumerated x.number)) x w (is_there e is i x h) (ap good (sym f))

record RootItem (root : List Item) (w : AbstractValue) (b : Bits) : Type 0 where
  place : ℕ
  at : ItemThere root w place
  bits : b ≡ place_bits (length root) place

root_items : (root : List Item) → IsReading (RootItem root) (root_item_from root)
root_items root = same to from (judged (item_at why.Outside root) (field (place_width (length root))))
  where
    to : (w : AbstractValue) (b : Bits) → IsJudged (IsField (place_width (length root))) (item_at why.Outside root) w b → RootItem root w b
    to w b j = record { place = j.read; at = item_is why.Outside root j.read w j.judged; bits = j.is_read.is }

    from : (w : AbstractValue) (b : Bits) → RootItem root w b → IsJudged (IsField (place_width (length root))) (item_at why.Outside root) w b
    from w b r = record {
      read = r.place;
      is_read = record { fits = place_fits (length root) r.place (found_below root r.place r.at.is_there); is = r.bits };
      judged = is_item why.Outside root r.place r.at.item w r.at.is_there r.at.value;
    }

has_number : (is : List Item) (i : ℕ) (x : Item) → slice_get is i ≡ Some x → HasNumber is x.number
has_number [] zero x e = absurd (none_some e)
has_number [] (suc i) x e = absurd (none_some e)
has_number (y ∷ is) zero x e = inl (ap (λ q. q.number) (some_same e))
has_number (y ∷ is) (suc i) x e = inr (has_number is i x e)

has_front : (is js : List Item) (z : ℤ) → HasNumber is z → HasNumber (is ++ js) z
has_front [] js z h = absurd h
has_front (i ∷ is) js z (inl h) = inl h
has_front (i ∷ is) js z (inr h) = inr (has_front is js z h)

has_back : (is js : List Item) (z : ℤ) → HasNumber js z → HasNumber (is ++ js) z
has_back [] js z h = h
has_back (i ∷ is) js z h = inr (has_back is js z h)

module _ (e : Bool) (root more : List Item) (items : AreItems e root more) where
  root_fits : (w : AbstractValue) (i : ℕ) → ItemThere root w i → IsPrimitive (an_enumerated root e more) w
  root_fits w i t = subst (IsPrimitive (an_enumerated root e more)) (sym t.value) (fits_enumerated (all_at InLimit root i t.item (all_front InLimit root more items.limits) t.is_there) (has_front root more t.item.number (has_number root i t.item t.is_there)))

  more_fits : (w : AbstractValue) (i : ℕ) → ItemThere more w i → IsPrimitive (an_enumerated root e more) w
  more_fits w i t = subst (IsPrimitive (an_enumerated root e more)) (sym t.value) (fits_enumerated (all_at InLimit more i t.item (all_back InLimit root more items.limits) t.is_there) (has_back root more t.item.number (has_number more i t.item t.is_there)))

  root_leaf : (w : AbstractValue) (b : Bits) → RootItem root w b → IsLeafOf (an_enumerated root e more) w (root_bit e ++ b)
  root_leaf w b r = record {
    leaf = leaf_at (r.at.value) (ap (λ q. root_bit e ++ q) r.bits) (of_enumerated (root_item r.place r.at.item r.at.is_there refl));
    fits = root_fits w r.place r.at;
  }
    where
      leaf_at : {v w : AbstractValue} {a b : Bits} → w ≡ v → b ≡ a → LeafPer (an_enumerated root e more) v a → LeafPer (an_enumerated root e more) w b
      leaf_at {v} {w} {a} {b} f g l = subst (λ q. LeafPer (an_enumerated root e more) q b) (sym f) (subst (LeafPer (an_enumerated root e more) v) (sym g) l)

  abbrev AddedItem : AbstractValue → Bits → Type 0
  AddedItem = IsJudged IsSmall (item_at why.UnknownEnumeration more)

  added_leaf : e ≡ true → (w : AbstractValue) (b : Bits) → AddedItem w b → IsLeafOf (an_enumerated root e more) w (true ∷ b)
  added_leaf f w b j =
      let t = item_is why.UnknownEnumeration more j.read w j.judged in
      record {
        leaf = leaf_at t.value (ap (λ q. true ∷ q) j.is_read.is) (of_enumerated (added_item j.read t.item f t.is_there refl j.is_read.fits));
        fits = more_fits w j.read t;
      }
    where
      leaf_at : {v w : AbstractValue} {a b : Bits} → w ≡ v → b ≡ a → LeafPer (an_enumerated root e more) v a → LeafPer (an_enumerated root e more) w b
      leaf_at {v} {w} {a} {b} f g l = subst (λ q. LeafPer (an_enumerated root e more) q b) (sym f) (subst (LeafPer (an_enumerated root e more) v) (sym g) l)

  record Rooted (w : AbstractValue) (b : Bits) : Type 0 where
    bits : Bits
    is : RootItem root w bits
    whole : b ≡ root_bit e ++ bits

  record Added (w : AbstractValue) (b : Bits) : Type 0 where
    marked : e ≡ true
    bits : Bits
    is : AddedItem w bits
    whole : b ≡ true ∷ bits

  taken : (w : AbstractValue) (b : Bits) → LeafPer (an_enumerated root e more) w b → Rooted w b ⊎ Added w b
  taken w b (of_enumerated (root_item i x f n)) = inl (record {
    bits = place_bits (length root) i;
    is = record { place = i; at = record { item = x; is_there = f; value = ap enumerated (sym n) }; bits = refl };
    whole = refl;
  })
  taken w b (of_enumerated {z = z} (added_item i x m f n l)) = inr (record {
    marked = m;
    bits = false ∷ low_bits 6 i;
    is = record { read = i; is_read = record { fits = l; is = refl }; judged = is_item why.UnknownEnumeration more i x (enumerated z) f (ap enumerated (sym n)) };
    whole = refl;
  })

  abbrev Following : Bool → AbstractValue → Bits → Type 0
  Following true = AddedItem
  Following false = RootItem root

  abbrev outcome_from : Bool → Bits → Outcome AbstractValue
  outcome_from x r = if x then judging (item_at why.UnknownEnumeration more) (small_from why.UnknownEnumeration) r else root_item_from root r

  following : (x : Bool) → IsReading (Following x) (outcome_from x)
  following true = judged (item_at why.UnknownEnumeration more) (small why.UnknownEnumeration)
  following false = root_items root

  marked_to : e ≡ true → (w : AbstractValue) (x : Bits) → Then IsBit Following w x → IsLeafOf (an_enumerated root e more) w x
  marked_to f w x t = by t.first t.back (t.whole ∙ ap (λ q. q ++ t.back) t.is_first) t.is_next
    where
      by : (b : Bool) (y : Bits) → x ≡ b ∷ y → Following b w y → IsLeafOf (an_enumerated root e more) w x
      by true y g j = subst (IsLeafOf (an_enumerated root e more) w) (sym g) (added_leaf f w y j)
      by false y g r = subst (IsLeafOf (an_enumerated root e more) w) (ap (λ q. root_bit q ++ y) f ∙ sym g) (root_leaf w y r)

  marked_from : e ≡ true → (w : AbstractValue) (x : Bits) → IsLeafOf (an_enumerated root e more) w x → Then IsBit Following w x
  marked_from f w x l = ⊎_elim
      (λ t. record { first = false; front = false ∷ []; back = t.bits; is_first = refl; is_next = t.is; whole = t.whole ∙ ap (λ q. root_bit q ++ t.bits) f })
      (λ t. record { first = true; front = true ∷ []; back = t.bits; is_first = refl; is_next = t.is; whole = t.whole })
      (taken w x l.leaf)

  plain_to : e ≡ false → (w : AbstractValue) (x : Bits) → RootItem root w x → IsLeafOf (an_enumerated root e more) w x
  plain_to f w x r = subst (IsLeafOf (an_enumerated root e more) w) (ap (λ q. root_bit q ++ x) f) (root_leaf w x r)

  plain_from : e ≡ false → (w : AbstractValue) (x : Bits) → IsLeafOf (an_enumerated root e more) w x → RootItem root w x
  plain_from f w x l = ⊎_elim
      (λ t. subst (RootItem root w) (sym (t.whole ∙ ap (λ q. root_bit q ++ t.bits) f)) t.is)
      (λ t. absurd (apart (sym t.marked ∙ f)))
      (taken w x l.leaf)

  pub enumerations : IsReading (IsLeafOf (an_enumerated root e more)) (item_from root e more)
  enumerations = if_reading (IsLeafOf (an_enumerated root e more)) e (λ b. onward (bit_from b) outcome_from) (root_item_from root)
      (λ f. same (marked_to f) (marked_from f) (next bit following))
      (λ f. same (plain_to f) (plain_from f) (root_items root))

-- ---- characters

code_true : {c : ℕ} (a : List ℕ) → IsMember c a → is_code a c ≡ true
code_true [] m = elim m [ ]
code_true {c} (d ∷ a) is_first = if_true (d == d) true (is_code a d) (eq-eqb d d refl)
code_true {c} (d ∷ a) (is_later m) = by (d == c) (code_true a m)
  where
    by : (t : Bool) → is_code a c ≡ true → (if t then true else is_code a c) ≡ true
    by true e = refl
    by false e = e

code_is : (c : ℕ) (a : List ℕ) → is_code a c ≡ true → IsMember c a
code_is c [] e = absurd (apart (sym e))
code_is c (d ∷ a) e = by (d == c) refl e (λ f. code_is c a f)
  where
    by : (t : Bool) → (d == c) ≡ t → (if t then true else is_code a c) ≡ true → (is_code a c ≡ true → IsMember c a) → IsMember c (d ∷ a)
    by true f e k = subst (λ q. IsMember q (d ∷ a)) (eqb-true d c f) is_first
    by false f e k = is_later (k e)

one_truth : (a b : Bool) → (a ≡ true → b ≡ true) → (b ≡ true → a ≡ true) → a ≡ b
one_truth true b f g = sym (f refl)
one_truth false true f g = g refl
one_truth false false f g = refl

pub code_same : (b : Bool) (a : List ℕ) (c : ℕ) → (IsTrue b ↔ IsMember c a) → b ≡ is_code a c
code_same b a c e = one_truth b (is_code a c) (λ t. code_true a (e.0 t)) (λ t. e.1 (code_is c a t))

octet_in : (a : List ℕ) (c : ℕ) → IsMember c a → AllBelowBase 256 a → c < 256
octet_in [] c m b = elim m [ ]
octet_in (d ∷ a) c is_first b = b.0
octet_in (d ∷ a) c (is_later m) b = octet_in a c m b.1

pub code_octet : (a : List ℕ) (c : ℕ) (t : Bool) → t ≡ is_code a c → t ≡ true → AllBelowBase 256 a → c < 256
code_octet a c t e f b = octet_in a c (code_is c a (sym e ∙ f)) b

there_is : {X : Type 0} (xs : List X) (i : ℕ) (x : X) → i < length xs → x ≡ get_or xs i x → slice_get xs i ≡ Some x
there_is [] i x l e = absurd (omega (arith, l))
there_is (y ∷ xs) zero x l e = ap (λ q. Some q) (sym e)
there_is (y ∷ xs) (suc i) x l e = there_is xs i x (omega (arith, l)) e

none_is : {X : Type 0} (xs : List X) (i : ℕ) → length xs ≤ i → slice_get xs i ≡ None
none_is [] zero l = refl
none_is [] (suc i) l = refl
none_is (y ∷ xs) zero l = absurd (omega (arith, l))
none_is (y ∷ xs) (suc i) l = none_is xs i (omega (arith, l))

pub placed_character : (a : List ℕ) (n c : ℕ) (t : Bool) → t ≡ all_below (2 ^ place_width (length a)) a → t ≡ false → n < length a → c ≡ get_or a n c → character_of a n ≡ good c
placed_character a n c t g h l e =
    if_false (all_below (2 ^ place_width (length a)) a) (if is_code a n then good n else bad why.Outside) (at_place why.Outside a n) (sym g ∙ h)
    ∙ is_there why.Outside a n c (there_is a n c l e)

pub no_character_there : (a : List ℕ) (n : ℕ) (t : Bool) → t ≡ all_below (2 ^ place_width (length a)) a → t ≡ false → length a ≤ n → character_of a n ≡ bad why.Outside
no_character_there a n t g h l =
    if_false (all_below (2 ^ place_width (length a)) a) (if is_code a n then good n else bad why.Outside) (at_place why.Outside a n) (sym g ∙ h)
    ∙ ap (λ o. elim o [ None ↦ bad why.Outside | Some x ↦ good x ]) (none_is a n l)

code_fits : {c : ℕ} (n : ℕ) (a : List ℕ) → AllByRecursion (λ c. c < n) a → IsMember c a → c < n
code_fits n [] h m = elim m [ ]
code_fits n (d ∷ a) h is_first = h.0
code_fits n (d ∷ a) h (is_later m) = code_fits n a h.1 m

member_at : (a : List ℕ) (i c : ℕ) → slice_get a i ≡ Some c → IsMember c a
member_at [] zero c e = absurd (none_some e)
member_at [] (suc i) c e = absurd (none_some e)
member_at (d ∷ a) zero c e = subst (λ q. IsMember q (d ∷ a)) (some_same e) is_first
member_at (d ∷ a) (suc i) c e = is_later (member_at a i c e)

module _ (a : List ℕ) where
  abbrev fit : Bool
  fit = all_below (2 ^ place_width (length a)) a

  abbrev by_codes : ℕ → Judged ℕ
  by_codes n = if is_code a n then good n else bad why.Outside

  abbrev Stated : ℕ → Bits → Type 0
  Stated = IsJudged (IsField (place_width (length a))) (character_of a)

  character_to : (c : ℕ) (b : Bits) → Stated c b → Character a c b
  character_to c b j = by fit refl j.judged
    where
      by_member : (t : Bool) → is_code a j.read ≡ t → (if t then good j.read else bad why.Outside) ≡ good c → CodesFit a → Character a c b
      by_member true f e h = subst (Character a c) (sym (j.is_read.is ∙ ap (place_bits (length a)) (good_is e))) (by_code h (subst (λ q. IsMember q a) (good_is e) (code_is j.read a f)))
      by_member false f e h = absurd (not_good e)

      by : (t : Bool) → fit ≡ t → (if t then by_codes j.read else at_place why.Outside a j.read) ≡ good c → Character a c b
      by true f e = by_member (is_code a j.read) refl e (below_is (2 ^ place_width (length a)) a f)
      by false f e = subst (Character a c) (sym j.is_read.is) (by_place j.read (λ h. apart (sym (below_true (2 ^ place_width (length a)) a h) ∙ f)) (there why.Outside a j.read c e))

  character_from_bits : (c : ℕ) (b : Bits) → Character a c b → Stated c b
  character_from_bits c b (by_code h m) = record {
    read = c;
    is_read = record { fits = code_fits (2 ^ place_width (length a)) a h m; is = refl };
    judged =
        if_true fit (by_codes c) (at_place why.Outside a c) (below_true (2 ^ place_width (length a)) a h)
        ∙ if_true (is_code a c) (good c) (bad why.Outside) (code_true a m);
  }
  character_from_bits c b (by_place i n e) = record {
    read = i;
    is_read = record { fits = place_fits (length a) i (found_below a i e); is = refl };
    judged =
        if_false fit (by_codes i) (at_place why.Outside a i) (false_from_ne_true fit (λ f. n (below_is (2 ^ place_width (length a)) a f)))
        ∙ is_there why.Outside a i c e;
  }

  pub a_character : IsReading (Character a) (character_from a)
  a_character = same character_to character_from_bits (judged (character_of a) (field (place_width (length a))))

  is_member : {c : ℕ} {b : Bits} → Character a c b → IsMember c a
  is_member (by_code h m) = m
  is_member (by_place {c = c} i n e) = member_at a i c e

  record AreCharacters (o : List ℕ) (xs : Items) : Type 0 where
    characters : Characters a o xs
    members : AllByRecursion (λ x. IsMember x a) o
    long : length o ≡ length xs

  characters_of : {o : List ℕ} {xs : Items} → EachHas (Character a) o xs → AreCharacters o xs
  characters_of none_has = record { characters = no_character; members = tt; long = refl }
  characters_of (one_has p e) = let t = characters_of e in record { characters = character p t.characters; members = (is_member p, t.members); long = ap suc t.long }

  pub are_members : {o : List ℕ} {xs : Items} → EachHas (Character a) o xs → AllByRecursion (λ x. IsMember x a) o
  are_members e = (characters_of e).members

  of_characters : {o : List ℕ} {xs : Items} → Characters a o xs → EachHas (Character a) o xs
  of_characters no_character = none_has
  of_characters (character p e) = one_has p (of_characters e)

  module _ (k : StringKind) (c : Constraint) (bounds : AreBounds IsSize c) where
    record Text (w : AbstractValue) (b : Bits) : Type 0 where
      codes : List ℕ
      is : w ≡ text codes
      sized : AreSized (Character a) c codes b

    taken_text : {w : AbstractValue} {b : Bits} → LeafPer (a_restricted_string k a c) w b → IsPrimitive (a_restricted_string k a c) w → Text w b
    taken_text (of_restricted {o = o} {xs = xs} p s) (fits_restricted m z) = record {
      codes = o;
      is = refl;
      sized = record { items = xs; are = of_characters p; allowed = subst (IsAllowedSize c) (characters_of (of_characters p)).long z; sized = s };
    }

    pub strings : IsReading (IsLeafOf (a_restricted_string k a c)) (judging (λ o. good (text o)) (sized_from c (each_from (character_from a))))
    strings = same to from (judged (λ o. good (text o)) (sized_read c (each_from (character_from a)) (each a_character) bounds))
      where
        to : (w : AbstractValue) (x : Bits) → IsJudged (AreSized (Character a) c) (λ o. good (text o)) w x → IsLeafOf (a_restricted_string k a c) w x
        to w x j =
            let s = j.is_read in
            let t = characters_of s.are in
            record {
              leaf = subst (λ q. LeafPer (a_restricted_string k a c) q x) (good_is j.judged) (of_restricted t.characters s.sized);
              fits = subst (IsPrimitive (a_restricted_string k a c)) (good_is j.judged) (fits_restricted t.members (subst (IsAllowedSize c) (sym t.long) s.allowed));
            }

        from : (w : AbstractValue) (x : Bits) → IsLeafOf (a_restricted_string k a c) w x → IsJudged (AreSized (Character a) c) (λ o. good (text o)) w x
        from w x l = let t = taken_text l.leaf l.fits in record { read = t.codes; is_read = t.sized; judged = ap good (sym t.is) }
