-- Items that get their numbers one after the other.
use Rattle.std.proofs.Common.{◌≡◌, ◌⊎◌, inl, inr, ◌+◌, ◌<◌, ℕ, zero, suc, ℤ, Bool, true, false, refl, sym, ap, subst, ◌∙◌, arith, add-one}
use Rattle.std.specs.Prelude.{List, [], ◌∷◌, ◌++◌, map, take, drop, Some, slice_get, length}
use Rattle.std.specs.List.{AllByRecursion, IsDistinct}
use Rattle.std.specs.Ordering.{int_eq}
use Rattle.std.proofs.lemmas.Bool.Decides.{Decides-int_eq}
use Rattle.std.proofs.lemmas.List.{map-append}
use Rattle.std.proofs.lemmas.Option.{same_Some, none-some}
use Rattle.asn_base.specs.Names.{IsMember, is_first, is_later}
use Rattle.asn_base.specs.declared.schema.Item.{Item}
use Rattle.asn_base.specs.Seen.{item_of}
use Rattle.asn_base.specs.Types as types
use Rattle.trees.specs.Values.{Name}
use Rattle.names.specs.Modules.{AreDifferent, OccursIn}
use Rattle.type_table.specs.Items as written
use Rattle.extensions.specs.proving.Items.{item_with, with_numbers, have_one_number}

-- one more element
pub pushed : {A B : Type 0} (f : A → B) (xs ys : List A) (y : A) (done : List B) (b : B)
    → ys ≡ xs ++ y ∷ []
    → map f xs ≡ done
    → f y ≡ b
    → map f ys ≡ done ++ b ∷ []
pushed f xs ys y done b more so_far same =
    ap (map f) more ∙ map-append f xs (y ∷ []) ∙ ap (λ q. q ++ f y ∷ []) so_far ∙ ap (λ q. done ++ q ∷ []) same

-- one more item, and its number
one_more : (is : List written.WrittenItem) (zs : List ℤ) (n : ℕ) (i : written.WrittenItem) (z : ℤ)
    → slice_get is n ≡ Some i
    → slice_get zs n ≡ Some z
    → with_numbers (take (suc n) is) zs ≡ with_numbers (take n is) zs ++ item_with i.0 z ∷ []
one_more [] zs n i z e f = absurd (none-some i e)
one_more (j ∷ is) [] n i z e f = absurd (none-some z f)
one_more (j ∷ is) (y ∷ zs) zero i z e f =
    ap (λ k. item_with k.0 y ∷ []) (same_Some j i e) ∙ ap (λ k. item_with i.0 k ∷ []) (same_Some y z f)
one_more (j ∷ is) (y ∷ zs) (suc n) i z e f = ap (λ k. item_with j.0 y ∷ k) (one_more is zs n i z e f)

pub next_item : (is : List written.WrittenItem) (zs : List ℤ) (n : ℕ) (i : written.WrittenItem) (z : ℤ)
    → slice_get is n ≡ Some i
    → slice_get zs n ≡ Some z
    → with_numbers (take n is) zs ++ item_with i.0 z ∷ [] ≡ with_numbers (take (n + 1) is) zs
next_item is zs n i z e f =
    sym (one_more is zs n i z e f) ∙ ap (λ m. with_numbers (take m is) zs) (sym (add-one n))

pub drop_get : {X : Type 0} (xs : List X) (k n : ℕ) → slice_get (drop k xs) n ≡ slice_get xs (k + n)
drop_get [] zero n = let e : n ≡ 0 + n = omega arith in ap (λ m. slice_get [] m) e
drop_get [] (suc k) n = refl
drop_get (x ∷ xs) zero n = let e : n ≡ 0 + n = omega arith in ap (λ m. slice_get (x ∷ xs) m) e
drop_get (x ∷ xs) (suc k) n =
    let e : suc (k + n) ≡ suc k + n = omega arith in
    drop_get xs k n ∙ ap (λ m. slice_get (x ∷ xs) m) e

-- ---- members

member_cases : {A : Type 0} {a b : A} {as' : List A} → IsMember b (a ∷ as') → (b ≡ a) ⊎ IsMember b as'
member_cases is_first = inl refl
member_cases (is_later m) = inr m

-- an item with its number has a place
pub placed : (is : List written.WrittenItem) (zs : List ℤ) (x : Name) (z : ℤ)
    → IsMember (item_with x z) (with_numbers is zs)
    → (n : ℕ) × (i : written.WrittenItem) × (slice_get is n ≡ Some i) × (i.0 ≡ x) × (slice_get zs n ≡ Some z)
placed [] zs x z m = elim m [ ]
placed (i ∷ is) [] x z m = elim m [ ]
placed (i ∷ is) (y ∷ zs) x z m =
    elim (member_cases m) [
      | inl e ↦ (zero, i, refl, sym (ap (λ (k : types.Item). k.name) e), sym (ap (λ (k : types.Item). Some k.number) e))
      | inr l ↦ (let r = placed is zs x z l in (suc r.0, r.1, r.2, r.3, r.4))
    ]

pub at_place : (is : List written.WrittenItem) (zs : List ℤ) (x : Name) (z : ℤ) (n : ℕ) (i : written.WrittenItem)
    → slice_get is n ≡ Some i
    → i.0 ≡ x
    → slice_get zs n ≡ Some z
    → IsMember (item_with x z) (with_numbers is zs)
at_place [] zs x z n i e q f = absurd (none-some i e)
at_place (j ∷ is) [] x z n i e q f = absurd (none-some z f)
at_place (j ∷ is) (y ∷ zs) x z zero i e q f =
    let same : item_with j.0 y ≡ item_with x z =
    ap (λ (k : written.WrittenItem). item_with k.0 y) (same_Some j i e) ∙ ap (λ w. item_with w y) q ∙ ap (λ w. item_with x w) (same_Some y z f) in
    subst (λ k. IsMember k (item_with j.0 y ∷ with_numbers is zs)) same is_first
at_place (j ∷ is) (y ∷ zs) x z (suc n) i e q f = is_later (at_place is zs x z n i e q f)

-- ---- numbers that differ

first_same : {A : Type 0} {x y : A} {xs ys : List A} → x ∷ xs ≡ y ∷ ys → x ≡ y
first_same h = cc

rest_same : {A : Type 0} {x y : A} {xs ys : List A} → x ∷ xs ≡ y ∷ ys → xs ≡ ys
rest_same h = cc

unlike : (y z : ℤ) (b : Bool) → int_eq y z ≡ b → (y ≡ z → ⊥) → b ≡ false
unlike y z true e never = absurd (never ((Decides-int_eq y z).0 e))
unlike y z false e never = refl

none_like : (z : ℤ) (js : List Item) (is : List written.WrittenItem) (zs : List ℤ)
    → map item_of js ≡ with_numbers is zs
    → (OccursIn zs z → ⊥)
    → AllByRecursion (λ (j : Item). int_eq z j.number ≡ false) js
none_like z [] is zs e never = tt
none_like z (j ∷ js) [] zs e never = absurd cc
none_like z (j ∷ js) (i ∷ is) [] e never = absurd cc
none_like z (j ∷ js) (i ∷ is) (y ∷ zs) e never =
    let same : j.number ≡ y = ap (λ (k : types.Item). k.number) (first_same e) in (
      unlike z j.number _ refl (λ q. never (zero, ap Some (sym (q ∙ same)))),
      none_like z js is zs (rest_same e) (λ s. never (suc s.0, s.1)),
    )

later_distinct : (z : ℤ) (zs : List ℤ) → AreDifferent (z ∷ zs) → AreDifferent zs
later_distinct z zs d x t =
    d x (record {
      first = suc t.first;
      second = suc t.second;
      apart = omega (arith, t.apart);
      here = t.here;
      there = t.there;
    })

head_alone : (z : ℤ) (zs : List ℤ) → AreDifferent (z ∷ zs) → OccursIn zs z → ⊥
head_alone z zs d s =
    d z (record {
      first = zero;
      second = suc s.0;
      apart = omega arith;
      here = refl;
      there = s.1;
    })

-- items whose numbers are distinct
pub differ : (js : List Item) (is : List written.WrittenItem) (zs : List ℤ)
    → map item_of js ≡ with_numbers is zs
    → AreDifferent zs
    → IsDistinct have_one_number js
unfolding IsDistinct
differ [] is zs e d = tt
differ (j ∷ js) [] zs e d = absurd cc
differ (j ∷ js) (i ∷ is) [] e d = absurd cc
differ (j ∷ js) (i ∷ is) (y ∷ zs) e d =
    let same : j.number ≡ y = ap (λ (k : types.Item). k.number) (first_same e) in (
      subst (λ (n : ℤ). AllByRecursion (λ (k : Item). int_eq n k.number ≡ false) js) (sym same) (none_like y js is zs (rest_same e) (head_alone y zs d)),
      differ js is zs (rest_same e) (later_distinct y zs d),
    )
