-- What is put in order has the same members; items whose numbers differ ascend then.
use Rattle.std.proofs.Common.{◌≡◌, ℤ, ◌<ℤ◌, Bool, true, false, arith, refl, sym, add-one, suc, ap, ◌∙◌}
use Rattle.std.specs.Prelude.{List, [], ◌∷◌, map}
use Rattle.std.specs.List.{AllByRecursion, All, IsDistinct}
use Rattle.std.specs.List.Sorted.{IsPermutation, IsSortedByKey}
use Rattle.std.specs.Ordering.{int_cmp, int_eq, is_lt}
use Rattle.std.proofs.lemmas.Cmp.{int_eq_equiv}
use Rattle.std.proofs.lemmas.Int.{ints}
use Rattle.std.proofs.lemmas.List.Elements.{All-head, All-tail, All-nil, All-cons, All-weaker}
use Rattle.std.proofs.lemmas.List.Sorted.{All-permutation, IsPermutation-sym}
use Rattle.std.proofs.lemmas.Map.Keys.{IsDistinct-head, IsDistinct-tail}
use Rattle.asn_base.specs.Names.{IsMember, is_first, is_later}
use Rattle.asn_base.specs.declared.schema.Item.{Item}
use Rattle.asn_base.specs.Types as types
use Rattle.asn_base.specs.Schemas.{NumbersAscend}
use Rattle.asn_base.specs.Seen.{item_of}
use Rattle.extensions.specs.proving.Items.{have_one_number}

-- ---- members

each_in : {A B : Type 0} (f : A → B) (xs : List A) → All (λ a. IsMember (f a) (map f xs)) xs
each_in f [] = All-nil _
each_in f (x ∷ xs) =
    All-cons (λ a. IsMember (f a) (map f (x ∷ xs))) x xs is_first
    (All-weaker (λ a. IsMember (f a) (map f xs)) (λ a. IsMember (f a) (map f (x ∷ xs))) (λ a m. is_later m) xs (each_in f xs))

from_each : {A B : Type 0} (P : B → Type 0) (f : A → B) (b : B) (xs : List A) → All (λ a. P (f a)) xs → IsMember b (map f xs) → P b
from_each P f b [] a m = elim m [ ]
from_each P f b (x ∷ xs) a is_first = All-head (λ a. P (f a)) x xs a
from_each P f b (x ∷ xs) a (is_later m) = from_each P f b xs (All-tail (λ a. P (f a)) x xs a) m

-- what changes places has the same members
pub in_permuted : {A B : Type 0} (f : A → B) (b : B) (xs ys : List A)
    → IsPermutation xs ys
    → IsMember b (map f xs)
    → IsMember b (map f ys)
in_permuted f b xs ys p m =
    from_each (λ b. IsMember b (map f ys)) f b xs
    (All-permutation (λ a. IsMember (f a) (map f ys)) ys xs (IsPermutation-sym xs ys p) (each_in f ys)) m

-- ---- order

abbrev pub key : Item → ℤ
key i = i.number

tail_sorted : (x : Item) (xs : List Item) → IsSortedByKey key int_cmp (x ∷ xs) → IsSortedByKey key int_cmp xs
tail_sorted x xs s k d low high =
    let h = s (suc k) d (omega arith) (omega arith) in
    rw add-one (rw add-one at h)

below : (x y : ℤ) → is_lt (int_cmp y x) ≡ false → int_eq x y ≡ false → x <ℤ y
below x y e f = grind (arith, ints)

further : (x y : Item) (is : List types.Item)
    → x.number <ℤ y.number
    → AllByRecursion (λ j. y.number <ℤ j.number) is
    → AllByRecursion (λ j. x.number <ℤ j.number) is
further x y [] l a = tt
further x y (i ∷ is) l a = ((let h = a.0 in omega (arith, ints)), further x y is l a.1)

pub ascend : (xs : List Item)
    → IsSortedByKey key int_cmp xs
    → IsDistinct have_one_number xs
    → NumbersAscend (map item_of xs)
ascend [] s d = tt
ascend (x ∷ []) s d = (tt, tt)
ascend (x ∷ y ∷ xs) s d =
    let rest = ascend (y ∷ xs) (tail_sorted x (y ∷ xs) s) (IsDistinct-tail have_one_number x (y ∷ xs) d) in
    let less = below x.number y.number (s 0 x (omega arith) (omega arith)) (IsDistinct-head have_one_number x (y ∷ xs) d).0 in
    ((less, further x y (map item_of xs) less rest.0), rest)

pub one_number_flips : (i j : Item) → have_one_number i j ≡ have_one_number j i
one_number_flips i j = int_eq_equiv.symm i.number j.number
