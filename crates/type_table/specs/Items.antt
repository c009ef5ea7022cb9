-- The numbers of the items of enumerations (X.680, clauses 20.5 and 20.6).
use Rattle.std.specs.Prelude.{◌<◌, ◌≤◌, ℕ, zero, suc, max, ℤ, pos, negsuc, Bool, cond, List, [], ◌∷◌, ◌++◌, length, Option, Some, None}
use Rattle.std.specs.List.{list_any}
use Rattle.std.specs.Ordering.{int_eq}
use Rattle.trees.specs.Values.{Name}
use Rattle.names.specs.Modules.{OccursIn}

-- an item: its name, and its number if one is written
abbrev pub WrittenItem : Type 0
WrittenItem = Name × Option ℤ

-- the items after the marker, or none if there is no marker
abbrev pub additions_of : Option (List WrittenItem) → List WrittenItem
additions_of None = []
additions_of (Some is) = is

-- the numbers that are written
abbrev pub given_numbers : List WrittenItem → List ℤ
given_numbers [] = []
given_numbers ((x, None) ∷ is) = given_numbers is
given_numbers ((x, Some z) ∷ is) = z ∷ given_numbers is

-- n is greater than z
abbrev pub IsAbove : ℕ → ℤ → Type 0
IsAbove n (pos m) = m < n
IsAbove n (negsuc m) = Unit {0}

-- n is the least number from 0 on that isn't in `used` and is greater than each number in `earlier`
pub record IsNext (used earlier : List ℤ) (n : ℕ) : Type 0 where
  pub unused : OccursIn used (pos n) → ⊥
  pub above : (z : ℤ) → OccursIn earlier z → IsAbove n z
  pub least : (m : ℕ) → (OccursIn used (pos m) → ⊥) → ((z : ℤ) → OccursIn earlier z → IsAbove m z) → n ≤ m

-- The numbers of root items (X.680, clause 20.5). An item has its written number. Each item without one gets the next
-- number from 0 on that no root item has in writing. `earlier` holds the numbers of the earlier items without a written
-- one.
pub data AreRootNumbers (given : List ℤ) : (earlier : List ℤ) → List WrittenItem → List ℤ → Type 0 where
  no_root_item : {earlier : List ℤ} → AreRootNumbers given earlier [] []
  root_written : {earlier : List ℤ} (x : Name) (z : ℤ) {is : List WrittenItem} {zs : List ℤ} →
      AreRootNumbers given earlier is zs →
      AreRootNumbers given earlier ((x, Some z) ∷ is) (z ∷ zs)
  root_counted : {earlier : List ℤ} (x : Name) (n : ℕ) {is : List WrittenItem} {zs : List ℤ} →
      IsNext given earlier n →
      AreRootNumbers given (pos n ∷ earlier) is zs →
      AreRootNumbers given earlier ((x, None) ∷ is) (pos n ∷ zs)

-- The numbers of additions (X.680, clause 20.6). An addition has its written number. Each addition without one gets the
-- least number from 0 on that no root item has and that is greater than those of all earlier additions.
pub data AreAdditionNumbers (root : List ℤ) : (earlier : List ℤ) → List WrittenItem → List ℤ → Type 0 where
  no_addition : {earlier : List ℤ} → AreAdditionNumbers root earlier [] []
  addition_written : {earlier : List ℤ} (x : Name) (z : ℤ) {is : List WrittenItem} {zs : List ℤ} →
      AreAdditionNumbers root (z ∷ earlier) is zs →
      AreAdditionNumbers root earlier ((x, Some z) ∷ is) (z ∷ zs)
  addition_counted : {earlier : List ℤ} (x : Name) (n : ℕ) {is : List WrittenItem} {zs : List ℤ} →
      IsNext root earlier n →
      AreAdditionNumbers root (pos n ∷ earlier) is zs →
      AreAdditionNumbers root earlier ((x, None) ∷ is) (pos n ∷ zs)

-- ---- functions that compute the same numbers; the law `lemma_numbers_of_items` says that they agree

-- whether z is in the list
abbrev pub is_among : ℤ → List ℤ → Bool
is_among z zs = list_any (int_eq z) zs

-- the first of the next `turns` numbers from n on that isn't in the list, or the number after these if each of them is
-- in it
abbrev pub first_free : (turns n : ℕ) → List ℤ → ℕ
first_free zero n used = n
first_free (suc turns) n used = cond (is_among (pos n) used) (first_free turns (suc n) used) n

-- The least number from n on that isn't in the list. A list has at most as many numbers as its length.
abbrev pub least_free : ℕ → List ℤ → ℕ
least_free n used = first_free (length used) n used

-- the written number, or else the least number from n on that isn't in the list
abbrev pub number_or : ℕ → List ℤ → Option ℤ → ℤ
number_or n used (Some z) = z
number_or n used None = pos (least_free n used)

-- the number from which to count on: n after a written number, else one more than the number that this item gets
abbrev pub counted_to : ℕ → List ℤ → Option ℤ → ℕ
counted_to n used (Some z) = n
counted_to n used None = suc (least_free n used)

-- the numbers of these root items, if the count is at n and `given` holds the written numbers
abbrev pub root_from : List ℤ → ℕ → List WrittenItem → List ℤ
root_from given n [] = []
root_from given n (i ∷ is) = number_or n given i.1 ∷ root_from given (counted_to n given i.1) is

-- the numbers of root items (X.680, clause 20.5)
abbrev pub root_numbers : List WrittenItem → List ℤ
root_numbers is = root_from (given_numbers is) 0 is

-- the least number from 0 on that is greater than this one
abbrev pub past : ℤ → ℕ
past (pos n) = suc n
past (negsuc n) = 0

-- the numbers of these additions, if n is the least number from 0 on that is greater than those of earlier additions
abbrev pub additions_from : List ℤ → ℕ → List WrittenItem → List ℤ
additions_from root n [] = []
additions_from root n (i ∷ is) =
    number_or n root i.1 ∷ additions_from root (max n (past (number_or n root i.1))) is

-- the numbers of additions after these root items (X.680, clause 20.6)
abbrev pub addition_numbers : List WrittenItem → List WrittenItem → List ℤ
addition_numbers root is = additions_from (root_numbers root) 0 is

-- the numbers of root items, and then those of additions
abbrev pub numbers_of : List WrittenItem → List WrittenItem → List ℤ
numbers_of root more = root_numbers root ++ addition_numbers root more
