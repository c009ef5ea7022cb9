-- How many numbers items get.
use Rattle.std.proofs.Common.{◌≡◌, ℕ, ℤ, ◌++◌, suc, List, [], ◌∷◌, length, refl, ap, arith, length-append}
use Rattle.std.specs.Prelude.{max}
use Rattle.type_table.specs.Items.{WrittenItem, number_or, counted_to, past, root_from, root_numbers, additions_from, addition_numbers, numbers_of, given_numbers}

root_long : (given : List ℤ) (n : ℕ) (is : List WrittenItem) → length (root_from given n is) ≡ length is
root_long given n [] = refl
root_long given n (i ∷ is) = ap suc (root_long given (counted_to n given i.1) is)

pub more_long : (root : List ℤ) (n : ℕ) (is : List WrittenItem) → length (additions_from root n is) ≡ length is
more_long root n [] = refl
more_long root n (i ∷ is) = ap suc (more_long root (max n (past (number_or n root i.1))) is)

pub numbers_long : (root more : List WrittenItem) → length (numbers_of root more) ≡ length (root ++ more)
numbers_long root more =
    let a = root_long (given_numbers root) 0 root in
    let b = more_long (root_numbers root) 0 more in
    omega (arith, a, b, length-append (root_numbers root) (addition_numbers root more), length-append root more)
