-- Worked rows: trees of names, and value assignments that are left on a way.
use Rattle.std.proofs.Common.{ℕ, List, [], ◌∷◌, refl}
use Rattle.typed_values.specs.Chains.{Has, IsLeft}
use Rattle.typed_values.specs.Chains as chains
use Rattle.typed_values.specs.declared.stops.Branch.{Branch}

-- branch 0 is the empty tree; branch 1 has 7 for even numbers and 9 for odd ones; branch 2 has branch 1 for odd numbers
abbrev branches : List Branch
branches = record { even = 0; odd = 0 } ∷ record { even = 7; odd = 9 } ∷ record { even = 0; odd = 1 } ∷ []

-- a tree of no branch is what it has
no_branch : Has branches 0 5 3 5
no_branch = refl

-- one branch has even numbers apart from odd ones
even_number : Has branches 1 1 4 7
even_number = (record { even = 7; odd = 9 }, refl, refl)

odd_number : Has branches 1 1 3 9
odd_number = (record { even = 7; odd = 9 }, refl, refl)

-- 6 in binary digits is 110: even, and then odd
empty_branch : Has branches 2 2 6 0
empty_branch = (record { even = 0; odd = 1 }, refl, (record { even = 0; odd = 0 }, refl, refl))

-- 5 is 101: odd, and then even
two_branches : Has branches 2 2 5 7
two_branches = (record { even = 0; odd = 1 }, refl, (record { even = 7; odd = 9 }, refl, refl))

-- of three value assignments the first one has three left, the last one has one
first_left : IsLeft (4 ∷ 8 ∷ 6 ∷ []) 3 4
first_left = chains.here refl

last_left : IsLeft (4 ∷ 8 ∷ 6 ∷ []) 1 6
last_left = chains.after (chains.after (chains.here refl))
