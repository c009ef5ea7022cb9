-- Worked rows: enumerations and the numbers of their items (X.680, clauses 20.5 and 20.6).
use Rattle.std.proofs.Common.{◌≡◌, ℕ, [], ◌∷◌, Some, None, refl}
use Rattle.std.specs.Prelude.{ℤ, pos, negsuc}
use Rattle.type_table.specs.Items.{WrittenItem, root_numbers, addition_numbers, numbers_of}

-- the items `a`, `b` ..
abbrev bare : ℕ → WrittenItem
bare x = (x ∷ [], None)

-- the items `a (0)`, `b (3)` ..
abbrev given : ℕ → ℤ → WrittenItem
given x z = (x ∷ [], Some z)

-- in `{a, b(3), c, ..., d}` a has 0, b 3, c 1 and d 2
row_gaps : numbers_of (bare 97 ∷ given 98 (pos 3) ∷ bare 99 ∷ []) (bare 100 ∷ [])
    ≡ pos 0 ∷ pos 3 ∷ pos 1 ∷ pos 2 ∷ []
row_gaps = refl

-- `{a, b, ..., c(1)}` has 1 twice
row_twice : numbers_of (bare 97 ∷ bare 98 ∷ []) (given 99 (pos 1) ∷ []) ≡ pos 0 ∷ pos 1 ∷ pos 1 ∷ []
row_twice = refl

-- `{a, ..., b, c(0)}` has 0 twice
row_zero : numbers_of (bare 97 ∷ []) (bare 98 ∷ given 99 (pos 0) ∷ []) ≡ pos 0 ∷ pos 1 ∷ pos 0 ∷ []
row_zero = refl

-- in `{a(-1), b, c(0)}` b has 1
row_below_zero : root_numbers (given 97 (negsuc 0) ∷ bare 98 ∷ given 99 (pos 0) ∷ []) ≡ negsuc 0 ∷ pos 1 ∷ pos 0 ∷ []
row_below_zero = refl

-- in `{a(2), ..., b(-7), c, d, e(9), f}` c has 0, d 1 and f 10
row_additions :
    addition_numbers (given 97 (pos 2) ∷ [])
    (given 98 (negsuc 6) ∷ bare 99 ∷ bare 100 ∷ given 101 (pos 9) ∷ bare 102 ∷ [])
    ≡ negsuc 6 ∷ pos 0 ∷ pos 1 ∷ pos 9 ∷ pos 10 ∷ []
row_additions = refl

-- in `{a(1), b(2), ..., c(0), d}` d has 3, since root items have 1 and 2
row_past_root : addition_numbers (given 97 (pos 1) ∷ given 98 (pos 2) ∷ []) (given 99 (pos 0) ∷ bare 100 ∷ [])
    ≡ pos 0 ∷ pos 3 ∷ []
row_past_root = refl

-- in `{a, ..., b(5), c(3), d}` d has 6, which is greater than both
row_above_all : addition_numbers (bare 97 ∷ []) (given 98 (pos 5) ∷ given 99 (pos 3) ∷ bare 100 ∷ [])
    ≡ pos 5 ∷ pos 3 ∷ pos 6 ∷ []
row_above_all = refl
