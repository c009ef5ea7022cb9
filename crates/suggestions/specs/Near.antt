-- Names that may have been meant for one another (own rule). Letters in upper and lower case count as the same here.
use Rattle.std.specs.Prelude.{ℕ, ◌-◌, List, [], ◌∷◌, Bool, true, false, ◌==◌, ◌&&◌, ◌||◌, nat_lt}
use Rattle.std.specs.Prelude.{if◌then◌else◌, drop, length, reverse, take}
use Rattle.std.specs.Char.{eq_ignore_ascii_case}
use Rattle.std.specs.List.{common_prefix_len}
use Rattle.std.specs.Str.{bytes_eq}

-- the number of octets that two texts have in common at the start
abbrev pub common_front : List ℕ → List ℕ → ℕ
common_front x y = common_prefix_len eq_ignore_ascii_case x y

-- the number of octets that two texts have in common at the end
abbrev pub common_end : List ℕ → List ℕ → ℕ
common_end x y = common_front (reverse x) (reverse y)

-- what is left of text x without n octets at its end
abbrev pub without_end : ℕ → List ℕ → List ℕ
without_end n x = take (length x - n) x

-- both texts have the same two octets, in the other order
abbrev pub are_swapped : List ℕ → List ℕ → Bool
are_swapped (a ∷ b ∷ []) (c ∷ d ∷ []) = (a == d) && (b == c)
are_swapped x y = false

-- one octet is wrong, missing or too many, or two octets are swapped, where x is in place of y
abbrev pub is_slip : List ℕ → List ℕ → Bool
is_slip x y = (nat_lt (length x) 2 && nat_lt (length y) 2) || are_swapped x y

-- x is in place of y in names of n and m octets: nothing differs but the case of letters, or the names have three
-- octets or more and x is a slip
abbrev pub is_slip_in : (n m : ℕ) → (x y : List ℕ) → Bool
is_slip_in n m x y =
    if (length x == 0) && (length y == 0)
    then true
    else (if nat_lt n 3 || nat_lt m 3 then false else is_slip x y)

-- the same of what is left of two texts without what these have in common at their end
abbrev pub is_slip_before_end : (n m : ℕ) → (x y : List ℕ) → Bool
is_slip_before_end n m x y = is_slip_in n m (without_end (common_end x y) x) (without_end (common_end x y) y)

-- Whether one name may have been meant for the other. They aren't the same, and they differ by a slip: without what
-- they have in common at the start, and then without what the rests have in common at the end.
abbrev pub are_near : List ℕ → List ℕ → Bool
are_near x y =
    if bytes_eq x y
    then false
    else is_slip_before_end (length x) (length y) (drop (common_front x y) x) (drop (common_front x y) y)
