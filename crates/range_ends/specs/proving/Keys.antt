-- Names as numbers: their places in a list of names in order.
use Rattle.std.specs.Prelude.{ℕ, zero, suc, ◌+◌, ◌-◌, ◌/◌, List, map, length, Option, Some, None, slice_get, nat_lt, option_map, if◌then◌else◌}
use Rattle.std.specs.Borrow.{Bor}
use Rattle.std.specs.Ordering.{nat_cmp}
use Rattle.std.specs.Cmp.Lexicographic.{slice_cmp}
use Rattle.std.specs.declared.cmp.Ordering.{Ordering}
use Rattle.std.specs.declared.cmp.Ordering.TheVariants.{Less, Equal, Greater}
use Rattle.trees.specs.Values.{Name}

-- names as lists of octets
abbrev pub texts : List (Bor Name) → List Name
texts = map (λ n. n.now)

-- how the name at a place of the list compares with name x
abbrev pub compared : List Name → Name → ℕ → Option Ordering
compared ns x i = option_map (λ y. slice_cmp nat_cmp y x) (slice_get ns i)

-- one of three answers, by a comparison
abbrev pub by_order : Option Ordering → (less same more : Option ℕ) → Option ℕ
by_order None less same more = None
by_order (Some Less) less same more = less
by_order (Some Equal) less same more = same
by_order (Some Greater) less same more = more

-- the place in the middle
abbrev pub middle : (low high : ℕ) → ℕ
middle low high = low + (high - low) / 2

-- the place of name x that a search by halves finds, in so many rounds, from place `low` to the one before `high`
abbrev pub key_between : (rounds : ℕ) → List Name → Name → (low high : ℕ) → Option ℕ
key_between zero ns x low high = None
key_between (suc r) ns x low high =
    if nat_lt low high
    then by_order (compared ns x (middle low high))
    (key_between r ns x (middle low high + 1) high)
    (Some (middle low high))
    (key_between r ns x low (middle low high))
    else None

-- the number of name x: the place in the list that a search by halves finds
abbrev pub key_in : List Name → Name → Option ℕ
key_in ns x = key_between (length ns) ns x 0 (length ns)
