-- Joined ranges have the same numbers, and are apart.
use Rattle.std.proofs.Common.{inl, inr, ℤ}
use Rattle.std.specs.Prelude.{◌⊎◌, List, [], ◌∷◌}
use Rattle.std.specs.List.{AllByRecursion}
use Rattle.asn_base.specs.Types.{Range}
use Rattle.asn_base.specs.Typed.{IsInRange, IsInSome}
use Rattle.ranges.specs.Numbers.{HoldsSome, EndsBefore, AreApart}
use Rattle.ranges.specs.proving.Joining.{BeginsAtMost, AreAscending, joined, Joins, joins_last, joins_apart, joins_touching}
use Rattle.ranges.proofs.Orders as orders

-- a joined range has the numbers of the two
pub in_joined : (r s : Range) (z : ℤ)
    → BeginsAtMost r.least s.least
    → (EndsBefore r s → ⊥)
    → IsInRange z (joined r s)
    → IsInRange z r ⊎ IsInRange z s
in_joined r s z b n i =
    elim (orders.up_to_later r.greatest s.greatest z i.1) [
      | inl u ↦ inl (i.0, u)
      | inr p ↦ inr (orders.from_touching r.greatest s.least z n p.0, p.1)
    ]

pub in_joined_left : (r s : Range) (z : ℤ) → IsInRange z r → IsInRange z (joined r s)
in_joined_left r s z i = (i.0, orders.up_to_left r.greatest s.greatest z i.1)

pub in_joined_right : (r s : Range) (z : ℤ) → BeginsAtMost r.least s.least → IsInRange z s → IsInRange z (joined r s)
in_joined_right r s z b i =
    (orders.from_at_most r.least s.least z b i.0, orders.up_to_right r.greatest s.greatest z i.1)

pub joined_holds_some : (r s : Range) → HoldsSome r → HoldsSome (joined r s)
joined_holds_some r s h = orders.joined_some r.least r.greatest s.greatest h

-- the ranges after a joined one ascend from it
pub ascend_joined : (r s : Range) (rs : List Range) → AreAscending (r ∷ s ∷ rs) → AreAscending (joined r s ∷ rs)
ascend_joined r s [] a = tt
ascend_joined r s (t ∷ rs) a = (orders.begins_trans r.least s.least t.least a.0 a.1.0, a.1.1)

-- what is in the joined ranges is in those that were joined
pub joined_from : {r : Range} {rs js : List Range} (z : ℤ)
    → Joins r rs js
    → AreAscending (r ∷ rs)
    → IsInSome z js
    → IsInSome z (r ∷ rs)
joined_from z joins_last a i = i
joined_from z (joins_apart b j) a (inl i) = inl i
joined_from z (joins_apart b j) a (inr i) = inr (joined_from z j a.1 i)
joined_from z (joins_touching {r} {s} {rs} {js} n j) a i =
    elim (joined_from z j (ascend_joined r s rs a) i) [
      | inl h ↦ elim (in_joined r s z a.0 n h) [ inl l ↦ inl l | inr l ↦ inr (inl l) ]
      | inr h ↦ inr (inr h)
    ]

-- and the other way round
pub joined_into : {r : Range} {rs js : List Range} (z : ℤ)
    → Joins r rs js
    → AreAscending (r ∷ rs)
    → IsInSome z (r ∷ rs)
    → IsInSome z js
joined_into z joins_last a i = i
joined_into z (joins_apart b j) a (inl i) = inl i
joined_into z (joins_apart b j) a (inr i) = inr (joined_into z j a.1 i)
joined_into z (joins_touching {r} {s} {rs} {js} n j) a (inl i) =
    joined_into z j (ascend_joined r s rs a) (inl (in_joined_left r s z i))
joined_into z (joins_touching {r} {s} {rs} {js} n j) a (inr (inl i)) =
    joined_into z j (ascend_joined r s rs a) (inl (in_joined_right r s z a.0 i))
joined_into z (joins_touching {r} {s} {rs} {js} n j) a (inr (inr i)) =
    joined_into z j (ascend_joined r s rs a) (inr i)

-- what ends before the first range ends before all joined ones
pub before_joined : {r : Range} {rs js : List Range} (x : Range)
    → Joins r rs js
    → AreAscending (r ∷ rs)
    → EndsBefore x r
    → AllByRecursion (EndsBefore x) js
before_joined x joins_last a e = (e, tt)
before_joined x (joins_apart {r} {s} {rs} {js} b j) a e =
    (e, before_joined x j a.1 (orders.ends_before_later x.greatest r.least s.least e a.0))
before_joined x (joins_touching {r} {s} {rs} {js} n j) a e = before_joined x j (ascend_joined r s rs a) e

-- joined ranges are apart
pub joined_apart : {r : Range} {rs js : List Range}
    → Joins r rs js
    → AreAscending (r ∷ rs)
    → AllByRecursion HoldsSome (r ∷ rs)
    → AreApart js
joined_apart joins_last a h = (h.0, tt, tt)
joined_apart (joins_apart {r} {s} {rs} {js} b j) a h = (h.0, before_joined r j a.1 b, joined_apart j a.1 h.1)
joined_apart (joins_touching {r} {s} {rs} {js} n j) a h =
    joined_apart j (ascend_joined r s rs a) (joined_holds_some r s h.0, h.1.1)
