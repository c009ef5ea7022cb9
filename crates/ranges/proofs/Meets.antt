-- What two sets of ranges meet in has the numbers that are in both, and is apart.
use Rattle.std.proofs.Common.{inl, inr, ℤ, sym, subst}
use Rattle.std.specs.Prelude.{◌⊎◌, List, [], ◌∷◌}
use Rattle.std.specs.List.{AllByRecursion}
use Rattle.asn_base.specs.Types.{Range}
use Rattle.asn_base.specs.Typed.{IsInRange, IsInSome}
use Rattle.ranges.specs.Numbers.{EndsBefore, AreApart}
use Rattle.ranges.specs.proving.Meeting.{common, EndsAtMost, IsKept, Meets, meets_none, meets_with_none, meets_past_left, meets_past_right}
use Rattle.ranges.proofs.Orders as orders

pub in_common : (r s : Range) (z : ℤ) → IsInRange z r → IsInRange z s → IsInRange z (common r s)
in_common r s z i j =
    (orders.from_later r.least s.least z i.0 j.0, orders.up_to_earlier r.greatest s.greatest z i.1 j.1)

pub common_left : (r s : Range) (z : ℤ) → IsInRange z (common r s) → IsInRange z r
common_left r s z i =
    (orders.later_from_left r.least s.least z i.0, orders.earlier_up_to_left r.greatest s.greatest z i.1)

pub common_right : (r s : Range) (z : ℤ) → IsInRange z (common r s) → IsInRange z s
common_right r s z i =
    (orders.later_from_right r.least s.least z i.0, orders.earlier_up_to_right r.greatest s.greatest z i.1)

-- a number of a range that ends first is in no range after the other
past : (r s : Range) (ss : List Range) (z : ℤ)
    → EndsAtMost r.greatest s.greatest
    → AllByRecursion (EndsBefore s) ss
    → IsInRange z r
    → IsInSome z ss
    → ⊥
past r s [] z e a i j = j
past r s (t ∷ ss) z e a i (inl j) = orders.no_more r.greatest s.greatest t.least z e a.0 i.1 j.0
past r s (t ∷ ss) z e a i (inr j) = past r s ss z e a.1 i j

pub from_kept : (r : Range) (ms ns : List Range) (z : ℤ)
    → IsKept r ms ns
    → IsInSome z ns
    → IsInRange z r ⊎ IsInSome z ms
from_kept r ms ns z (inl k) i = subst (λ xs. IsInSome z xs) k.1 i
from_kept r ms ns z (inr k) i = inr (subst (λ xs. IsInSome z xs) k.1 i)

pub into_kept : (r : Range) (ms ns : List Range) (z : ℤ)
    → IsKept r ms ns
    → IsInRange z r ⊎ IsInSome z ms
    → IsInSome z ns
into_kept r ms ns z (inl k) i = subst (λ xs. IsInSome z xs) (sym k.1) i
into_kept r ms ns z (inr k) (inl i) = absurd (k.0 (orders.in_some r.least r.greatest z i.0 i.1))
into_kept r ms ns z (inr k) (inr i) = subst (λ xs. IsInSome z xs) (sym k.1) i

pub meet_from : {rs ss ms : List Range} (z : ℤ) → Meets rs ss ms → IsInSome z ms → IsInSome z rs × IsInSome z ss
meet_from z meets_none i = absurd i
meet_from z meets_with_none i = absurd i
meet_from z (meets_past_left {r} {s} {rs} {ss} {ms} {ns} e m k) i =
    elim (from_kept (common r s) ms ns z k i) [
      | inl h ↦ (inl (common_left r s z h), inl (common_right r s z h))
      | inr h ↦ let j = meet_from z m h in (inr j.0, j.1)
    ]
meet_from z (meets_past_right {r} {s} {rs} {ss} {ms} {ns} e m k) i =
    elim (from_kept (common r s) ms ns z k i) [
      | inl h ↦ (inl (common_left r s z h), inl (common_right r s z h))
      | inr h ↦ let j = meet_from z m h in (j.0, inr j.1)
    ]

pub meet_into : {rs ss ms : List Range} (z : ℤ)
    → Meets rs ss ms
    → AreApart rs
    → AreApart ss
    → IsInSome z rs
    → IsInSome z ss
    → IsInSome z ms
meet_into z meets_none a b i j = i
meet_into z meets_with_none a b i j = j
meet_into z (meets_past_left {r} {s} {rs} {ss} {ms} {ns} e m k) a b (inl i) (inl j) =
    into_kept (common r s) ms ns z k (inl (in_common r s z i j))
meet_into z (meets_past_left {r} {s} {rs} {ss} {ms} {ns} e m k) a b (inl i) (inr j) =
    absurd (past r s ss z e b.1 i j)
meet_into z (meets_past_left {r} {s} {rs} {ss} {ms} {ns} e m k) a b (inr i) j =
    into_kept (common r s) ms ns z k (inr (meet_into z m a.2 b i j))
meet_into z (meets_past_right {r} {s} {rs} {ss} {ms} {ns} e m k) a b (inl i) (inl j) =
    into_kept (common r s) ms ns z k (inl (in_common r s z i j))
meet_into z (meets_past_right {r} {s} {rs} {ss} {ms} {ns} e m k) a b (inr i) (inl j) =
    absurd (past s r rs z e a.1 j i)
meet_into z (meets_past_right {r} {s} {rs} {ss} {ms} {ns} e m k) a b i (inr j) =
    into_kept (common r s) ms ns z k (inr (meet_into z m a b.2 i j))

pub kept_all : (P : Range → Type 0) (r : Range) (ms ns : List Range)
    → IsKept r ms ns
    → P r
    → AllByRecursion P ms
    → AllByRecursion P ns
kept_all P r ms ns (inl k) p a = subst (λ xs. AllByRecursion P xs) (sym k.1) (p, a)
kept_all P r ms ns (inr k) p a = subst (λ xs. AllByRecursion P xs) (sym k.1) a

-- what ends before all of one side ends before all that the two meet in
pub before_left : {rs ss ms : List Range} (x : Range)
    → Meets rs ss ms
    → AllByRecursion (EndsBefore x) rs
    → AllByRecursion (EndsBefore x) ms
before_left x meets_none a = tt
before_left x meets_with_none a = tt
before_left x (meets_past_left {r} {s} {rs} {ss} {ms} {ns} e m k) a =
    kept_all (EndsBefore x) (common r s) ms ns k (orders.before_left x.greatest r.least s.least a.0) (before_left x m a.1)
before_left x (meets_past_right {r} {s} {rs} {ss} {ms} {ns} e m k) a =
    kept_all (EndsBefore x) (common r s) ms ns k (orders.before_left x.greatest r.least s.least a.0) (before_left x m a)

pub before_right : {rs ss ms : List Range} (x : Range)
    → Meets rs ss ms
    → AllByRecursion (EndsBefore x) ss
    → AllByRecursion (EndsBefore x) ms
before_right x meets_none a = tt
before_right x meets_with_none a = tt
before_right x (meets_past_left {r} {s} {rs} {ss} {ms} {ns} e m k) a =
    kept_all (EndsBefore x) (common r s) ms ns k (orders.before_right x.greatest r.least s.least a.0) (before_right x m a)
before_right x (meets_past_right {r} {s} {rs} {ss} {ms} {ns} e m k) a =
    kept_all (EndsBefore x) (common r s) ms ns k (orders.before_right x.greatest r.least s.least a.0) (before_right x m a.1)

pub kept_apart : (r : Range) (ms ns : List Range)
    → IsKept r ms ns
    → AllByRecursion (EndsBefore r) ms
    → AreApart ms
    → AreApart ns
kept_apart r ms ns (inl k) b a = subst AreApart (sym k.1) (k.0, b, a)
kept_apart r ms ns (inr k) b a = subst AreApart (sym k.1) a

pub common_before_left : (r s : Range) (ts : List Range)
    → AllByRecursion (EndsBefore r) ts
    → AllByRecursion (EndsBefore (common r s)) ts
common_before_left r s [] a = tt
common_before_left r s (t ∷ ts) a =
    (orders.earlier_before_left r.greatest s.greatest t.least a.0, common_before_left r s ts a.1)

pub common_before_right : (r s : Range) (ts : List Range)
    → AllByRecursion (EndsBefore s) ts
    → AllByRecursion (EndsBefore (common r s)) ts
common_before_right r s [] a = tt
common_before_right r s (t ∷ ts) a =
    (orders.earlier_before_right r.greatest s.greatest t.least a.0, common_before_right r s ts a.1)

pub meet_apart : {rs ss ms : List Range} → Meets rs ss ms → AreApart rs → AreApart ss → AreApart ms
meet_apart meets_none a b = tt
meet_apart meets_with_none a b = tt
meet_apart (meets_past_left {r} {s} {rs} {ss} {ms} {ns} e m k) a b =
    kept_apart (common r s) ms ns k (before_left (common r s) m (common_before_left r s rs a.1)) (meet_apart m a.2 b)
meet_apart (meets_past_right {r} {s} {rs} {ss} {ms} {ns} e m k) a b =
    kept_apart (common r s) ms ns k (before_right (common r s) m (common_before_right r s ss b.1)) (meet_apart m a b.2)
