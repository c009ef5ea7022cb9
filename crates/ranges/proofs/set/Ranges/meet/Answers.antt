use Rattle.std.proofs.Common.{subst, sym}
use Rattle.asn_base.specs.Typed.{IsInSome}
use Rattle.ranges.specs.Numbers.{AreApart}
use Rattle.ranges.proofs.Meets.{meet_from, meet_into, meet_apart}
use Rattle.ranges.proofs.set.Ranges.meet.Goals as goal

pub meet-requires-clause-left : goal.meet-requires-clause-left
meet-requires-clause-left c = subst AreApart (sym c.ranges-2.ensures.is) c.ranges-2.ensures.apart

pub meet-requires-clause-right : goal.meet-requires-clause-right
meet-requires-clause-right c = subst AreApart (sym c.ranges-3.ensures.is) c.ranges-3.ensures.apart

pub invariant_of-result : goal.invariant_of-result
invariant_of-result c =
    let left = subst AreApart (sym c.ranges-2.ensures.is) c.ranges-2.ensures.apart in
    let right = subst AreApart (sym c.ranges-3.ensures.is) c.ranges-3.ensures.apart in
    rw c.in_ok-new.ensures.ok (meet_apart c.in_ok-items.ensures left right)

pub returns : goal.returns
returns c =
    let left = subst AreApart (sym c.ranges-2.ensures.is) c.ranges-2.ensures.apart in
    let right = subst AreApart (sym c.ranges-3.ensures.is) c.ranges-3.ensures.apart in
    let m = c.in_ok-items.ensures in
    record {
      members = λ z. rw c.in_ok-new.ensures.ok (
        λ i. (let j = meet_from z m i in
            (subst (λ xs. IsInSome z xs) c.ranges-2.ensures.is j.0, subst (λ xs. IsInSome z xs) c.ranges-3.ensures.is j.1)),
        λ i. meet_into z m left right (subst (λ xs. IsInSome z xs) (sym c.ranges-2.ensures.is) i.0)
            (subst (λ xs. IsInSome z xs) (sym c.ranges-3.ensures.is) i.1),
      );
    }
