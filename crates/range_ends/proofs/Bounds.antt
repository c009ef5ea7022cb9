-- Ranges in numbers.
use Rattle.std.proofs.Common.{◌≡◌, ◌⊎◌, ◌↔◌, inl, inr, ℤ, List, [], ◌∷◌, ◌++◌, Option, Some, None, refl, sym, subst, arith}
use Rattle.std.specs.Prelude.{pos, negsuc, ◌≤ℤ◌, ◌<ℤ◌}
use Rattle.std.proofs.lemmas.Int.{ints}
use Rattle.asn_base.specs.Types.{Range}
use Rattle.asn_base.specs.Typed.{IsInRange, IsInSome}
use Rattle.asn_base.specs.Schemas.{IsSize}
use Rattle.trees.specs.Values.{Name}
use Rattle.trees.specs.Constraints.{EndTree, RangeTree, between}
use Rattle.type_table.specs.Table.{WrittenKind}
use Rattle.resolve.specs.Program.{Program}
use Rattle.range_ends.specs.Ranges.{IsWithinRange, IsWithinOne, IsEnd, IsRange, AreRanges, IsReversed}
use Rattle.range_ends.specs.Answers.{IsOf, IsRangeOf, AreRangesOf}
use Rattle.range_ends.specs.declared.written_ranges.Counted.{Counted}
use Rattle.range_ends.specs.declared.written_ranges.Counted.TheVariants.{Numbers, Sizes}
use Rattle.range_ends.specs.proving.Bounds.{IsBoundOf, floor_of}

pub size_from : (z : ℤ) → pos 0 ≤ℤ z → IsSize z
size_from (pos n) h = tt
size_from (negsuc n) h = absurd (omega (arith, ints, h))

pub from_size : (z : ℤ) → IsSize z → pos 0 ≤ℤ z
from_size (pos n) h = omega (arith, ints)
from_size (negsuc n) h = absurd h

-- what is above an end is of the same sort
above : (of : Counted) (l z : ℤ) → IsOf of l → l ≤ℤ z → IsOf of z
above Numbers l z h m = tt
above Sizes l z h m = size_from z (let e = from_size l h in omega (arith, ints, e, m))

module _ (p : Program) (k : WrittenKind) (M : Name) (of : Counted) where
  abbrev pub fine_end : (e : EndTree) (z : ℤ) → IsBoundOf p k M of e z → IsEnd p k M (IsOf of) e
  fine_end e z b = record { number = z; is_so = b.is_so; only_one = b.only_one; such = b.such }

  pub reversed_of : (a b : EndTree) (l g : ℤ) →
      IsBoundOf p k M of a l →
      IsBoundOf p k M of b g →
      g <ℤ l →
      IsReversed p k M (IsOf of) (between (Some a) (Some b))
  reversed_of a b l g u v h = record {
    lower = a;
    upper = b;
    is = refl;
    least = fine_end a l u;
    greatest = fine_end b g v;
    reversed = h;
  }

  pub between_of : (a b : EndTree) (l g : ℤ) →
      IsBoundOf p k M of a l →
      IsBoundOf p k M of b g →
      l ≤ℤ g →
      IsRangeOf p k M of (between (Some a) (Some b)) (record { least = Some l; greatest = Some g })
  between_of a b l g u v h = record {
    range = (
      fine_end a l u,
      fine_end b g v,
      λ x y s t. (let e = u.only_one x s in let f = v.only_one y t in omega (arith, ints, e, f, h)),
    );
    same = λ z. (
      λ i. (above of l z u.such i.0, ((l, u.is_so, i.0), (g, v.is_so, i.1))),
      λ i. (
        (let e = u.only_one i.1.0.0 i.1.0.1 in omega (arith, ints, e, i.1.0.2)),
        (let f = v.only_one i.1.1.0 i.1.1.1 in omega (arith, ints, f, i.1.1.2)),
      ),
    );
  }

  pub from_of : (a : EndTree) (l : ℤ) →
      IsBoundOf p k M of a l →
      IsRangeOf p k M of (between (Some a) None) (record { least = Some l; greatest = None })
  from_of a l u = record {
    range = (fine_end a l u, tt, tt);
    same = λ z. (
      λ i. (above of l z u.such i.0, ((l, u.is_so, i.0), tt)),
      λ i. ((let e = u.only_one i.1.0.0 i.1.0.1 in omega (arith, ints, e, i.1.0.2)), tt),
    );
  }

  under_floor : (z : ℤ) (o : Option ℤ) (f : Option ℤ) → f ≡ floor_of of →
      (IsInRange z (record { least = f; greatest = o }) ↔ (IsOf of z × IsInRange z (record { least = None; greatest = o })))
  under_floor z o f e = subst (λ q. IsInRange z (record { least = q; greatest = o }) ↔ (IsOf of z × IsInRange z (record { least = None; greatest = o }))) (sym e) (go of z)
    where
      go : (of : Counted) (z : ℤ) →
          (IsInRange z (record { least = floor_of of; greatest = o }) ↔ (IsOf of z × IsInRange z (record { least = None; greatest = o })))
      go Numbers z = (λ i. (tt, (tt, i.1)), λ i. (tt, i.1.1))
      go Sizes z = (λ i. (size_from z i.0, (tt, i.1)), λ i. (from_size z i.0, i.1.1))

  pub up_to_of : (b : EndTree) (g : ℤ) (f : Option ℤ) →
      f ≡ floor_of of →
      IsBoundOf p k M of b g →
      IsRangeOf p k M of (between None (Some b)) (record { least = f; greatest = Some g })
  up_to_of b g f e v = record {
    range = (tt, fine_end b g v, tt);
    same = λ z. (
      λ i. (let j = (under_floor z (Some g) f e).0 i in (j.0, (tt, (g, v.is_so, j.1.1)))),
      λ i. (under_floor z (Some g) f e).1
          (i.0, (tt, (let q = v.only_one i.1.1.0 i.1.1.1 in omega (arith, ints, q, i.1.1.2)))),
    );
  }

  -- ---- many ranges

  all_push : (rs : List RangeTree) (r : RangeTree) → AreRanges p k M (IsOf of) rs → IsRange p k M (IsOf of) r → AreRanges p k M (IsOf of) (rs ++ r ∷ [])
  all_push [] r a b = (b, tt)
  all_push (x ∷ rs) r a b = (a.0, all_push rs r a.1 b)

  within_or : (r x : RangeTree) (rs : List RangeTree) (z : ℤ) →
      IsWithinOne p k M rs z ⊎ IsWithinRange p k M r z →
      IsWithinOne p k M (x ∷ rs) z ⊎ IsWithinRange p k M r z
  within_or r x rs z (inl i) = inl (inr i)
  within_or r x rs z (inr i) = inr i

  pub within_left : (rs : List RangeTree) (r : RangeTree) (z : ℤ) → IsWithinOne p k M rs z → IsWithinOne p k M (rs ++ r ∷ []) z
  within_left [] r z i = absurd i
  within_left (x ∷ rs) r z (inl i) = inl i
  within_left (x ∷ rs) r z (inr i) = inr (within_left rs r z i)

  pub within_right : (rs : List RangeTree) (r : RangeTree) (z : ℤ) → IsWithinRange p k M r z → IsWithinOne p k M (rs ++ r ∷ []) z
  within_right [] r z i = inl i
  within_right (x ∷ rs) r z i = inr (within_right rs r z i)

  pub within_either : (rs : List RangeTree) (r : RangeTree) (z : ℤ) →
      IsWithinOne p k M (rs ++ r ∷ []) z →
      IsWithinOne p k M rs z ⊎ IsWithinRange p k M r z
  within_either [] r z (inl i) = inr i
  within_either [] r z (inr i) = absurd i
  within_either (x ∷ rs) r z (inl i) = inl (inl i)
  within_either (x ∷ rs) r z (inr i) = within_or r x rs z (within_either rs r z i)

in_or : (s x : Range) (ss : List Range) (z : ℤ) → IsInSome z ss ⊎ IsInRange z s → IsInSome z (x ∷ ss) ⊎ IsInRange z s
in_or s x ss z (inl i) = inl (inr i)
in_or s x ss z (inr i) = inr i

in_left : (ss : List Range) (s : Range) (z : ℤ) → IsInSome z ss → IsInSome z (ss ++ s ∷ [])
in_left [] s z i = absurd i
in_left (x ∷ ss) s z (inl i) = inl i
in_left (x ∷ ss) s z (inr i) = inr (in_left ss s z i)

in_right : (ss : List Range) (s : Range) (z : ℤ) → IsInRange z s → IsInSome z (ss ++ s ∷ [])
in_right [] s z i = inl i
in_right (x ∷ ss) s z i = inr (in_right ss s z i)

in_either : (ss : List Range) (s : Range) (z : ℤ) → IsInSome z (ss ++ s ∷ []) → IsInSome z ss ⊎ IsInRange z s
in_either [] s z (inl i) = inr i
in_either [] s z (inr i) = absurd i
in_either (x ∷ ss) s z (inl i) = inl (inl i)
in_either (x ∷ ss) s z (inr i) = in_or s x ss z (in_either ss s z i)

-- one range more
pub more_of : (p : Program) (k : WrittenKind) (M : Name) (of : Counted) (rs : List RangeTree) (ss : List Range) (r : RangeTree) (s : Range) →
    AreRangesOf p k M of rs ss →
    IsRangeOf p k M of r s →
    AreRangesOf p k M of (rs ++ r ∷ []) (ss ++ s ∷ [])
more_of p k M of rs ss r s a b = record {
  ranges = all_push p k M of rs r a.ranges b.range;
  same = λ z. (λ i. forth z (in_either ss s z i), λ i. back z i.0 (within_either p k M of rs r z i.1));
}
  where
    forth : (z : ℤ) → IsInSome z ss ⊎ IsInRange z s → IsOf of z × IsWithinOne p k M (rs ++ r ∷ []) z
    forth z (inl i) = let j = (a.same z).0 i in (j.0, within_left p k M of rs r z j.1)
    forth z (inr i) = let j = (b.same z).0 i in (j.0, within_right p k M of rs r z j.1)

    back : (z : ℤ) → IsOf of z → IsWithinOne p k M rs z ⊎ IsWithinRange p k M r z → IsInSome z (ss ++ s ∷ [])
    back z o (inl i) = in_left ss s z ((a.same z).1 (o, i))
    back z o (inr i) = in_right ss s z ((b.same z).1 (o, i))

pub none_of : (p : Program) (k : WrittenKind) (M : Name) (of : Counted) → AreRangesOf p k M of [] []
none_of p k M of = record { ranges = tt; same = λ z. (λ i. absurd i, λ i. absurd i.1) }
