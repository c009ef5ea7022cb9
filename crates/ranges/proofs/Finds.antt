-- The least and the greatest number of a tree of ranges that are apart.
use Rattle.std.proofs.Common.{inl, ◌≡◌, ◌∙◌, ap, refl, sym, subst, true, false, arith, ℤ, Some, None}
use Rattle.std.specs.Prelude.{◌↔◌, ◌++◌, [], ◌∷◌, List, Option, Bool}
use Rattle.std.specs.Option.{is_some}
use Rattle.std.specs.Prelude.{not, length}
use Rattle.std.specs.Global.{Global}
use Rattle.std.specs.declared.rc.Rc.{Rc}
use Rattle.std.proofs.lemmas.Int.{ints}
use Rattle.asn_base.specs.Types.{Range}
use Rattle.asn_base.specs.Typed.{IsInRange, IsInSome}
use Rattle.ranges.specs.Numbers.{EndsBefore, AreApart}
use Rattle.asn_base.specs.declared.range_node.Node.{Node}
use Rattle.asn_base.specs.Trees.{in_order, ranges_in}
use Rattle.ranges.proofs.Orders.{some_in, above}
use Rattle.ranges.proofs.Clips.{fewer_before}
use Rattle.ranges.proofs.TreeLists.{apart_right, all_right}
use Rattle.ranges.proofs.Unrolled.{there}
use Rattle.ranges.proofs.Ends.{least_is, greatest_more, some_number}
use Rattle.ranges.proofs.Ends.{greatest_of as bound_of}
use Rattle.asn_base.specs.Schemas.{IsLeast, IsGreatest}
use Rattle.ranges.proofs.Withins.{in_right}

-- ---- the least and the greatest number

pub least_first : (l : Option (Rc Node Global)) (r : Rc Node Global) (n : Node) (x : Range) (xs rs : List Range)
    → l ≡ Some r
    → n ≡ r.value
    → in_order n ≡ x ∷ xs
    → ranges_in l ≡ rs
    → AreApart rs
    → IsLeast (λ z. IsInSome z rs) x.least
least_first l r n x xs rs e f g h a =
    let o : x ∷ xs ≡ rs = sym g ∙ sym (there l r n e f) ∙ h in
    subst (λ ys. IsLeast (λ z. IsInSome z ys) x.least) o (least_is x xs (subst AreApart (sym o) a))

ends_last : (x : Range) (rs : List Range) (r : Range)
    → AreApart (x ∷ (rs ++ (r ∷ [])))
    → EndsBefore x r
ends_last x rs r a = (all_right (EndsBefore x) rs (r ∷ []) a.1).0

last_is : (rs : List Range) (r : Range)
    → AreApart (rs ++ (r ∷ []))
    → IsGreatest (λ z. IsInSome z (rs ++ (r ∷ []))) r.greatest
last_is [] r a = bound_of r.least r.greatest a.0
last_is (x ∷ rs) r a =
    let some = some_in r.least r.greatest (apart_right rs (r ∷ []) a.2).0 in
    greatest_more (λ z. IsInSome z (rs ++ (r ∷ []))) (λ z. IsInRange z x) r.greatest
    (λ y i. (
      some.0,
      (let b = above x.greatest r.least y some.0 (ends_last x rs r a) i.1 some.1 in omega (arith, ints)),
      in_right some.0 rs (r ∷ []) (inl (some.1, some.2)),
    ))
    (last_is rs r a.2)

pub greatest_last : (l : Option (Rc Node Global)) (r : Rc Node Global) (n : Node) (x : Range) (xs rs : List Range)
    → l ≡ Some r
    → n ≡ r.value
    → in_order n ≡ xs ++ (x ∷ [])
    → ranges_in l ≡ rs
    → AreApart rs
    → IsGreatest (λ z. IsInSome z rs) x.greatest
greatest_last l r n x xs rs e f g h a =
    let o : xs ++ (x ∷ []) ≡ rs = sym g ∙ sym (there l r n e f) ∙ h in
    subst (λ ys. IsGreatest (λ z. IsInSome z ys) x.greatest) o (last_is xs x (subst AreApart (sym o) a))

-- a list of ranges is empty exactly if it has no number
pub no_number : (rs : List Range) → AreApart rs → ((z : ℤ) → IsInSome z rs → ⊥) → rs ≡ []
no_number [] a n = refl
no_number (r ∷ rs) a n = absurd (let s = some_number (r ∷ rs) a (omega arith) in n s.0 s.1)

pub empty_means : (l : Option (Rc Node Global)) (b : Bool) (rs : List Range)
    → is_some l ≡ not b
    → ranges_in l ≡ rs
    → AreApart rs
    → (b ≡ true) ↔ ((z : ℤ) → IsInSome z rs → ⊥)
empty_means None true rs s h a = (λ t z i. subst (IsInSome z) (sym h) i, λ n. refl)
empty_means None false rs s h a = absurd (let e : false ≡ true = s in grind arith)
empty_means (Some r) true rs s h a = absurd (let e : true ≡ false = s in grind arith)
empty_means (Some r) false rs s h a = (
  λ t. absurd (let e : false ≡ true = t in grind arith),
  λ n. absurd (let f = fewer_before (Some r) r r.value refl refl in let e = ap length (h ∙ no_number rs a n) in omega (arith, f, e)),
)
