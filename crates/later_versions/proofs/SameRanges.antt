-- Constraints that have the same ranges.
use Rattle.std.proofs.Common.{◌≡◌, ap, ◌∙◌, refl, sym, subst, true}
use Rattle.std.specs.Prelude.{◌++◌, ◌∷◌, ◌↔◌, List, Option, Some, None, IfSome, IsTrue, ℤ}
use Rattle.std.specs.Global.{Global}
use Rattle.std.specs.declared.rc.Rc.{Rc}
use Rattle.asn_base.specs.Types.{Range, Constraint}
use Rattle.asn_base.specs.Typed.{IsInSome}
use Rattle.asn_base.specs.Trees.{level, part, in_order, ranges_in}
use Rattle.asn_base.specs.declared.range_node.Node.{Node, out-Node}
use Rattle.asn_base.specs.declared.range_node.Node.TheShapes.{former-Node-before}
use Rattle.asn_base.specs.declared.range_node.Node.TheFolds.{fold_out-Node}
use Rattle.later_versions.specs.Differences.{AllowSame}

held : (b : Option (Rc Node Global)) → part (λ r. r.value) (former-Node-before.map Node (List Range) in_order b) ≡ ranges_in b
held None = refl
held (Some r) = refl

unrolled : (n : Node)
    → in_order n ≡ ranges_in (out-Node n).before ++ ((out-Node n).range ∷ ranges_in (out-Node n).after)
unrolled n =
    fold_out-Node (List Range) level n
    ∙ rw (held (out-Node n).before, held (out-Node n).after) refl

opened : (l : Option (Rc Node Global)) (r : Rc Node Global)
    → l ≡ Some r
    → ranges_in l ≡ ranges_in (out-Node r.value).before
    ++ ((out-Node r.value).range ∷ ranges_in (out-Node r.value).after)
opened l r e = ap ranges_in e ∙ unrolled r.value

-- two nodes with the same range and the same ranges before it and after it
pub same_nodes : (l m : Option (Rc Node Global)) (r s : Rc Node Global) (a b c d e f : Node)
    → l ≡ Some r
    → m ≡ Some s
    → a ≡ r.value
    → b ≡ s.value
    → c ≡ r.value
    → d ≡ s.value
    → e ≡ r.value
    → f ≡ s.value
    → (out-Node a).range ≡ (out-Node b).range
    → ranges_in (out-Node c).before ≡ ranges_in (out-Node d).before
    → ranges_in (out-Node e).after ≡ ranges_in (out-Node f).after
    → ranges_in l ≡ ranges_in m
same_nodes l m r s a b c d e f i j k n o p q t u v w =
    let u' : (out-Node r.value).range ≡ (out-Node s.value).range = rw (k, n) at u in
    let v' : ranges_in (out-Node r.value).before ≡ ranges_in (out-Node s.value).before = rw (o, p) at v in
    let w' : ranges_in (out-Node r.value).after ≡ ranges_in (out-Node s.value).after = rw (q, t) at w in
    rw (opened l r i, opened m s j, u', v', w') refl

-- what has the same ranges allows the same
pub same_kept : (P : ℤ → Type 0) (c d : Constraint) → c.allowed ≡ d.allowed → IsTrue true ↔ AllowSame P c d
same_kept P c d e = (
  λ t z p. (λ i. subst (λ q. IfSome q (IsInSome z)) e i, λ i. subst (λ q. IfSome q (IsInSome z)) (sym e) i),
  λ a. refl,
)
