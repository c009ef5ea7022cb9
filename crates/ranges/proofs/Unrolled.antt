-- The ranges of a tree, by those of its parts.
use Rattle.std.proofs.Common.{◌≡◌, ap, ◌∙◌, refl, sym}
use Rattle.std.specs.Prelude.{◌++◌, ◌∷◌, List, Option, Some, None}
use Rattle.std.specs.Global.{Global}
use Rattle.std.specs.declared.rc.Rc.{Rc}
use Rattle.asn_base.specs.Types.{Range}
use Rattle.asn_base.specs.declared.range_node.Node.{Node, out-Node}
use Rattle.asn_base.specs.declared.range_node.Node.TheShapes.{former-Node-before}
use Rattle.asn_base.specs.declared.range_node.Node.TheFolds.{fold_out-Node}
use Rattle.asn_base.specs.Trees.{level, part, in_order, ranges_in}

held : (b : Option (Rc Node Global)) → part (λ r. r.value) (former-Node-before.map Node (List Range) in_order b) ≡ ranges_in b
held None = refl
held (Some r) = refl

pub unrolled : (n : Node)
    → in_order n ≡ ranges_in (out-Node n).before ++ ((out-Node n).range ∷ ranges_in (out-Node n).after)
unrolled n =
    fold_out-Node (List Range) level n
    ∙ rw (held (out-Node n).before, held (out-Node n).after) refl

-- a part that is there has the ranges of its tree
pub there : (l : Option (Rc Node Global)) (r : Rc Node Global) (m : Node)
    → l ≡ Some r
    → m ≡ r.value
    → ranges_in l ≡ in_order m
there l r m e f = ap ranges_in e ∙ ap in_order (sym f)

abbrev pub least_of : Node → List Range
least_of n = ranges_in (out-Node n).before

abbrev pub greatest_of : Node → List Range
greatest_of n = ranges_in (out-Node n).after

abbrev pub top : Node → Range
top n = (out-Node n).range
