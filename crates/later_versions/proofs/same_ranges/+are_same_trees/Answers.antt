use Rattle.std.proofs.Common.{◌∙◌, sym}
use Rattle.later_versions.proofs.SameRanges.{same_nodes}
use Rattle.later_versions.proofs.same_ranges.+are_same_trees.Goals as goal

pub returns-else-not-are_same_trees : goal.returns-else-not-are_same_trees
returns-else-not-are_same_trees t c = λ b.
    same_nodes c.args.one.now c.args.other.now c.in-Some-Some.node c.in-Some-Some.second _ _ _ _ _ _
    c.in-Some-Some.is-0 c.in-Some-Some.is-1 c.deref.ensures c.deref-in-Some-Some.ensures c.deref-in-Some-Some-2.ensures
    c.deref-in-Some-Some-3.ensures c.deref-in-Some-Some-4.ensures c.deref-in-Some-Some-5.ensures
    (sym c.range.ensures ∙ c.is_same_range.ensures c.if-not-is_same_range.false ∙ c.range-in-Some-Some.ensures)
    (c.are_same_trees.ensures c.if-not-are_same_trees.false) (c.are_same_trees-in-Some-Some.ensures b)
