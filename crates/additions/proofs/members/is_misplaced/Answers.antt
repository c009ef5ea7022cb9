use Rattle.std.proofs.Common.{map, sym, subst, ◌∙◌, ◌≡◌, false}
use Rattle.type_table.specs.Seen.{part_of}
use Rattle.tagging.specs.First.{is_added_member}
use Rattle.additions.specs.Additions.{IsAdded, unmarked}
use Rattle.additions.proofs.Placing.{part_at, same_part, not_both, placed_root, placed_added, misplaced_root, are_together}
use Rattle.additions.proofs.members.is_misplaced.Goals as goal

pub returns-then-not-is_addition-clause-misplaced : goal.returns-then-not-is_addition-clause-misplaced
returns-then-not-is_addition-clause-misplaced c = λ t.
    let a = c.index-components-at.result in
    let e = part_at c.args.components.now c.args.at a c.requires.there c.index-components-at.is in
    let r = sym c.is_addition.ensures ∙ c.if-not-is_addition.true in
    misplaced_root c.args.marker (map part_of c.args.components.now) c.args.at (part_of a) e r (c.follows_addition.ensures.0 t)

pub returns-then-not-is_addition-clause-placed : goal.returns-then-not-is_addition-clause-placed
returns-then-not-is_addition-clause-placed c = λ f x q.
    let a = c.index-components-at.result in
    let s = same_part c.args.components.now c.args.at a x c.requires.there c.index-components-at.is q in
    let r = sym c.is_addition.ensures ∙ c.if-not-is_addition.true in
    placed_root c.args.marker (map part_of c.args.components.now) c.args.at x q (subst (λ z. is_added_member z.standing ≡ false) s r) (λ h. not_both c.follows_addition.result (c.follows_addition.ensures.1 h) f) c.requires.before

pub returns-then-not-marker-clause-misplaced : goal.returns-then-not-marker-clause-misplaced
returns-then-not-marker-clause-misplaced c = λ t.
    let a = c.index-components-at.result in
    let e = part_at c.args.components.now c.args.at a c.requires.there c.index-components-at.is in
    unmarked (part_of a) e (sym c.is_addition.ensures ∙ c.if-not-is_addition.false) c.if-not-marker.true

pub is_parted-requires-clause-before : goal.is_parted-requires-clause-before
is_parted-requires-clause-before c = are_together c.args.marker (map part_of c.args.components.now) c.args.at c.requires.before

pub returns-clause-placed : goal.returns-clause-placed
returns-clause-placed c = λ f x q.
    let a = c.index-components-at.result in
    let s = same_part c.args.components.now c.args.at a x c.requires.there c.index-components-at.is q in
    let r = sym c.is_addition.ensures ∙ c.if-not-is_addition.false in
    placed_added c.args.marker (map part_of c.args.components.now) c.args.at x c.if-not-marker.false (subst IsAdded s r) (c.is_parted.ensures.together f x q)
