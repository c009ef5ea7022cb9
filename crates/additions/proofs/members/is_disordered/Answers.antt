use Rattle.std.proofs.Common.{map, sym, arith, ◌∙◌}
use Rattle.type_table.specs.Seen.{part_of}
use Rattle.tagging.specs.Tags.{label}
use Rattle.additions.proofs.Placing.{part_at, negated, not_negated, not_both, in_order_first, in_order_next, out_of_order}
use Rattle.additions.proofs.members.is_disordered.Goals as goal

pub returns-then-not-follows_addition-clause-ordered : goal.returns-then-not-follows_addition-clause-ordered
returns-then-not-follows_addition-clause-ordered c = λ f x q.
    in_order_first c.args.tagged.now.program.types (map part_of c.args.components.now) c.args.at x c.requires.is q (λ s. not_both c.follows_addition.result (c.follows_addition.ensures.1 s) c.if-not-follows_addition.true)

pub returns-clause-disordered : goal.returns-clause-disordered
returns-clause-disordered c = λ t.
    let a = c.index-components-at.result in
    let e = part_at c.args.components.now c.args.at a c.requires.there c.index-components-at.is in
    let r = sym c.is_addition.ensures ∙ c.if-not-is_addition.false in
    let s = c.follows_addition.ensures.0 c.if-not-follows_addition.false in
    out_of_order c.args.tagged.now.program.types (map part_of c.args.components.now) c.args.at (part_of a) (label c.in_ok-earlier.earlier) (label c.in_ok-later.later) e r s (c.in_ok-earlier.ensures s.member s.there) (c.in_ok-later.ensures (part_of a) e) (λ b. not_both c.comes_before.result (c.comes_before.ensures.1 b) (not_negated c.comes_before.result t))

pub returns-clause-ordered : goal.returns-clause-ordered
returns-clause-ordered c = λ f x q.
    let s = c.follows_addition.ensures.0 c.if-not-follows_addition.false in
    let p = s.positive in
    in_order_next c.args.tagged.now.program.types (map part_of c.args.components.now) c.args.at x s.member (label c.in_ok-earlier.earlier) (label c.in_ok-later.later) c.lemma_tagged_facts.ensures.one_first c.requires.is q (λ w. absurd (omega (arith, w, p))) s.there s.added (c.in_ok-earlier.ensures s.member s.there) (c.in_ok-later.ensures x q) (c.comes_before.ensures.0 (negated c.comes_before.result f))
