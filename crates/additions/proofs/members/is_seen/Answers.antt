use Rattle.std.proofs.Common.{arith, map, refl, sym, ◌∙◌}
use Rattle.type_table.specs.Seen.{part_of}
use Rattle.additions.proofs.Placing.{part_at, seen_here, unseen_more}
use Rattle.additions.proofs.members.is_seen.Goals as goal

pub returns-then-is_of_group : goal.returns-then-is_of_group
returns-then-is_of_group c =
    let n = c.loop-place.place in
    let b = c.index-components-place.result in
    let e = part_at c.args.components.now n b (omega (arith, c.loop-place-test.true, c.requires)) c.index-components-place.is in
    (λ t. seen_here (map part_of c.args.components.now) c.args.before n c.args.group (part_of b) c.loop-place-test.true e (c.is_of_group.ensures.0 c.if-is_of_group.true), λ s. refl)

pub loop-place-preserved : goal.loop-place-preserved
loop-place-preserved c =
    let n = c.loop-place.place in
    let b = c.index-components-place.result in
    let e = part_at c.args.components.now n b (omega (arith, c.loop-place-test.true, c.requires)) c.index-components-place.is in
    unseen_more (map part_of c.args.components.now) n c.args.group (part_of b) e (λ h. let x = sym c.if-is_of_group.false ∙ c.is_of_group.ensures.1 h in absurd cc) c.loop-place.invariant
