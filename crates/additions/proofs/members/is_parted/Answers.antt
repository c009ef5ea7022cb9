use Rattle.std.proofs.Common.{arith, rules, map, sym, subst, ◌<◌, length, ◌-◌}
use Rattle.type_table.specs.Seen.{part_of}
use Rattle.additions.specs.Additions.{IsInGroup}
use Rattle.additions.proofs.Placing.{part_at, same_part, not_both, together_same, together_none, together_unseen, parted}
use Rattle.additions.proofs.members.is_parted.Goals as goal

pub returns-then-is_of_group-clause-together : goal.returns-then-is_of_group-clause-together
returns-then-is_of_group-clause-together c = λ f x q.
    let z : 0 < c.args.at = (let n = c.if-at-eq0.false in search rules) in
    together_same c.args.components.now c.args.at c.in-Some.group c.index-components-at.result c.index-components-at-in-Some.result z c.requires.there c.index-components-at.is c.index-components-at-in-Some.is c.in-Some.ensures (c.is_of_group.ensures.0 c.if-is_of_group.true) c.requires.before x q

pub returns-in-None-clause-together : goal.returns-in-None-clause-together
returns-in-None-clause-together c = λ f x q.
    let s = same_part c.args.components.now c.args.at c.index-components-at.result x c.requires.there c.index-components-at.is q in
    together_none (map part_of c.args.components.now) c.args.at x (λ g h. c.in-None.ensures g (subst (IsInGroup g) (sym s) h))

pub returns-else-is_of_group-clause-parted : goal.returns-else-is_of_group-clause-parted
returns-else-is_of_group-clause-parted c = λ t.
    let z : 0 < c.args.at = (let n = c.if-at-eq0.false in search rules) in
    let cs = c.args.components.now in
    let n = c.args.at in
    let a = c.index-components-at.result in
    let b = c.index-components-at-in-Some.result in
    let e = part_at cs n a c.requires.there c.index-components-at.is in
    let l : n < length cs = c.requires.there in
    let f = part_at cs (n - 1) b (omega (arith, z, l)) c.index-components-at-in-Some.is in
    parted (map part_of cs) n c.in-Some.group (part_of a) (part_of b) z e f c.in-Some.ensures (λ h. not_both c.is_of_group.result (c.is_of_group.ensures.1 h) c.if-is_of_group.false) (c.is_seen.ensures.0 t)

pub returns-else-is_of_group-clause-together : goal.returns-else-is_of_group-clause-together
returns-else-is_of_group-clause-together c = λ f x q.
    let s = same_part c.args.components.now c.args.at c.index-components-at.result x c.requires.there c.index-components-at.is q in
    together_unseen (map part_of c.args.components.now) c.args.at c.in-Some.group x (subst (IsInGroup c.in-Some.group) s c.in-Some.ensures) (λ h. not_both c.is_seen.result (c.is_seen.ensures.1 h) f)
