use Rattle.std.proofs.Common.{◌<◌, ◌+◌, length, arith, get_or, rules}
use Rattle.range_ends.proofs.Doubling.{far_at, far_inside, far_twice, far_more}
use Rattle.range_ends.proofs.far.twice.Goals as goal

pub offset_bounds-far-middle : goal.offset_bounds-far-middle
offset_bounds-far-middle c =
    let os = c.args.target.now in
    let cs = c.args.far.now in
    let i = c.loop-at.at in
    let l : i < length cs = omega (arith, c.loop-at-test.true, c.loop-at.auto.at-end) in
    let u = far_inside os c.args.steps i (get_or cs i 0) c.requires.within (omega (arith, l, c.requires.far.all))
    (far_at os c.args.steps cs i c.requires.far l) in
    let b : get_or cs i 0 < length cs = omega (arith, u, c.requires.far.all) in
    search rules

pub bounds-far-middle : goal.bounds-far-middle
bounds-far-middle c =
    let os = c.args.target.now in
    let cs = c.args.far.now in
    let i = c.loop-at.at in
    let l : i < length cs = omega (arith, c.loop-at-test.true, c.loop-at.auto.at-end) in
    let u = far_inside os c.args.steps i (get_or cs i 0) c.requires.within (omega (arith, l, c.requires.far.all))
    (far_at os c.args.steps cs i c.requires.far l) in
    omega (arith, u, c.requires.far.all)

pub loop-at-preserved : goal.loop-at-preserved
loop-at-preserved c =
    let os = c.args.target.now in
    let cs = c.args.far.now in
    let n = c.args.steps in
    let i = c.loop-at.at in
    let l : i < length cs = omega (arith, c.loop-at-test.true, c.loop-at.auto.at-end) in
    let u = far_at os n cs i c.requires.far l in
    let m = far_inside os n i (get_or cs i 0) c.requires.within (omega (arith, l, c.requires.far.all)) u in
    far_more os (n + n) c.loop-at.all.items c.push.new.self.items (get_or cs (get_or cs i 0) 0) i c.loop-at.invariant
    c.in_ok-push.ensures.items
    (far_twice os n i (get_or cs i 0) (get_or cs (get_or cs i 0) 0) u
    (far_at os n cs (get_or cs i 0) c.requires.far (omega (arith, m, c.requires.far.all))))
