use Rattle.std.proofs.Common.{arith, ◌≡◌, ◌+◌, suc, subst}
use Rattle.asn_base.specs.Seen.{types_of}
use Rattle.codec_code.specs.ByLeaves.{AreMarksOf, AreNextMarks}
use Rattle.codec_code.proofs.ByLeaves.{marks_done, marks_on}
use Rattle.codec_code.proofs.by_leaves.all_marks.Goals as goal

pub returns-then-same : goal.returns-then-same
returns-then-same c =
    let s = types_of c.args.types.now in
    let n = c.loop-levels.levels in
    let marks = c.in_ok-next.next.items in
    let next = marks_on s n c.loop-levels.marks.items marks c.loop-levels.invariant (subst (λ q. AreNextMarks s q marks) c.as_slice.ensures.value c.in_ok-next.ensures) in
    marks_done s (suc n) marks (let l = c.loop-levels-test.true in omega arith) next

pub loop-levels-preserved : goal.loop-levels-preserved
loop-levels-preserved c =
    let s = types_of c.args.types.now in
    let n = c.loop-levels.levels in
    let marks = c.in_ok-next.next.items in
    let next = marks_on s n c.loop-levels.marks.items marks c.loop-levels.invariant (subst (λ q. AreNextMarks s q marks) c.as_slice.ensures.value c.in_ok-next.ensures) in
    subst (λ q. AreMarksOf s q marks) (let e : suc n ≡ n + 1 = omega arith in e) next
