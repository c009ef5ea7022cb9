use Rattle.std.proofs.Common.{◌≡◌, set, get_or, subst, sym}
use Rattle.std.proofs.lemmas.Option.{slice_get-get_or}
use Rattle.circles.specs.proving.Reach.{Marks}
use Rattle.circles.proofs.Marking.{marked_now}
use Rattle.circles.proofs.reach.mark.Goals as goal

pub returns : goal.returns
returns c =
    subst (λ w. Marks c.args.search (λ j. j ≡ c.args.ty) c.args.marks.now (set c.args.marks.now c.args.ty c.args.search) c.args.waiting.now.items w) (sym c.in_ok-push.ensures.items)
    (marked_now c.args.search c.args.ty (get_or c.args.marks.now c.args.ty 0) c.args.marks.now c.args.waiting.now.items (slice_get-get_or c.args.marks.now c.args.ty 0 c.requires) c.if-marks-ty.false)
