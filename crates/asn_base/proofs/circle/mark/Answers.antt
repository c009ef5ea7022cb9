use Rattle.std.proofs.Common.{◌≡◌, set, get_or, subst, sym}
use Rattle.std.proofs.lemmas.Option.{slice_get-get_or}
use Rattle.asn_base.specs.proving.Reaching.{Marks}
use Rattle.asn_base.proofs.Reaching.{marked_now}
use Rattle.asn_base.proofs.circle.mark.Goals as goal

pub returns : goal.returns
returns c =
    subst (λ w. Marks (λ j. j ≡ c.args.ty) c.args.marks.now (set c.args.marks.now c.args.ty 1) c.args.waiting.now.items w) (sym c.in_ok-push.ensures.items)
    (marked_now c.args.ty (get_or c.args.marks.now c.args.ty 0) c.args.marks.now c.args.waiting.now.items (slice_get-get_or c.args.marks.now c.args.ty 0 c.requires) c.if-marks-ty-eq1.false)
