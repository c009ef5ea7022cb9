use Rattle.std.proofs.Common.{◌≡◌, refl}
use Rattle.type_table.specs.Seen.{part_of}
use Rattle.circles.specs.proving.Reach.{HasDefault}
use Rattle.circles.proofs.Marking.{marks_alike}
use Rattle.circles.proofs.reach.mark_default.Goals as goal

pub returns : goal.returns
returns c =
    let d : HasDefault (part_of c.args.component.now) = c.if-not-has_default.ensures.0 refl in
    marks_alike c.args.search (λ j. j ≡ c.args.component.now.ty) (λ j. HasDefault (part_of c.args.component.now) × (j ≡ c.args.component.now.ty)) c.args.marks.now c.mark.new.marks c.args.waiting.now.items c.mark.new.waiting.items c.in_ok-mark.ensures (λ j p. p.1) (λ j q. (d, q))
