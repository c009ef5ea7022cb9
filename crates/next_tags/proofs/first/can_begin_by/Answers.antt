use Rattle.std.proofs.Common.{◌∷◌, ap, sym, subst, ◌∙◌}
use Rattle.next_tags.specs.Firsts.{BeginsWith}
use Rattle.next_tags.proofs.Firsts.{begun_first}
use Rattle.next_tags.proofs.first.can_begin_by.Goals as goal

pub returns-in-Some-Pick-default : goal.returns-in-Some-Pick-default
returns-in-Some-Pick-default c =
    let s = c.args.code.now in
    let g = c.args.tag in
    let e = sym c.steps.ensures ∙ c.in-Some-Pick-default.ensures.cases.0 ∙ ap (λ q. q ∷ c.in-Some-Pick-default.calls.now) c.in-Some-Pick-default.field-0-0-is in
    λ t. begun_first s c.args.id.index g (subst (BeginsWith s g) (sym e) (c.begins_at.ensures t))
