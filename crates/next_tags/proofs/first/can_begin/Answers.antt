use Rattle.std.proofs.Common.{sym, subst}
use Rattle.codec_code.specs.Routines.{routine_at}
use Rattle.next_tags.specs.Firsts.{BeginsWith}
use Rattle.next_tags.proofs.Firsts.{begun_first, first_begun, headed}
use Rattle.next_tags.proofs.first.can_begin.Goals as goal

pub returns-in-Some : goal.returns-in-Some
returns-in-Some c =
    let s = c.args.code.now in
    let g = c.args.tag in
    let e = headed s (routine_at s c.args.id.index) g c.in-Some.first c.in-Some.ensures in (
      λ t. begun_first s c.args.id.index g (e.1 (c.same_tag.ensures.0 t)),
      λ f. c.same_tag.ensures.1 (e.0 (first_begun s c.args.id.index g c.lemma_invariant.ensures f)),
    )

pub returns-in-None : goal.returns-in-None
returns-in-None c =
    let s = c.args.code.now in
    let g = c.args.tag in (
      λ t. begun_first s c.args.id.index g (subst (BeginsWith s g) c.steps.ensures (c.begins_with.ensures.0 t)),
      λ f. c.begins_with.ensures.1 (subst (BeginsWith s g) (sym c.steps.ensures) (first_begun s c.args.id.index g c.lemma_invariant.ensures f)),
    )
