use Rattle.std.proofs.Common.{◌≤◌, length, sym, subst, arith}
use Rattle.std.proofs.lemmas.Option.{slice_get-get_or}
use Rattle.tagging.specs.proving.Lists.{IsIn}
use Rattle.tagging.proofs.Clashes.{not_in, none_next, none_end}
use Rattle.tagging.proofs.lists.met.Goals as goal

pub loop-tag-preserved : goal.loop-tag-preserved
loop-tag-preserved c =
    none_next c.args.tags.now c.loop-tag.tag-index _ c.args.seen.now.keys (slice_get-get_or c.args.tags.now c.loop-tag.tag-index _ c.loop-tag-test.true) c.loop-tag.invariant
    (λ h. not_in c.args.seen.now.keys c.key-at.result (sym c.if-contains.ensures) (subst (IsIn c.args.seen.now.keys) (sym c.key-at.ensures) h))

pub returns : goal.returns
returns c =
    let all : length c.args.tags.now ≤ c.loop-tag.tag-index = omega (arith, c.loop-tag-test.false) in
    none_end c.args.tags.now c.loop-tag.tag-index c.args.seen.now.keys all c.loop-tag.invariant
