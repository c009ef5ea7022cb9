use Rattle.std.proofs.Common.{◌≤◌, length, subst, arith}
use Rattle.std.proofs.lemmas.Option.{slice_get-get_or}
use Rattle.tagging.proofs.Clashes.{PutsOne, put_one, put_next, put_end}
use Rattle.tagging.proofs.lists.put_all.Goals as goal

pub loop-tag-preserved : goal.loop-tag-preserved
loop-tag-preserved c =
    put_next c.args.tags.now c.loop-tag.tag-index _ c.args.seen.now.keys c.loop-tag.seen.keys c.insert.new.self.keys (slice_get-get_or c.args.tags.now c.loop-tag.tag-index _ c.loop-tag-test.true) c.loop-tag.invariant
    (subst (PutsOne c.loop-tag.seen.keys c.insert.new.self.keys) c.key.ensures (put_one c.loop-tag.seen.keys c.insert.new.self.keys c.key.result c.in-Ok.ensures.updates.0))

pub returns : goal.returns
returns c =
    let all : length c.args.tags.now ≤ c.loop-tag.tag-index = omega (arith, c.loop-tag-test.false) in
    put_end c.args.tags.now c.loop-tag.tag-index c.args.seen.now.keys c.loop-tag.seen.keys all c.loop-tag.invariant
