use Rattle.std.proofs.Common.{arith}
use Rattle.octets.specs.Forms.{is_constructed}
use Rattle.next_tags.proofs.Shorts.{short_at}
use Rattle.next_tags.proofs.encoding.short_unit.Goals as goal

pub returns : goal.returns
returns c =
    short_at c.args.tag (is_constructed c.args.form) c.in-Some.first.now c.in-Some-split_first.size.now c.in-Some-split_first.inner.now c.split_at.result.0.now c.split_at.result.1.now c.args.octets.now c.in-Some.following.now
    (c.is_identifier.ensures c.if-not-is_identifier.false) c.in-Some.ensures.cases.0 c.in-Some-split_first.ensures.cases.0 c.split_at.ensures.by_index.0 c.split_at.ensures.front_len
    (let l = c.if-count-ge128.false in omega (arith, l))
