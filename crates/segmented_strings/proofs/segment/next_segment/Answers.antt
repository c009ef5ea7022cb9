use Rattle.std.proofs.Common.{arith}
use Rattle.octets.specs.Forms.{is_constructed}
use Rattle.segmented_strings.specs.Failing.{no_header, too_deep, other_tag}
use Rattle.segmented_strings.proofs.Units.{unit_of}
use Rattle.segmented_strings.proofs.segment.next_segment.Goals as goal

pub returns-in-Err-clause-err : goal.returns-in-Err-clause-err
returns-in-Err-clause-err c = no_header c.requires c.in-Err.ensures.err

pub returns-then-room-eq0-clause-err : goal.returns-then-room-eq0-clause-err
returns-then-room-eq0-clause-err c = too_deep c.in-Ok.ensures.ok c.if-room-eq0.true

pub returns-then-not-same_tag-clause-err : goal.returns-then-not-same_tag-clause-err
returns-then-not-same_tag-clause-err c = other_tag c.in-Ok.ensures.ok (omega (arith, c.if-room-eq0.false)) (λ e. let h = c.same_tag.ensures.1 e in let f = c.if-not-same_tag.true in cc)

pub returns-clause-ok : goal.returns-clause-ok
returns-clause-ok c = unit_of c.in-Ok.header.tag c.args.tag (is_constructed c.in-Ok.header.form) c.in-Ok.header.contents c.in-Ok.header.octets c.args.octets.now c.split_at.result.0.now c.split_at.result.1.now c.split_at-2.result.0.now c.split_at-2.result.1.now c.in-Ok.ensures.ok (c.same_tag.ensures.0 c.if-not-same_tag.false) c.split_at.ensures.by_index.0 c.split_at.ensures.front_len c.split_at-2.ensures.by_index.0 c.split_at-2.ensures.front_len
