use Rattle.std.proofs.Common.{drop, ap, ◌∙◌}
use Rattle.ber_source.specs.Seen.{state_of}
use Rattle.ber_source.proofs.Skipping.{left_among, left_again, left_unread}
use Rattle.ber_source.proofs.asking.next_in_set.Goals as goal

pub returns-in-Err-clause-left : goal.returns-in-Err-clause-left
returns-in-Err-clause-left g c = λ other.
    left_among (state_of g.T.TokenSink.tokens c.args.place.now) (state_of g.T.TokenSink.tokens c.pass.new.place) c.args.steps.now c.is_extensible.result c.in-Err.fault c.is_extensible.ensures (c.in-Err.ensures.left other)

pub returns-then-is_in-clause-left : goal.returns-then-is_in-clause-left
returns-then-is_in-clause-left g c = λ other.
    left_again (state_of g.T.TokenSink.tokens c.args.place.now) (state_of g.T.TokenSink.tokens c.pass.new.place) c.args.steps.now c.is_extensible.result c.in-Ok.found c.in-Some.field c.marks_from.result.now c.is_in.result
    c.is_extensible.ensures c.in-Some.is c.in-Ok.ensures.ok (c.marks_from.ensures ∙ ap (drop c.pass.new.place.here.from) c.as_slice.ensures.value) c.if-is_in.true c.is_in.ensures

pub returns-then-not-are_read-clause-left : goal.returns-then-not-are_read-clause-left
returns-then-not-are_read-clause-left g c = λ other.
    left_unread (state_of g.T.TokenSink.tokens c.args.place.now) (state_of g.T.TokenSink.tokens c.pass.new.place) c.args.steps.now c.is_extensible.result c.in-Ok.found c.marks_from-in-None.result.now c.are_read.result
    c.is_extensible.ensures c.in-None.is c.in-Ok.ensures.ok (c.marks_from-in-None.ensures ∙ ap (drop c.pass.new.place.here.from) c.as_slice-in-None.ensures.value) c.if-not-are_read.true c.are_read.ensures
