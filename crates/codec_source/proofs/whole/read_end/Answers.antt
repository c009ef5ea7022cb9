use Rattle.std.proofs.Common.{arith}
use Rattle.codec_source.specs.Events.{closes, ends}
use Rattle.codec_source.proofs.Wholes.{closed_and_ended, never_closed, closed_never_ended, stops_past_end, stops_unclosed, stops_unended}
use Rattle.codec_source.proofs.whole.read_end.Goals as goal

pub returns-in-Ok-end-clause-ok : goal.returns-in-Ok-end-clause-ok
returns-in-Ok-end-clause-ok g c = λ r fs. closed_and_ended r g.S.Source.takes g.met.S.Source.lemma_one_answer fs c.args.source.now c.close.new.self c.end.new.self c.in-Ok.ensures.ok c.in-Ok-end.ensures.ok

pub returns-in-Ok-end-clause-budget : goal.returns-in-Ok-end-clause-budget
returns-in-Ok-end-clause-budget g c =
    let d = g.met.S.Source.keeps c.args.source.now c.close.new.self closes c.in-Ok.ensures.ok in
    let e = g.met.S.Source.keeps c.close.new.self c.end.new.self ends c.in-Ok-end.ensures.ok in
    omega (arith, d, e)

pub returns-in-Ok-end-clause-on : goal.returns-in-Ok-end-clause-on
returns-in-Ok-end-clause-on g c = λ r fs e z s. stops_past_end r g.S.Source.takes (λ a q b. g.S.Source.refuses a q b e) fs c.args.source.now c.close.new.self c.end.new.self z c.in-Ok.ensures.ok c.in-Ok-end.ensures.ok s

pub returns-in-Err-clause-err : goal.returns-in-Err-clause-err
returns-in-Err-clause-err g c = λ other r fs. never_closed r g.S.Source.takes g.met.S.Source.lemma_one_answer fs c.args.source.now (c.in-Err.ensures.err other)

pub returns-in-Err-clause-stopped : goal.returns-in-Err-clause-stopped
returns-in-Err-clause-stopped g c = λ other r fs. stops_unclosed r g.S.Source.takes (λ a q b. g.S.Source.refuses a q b c.in-Err.fault) fs c.args.source.now c.close.new.self (c.in-Err.ensures.err other) (c.in-Err.ensures.left other)

pub returns-in-Err-end-clause-err : goal.returns-in-Err-end-clause-err
returns-in-Err-end-clause-err g c = λ other r fs. closed_never_ended r g.S.Source.takes g.met.S.Source.lemma_one_answer fs c.args.source.now c.close.new.self c.in-Ok.ensures.ok (c.in-Err-end.ensures.err other)

pub returns-in-Err-end-clause-stopped : goal.returns-in-Err-end-clause-stopped
returns-in-Err-end-clause-stopped g c = λ other r fs. stops_unended r g.S.Source.takes (λ a q b. g.S.Source.refuses a q b c.in-Err-end.fault) fs c.args.source.now c.close.new.self c.end.new.self c.in-Ok.ensures.ok (c.in-Err-end.ensures.err other) (c.in-Err-end.ensures.left other)
