use Rattle.std.proofs.Common.{arith}
use Rattle.codec_source.specs.Events.{opens, holds, closes, ends}
use Rattle.codec_source.proofs.Wholes.{at_once, none_opened, none_held, none_closed, none_left, stops_after, stops_at_header, stops_at_contents, stops_at_close, stops_at_end}
use Rattle.codec_source.proofs.whole.read_whole.Goals as goal

pub returns-in-Ok-end-clause-ok : goal.returns-in-Ok-end-clause-ok
returns-in-Ok-end-clause-ok g c = λ r fs. at_once r g.S.Source.takes g.met.S.Source.lemma_one_answer c.args.head c.args.kind fs c.args.source.now c.open.new.self c.leaf.new.self c.close.new.self c.end.new.self c.in-Ok.ensures.ok c.in-Ok-leaf.ensures.ok c.in-Ok-close.ensures.ok c.in-Ok-end.ensures.ok

pub returns-in-Ok-end-clause-budget : goal.returns-in-Ok-end-clause-budget
returns-in-Ok-end-clause-budget g c =
    let a = g.met.S.Source.keeps c.args.source.now c.open.new.self (opens c.args.head) c.in-Ok.ensures.ok in
    let b = g.met.S.Source.keeps c.open.new.self c.leaf.new.self (holds c.args.kind) c.in-Ok-leaf.ensures.ok in
    let d = g.met.S.Source.keeps c.leaf.new.self c.close.new.self closes c.in-Ok-close.ensures.ok in
    let e = g.met.S.Source.keeps c.close.new.self c.end.new.self ends c.in-Ok-end.ensures.ok in
    omega (arith, a, b, d, e)

pub returns-in-Ok-end-clause-on : goal.returns-in-Ok-end-clause-on
returns-in-Ok-end-clause-on g c = λ r fs e z s. stops_after r g.S.Source.takes (λ a q b. g.S.Source.refuses a q b e) c.args.head c.args.kind fs c.args.source.now c.open.new.self c.leaf.new.self c.close.new.self c.end.new.self z c.in-Ok.ensures.ok c.in-Ok-leaf.ensures.ok c.in-Ok-close.ensures.ok c.in-Ok-end.ensures.ok s

pub returns-in-Err-clause-err : goal.returns-in-Err-clause-err
returns-in-Err-clause-err g c = λ other r fs. none_opened r g.S.Source.takes g.met.S.Source.lemma_one_answer c.args.head c.args.kind fs c.args.source.now (c.in-Err.ensures.err other)

pub returns-in-Err-clause-stopped : goal.returns-in-Err-clause-stopped
returns-in-Err-clause-stopped g c = λ other r fs. stops_at_header r g.S.Source.takes (λ a q b. g.S.Source.refuses a q b c.in-Err.fault) c.args.head c.args.kind fs c.args.source.now c.open.new.self (c.in-Err.ensures.err other) (c.in-Err.ensures.left other)

pub returns-in-Err-leaf-clause-err : goal.returns-in-Err-leaf-clause-err
returns-in-Err-leaf-clause-err g c = λ other r fs. none_held r g.S.Source.takes g.met.S.Source.lemma_one_answer c.args.head c.args.kind fs c.args.source.now c.open.new.self c.in-Ok.ensures.ok (c.in-Err-leaf.ensures.err other)

pub returns-in-Err-leaf-clause-stopped : goal.returns-in-Err-leaf-clause-stopped
returns-in-Err-leaf-clause-stopped g c = λ other r fs. stops_at_contents r g.S.Source.takes (λ a q b. g.S.Source.refuses a q b c.in-Err-leaf.fault) c.args.head c.args.kind fs c.args.source.now c.open.new.self c.leaf.new.self c.in-Ok.ensures.ok (c.in-Err-leaf.ensures.err other) (c.in-Err-leaf.ensures.left other)

pub returns-in-Err-close-clause-err : goal.returns-in-Err-close-clause-err
returns-in-Err-close-clause-err g c = λ other r fs. none_closed r g.S.Source.takes g.met.S.Source.lemma_one_answer c.args.head c.args.kind fs c.args.source.now c.open.new.self c.leaf.new.self c.in-Ok.ensures.ok c.in-Ok-leaf.ensures.ok (c.in-Err-close.ensures.err other)

pub returns-in-Err-close-clause-stopped : goal.returns-in-Err-close-clause-stopped
returns-in-Err-close-clause-stopped g c = λ other r fs. stops_at_close r g.S.Source.takes (λ a q b. g.S.Source.refuses a q b c.in-Err-close.fault) c.args.head c.args.kind fs c.args.source.now c.open.new.self c.leaf.new.self c.close.new.self c.in-Ok.ensures.ok c.in-Ok-leaf.ensures.ok (c.in-Err-close.ensures.err other) (c.in-Err-close.ensures.left other)

pub returns-in-Err-end-clause-err : goal.returns-in-Err-end-clause-err
returns-in-Err-end-clause-err g c = λ other r fs. none_left r g.S.Source.takes g.met.S.Source.lemma_one_answer c.args.head c.args.kind fs c.args.source.now c.open.new.self c.leaf.new.self c.close.new.self c.in-Ok.ensures.ok c.in-Ok-leaf.ensures.ok c.in-Ok-close.ensures.ok (c.in-Err-end.ensures.err other)

pub returns-in-Err-end-clause-stopped : goal.returns-in-Err-end-clause-stopped
returns-in-Err-end-clause-stopped g c = λ other r fs. stops_at_end r g.S.Source.takes (λ a q b. g.S.Source.refuses a q b c.in-Err-end.fault) c.args.head c.args.kind fs c.args.source.now c.open.new.self c.leaf.new.self c.close.new.self c.end.new.self c.in-Ok.ensures.ok c.in-Ok-leaf.ensures.ok c.in-Ok-close.ensures.ok (c.in-Err-end.ensures.err other) (c.in-Err-end.ensures.left other)
