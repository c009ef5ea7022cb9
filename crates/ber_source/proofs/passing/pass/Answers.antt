use Rattle.std.proofs.Common.{sym, subst, ◌∙◌}
use Rattle.octet_answers.specs.Found.{Passes}
use Rattle.ber_source.specs.Seen.{state_of}
use Rattle.ber_source.proofs.Windows.{some_of, none_of}
use Rattle.ber_source.proofs.Going.{at_first, one_more, by_first, by_last, blocks_by_first}
use Rattle.ber_source.proofs.passing.pass.Goals as goal

pub loop-found-init : goal.loop-found-init
loop-found-init g c = at_first g.T.TokenSink.suits g.T.TokenSink.tokens c.args.steps.now c.args.extensible c.args.place.now c.requires

pub returns-in-Ok-Some-clause-ok : goal.returns-in-Ok-Some-clause-ok
returns-in-Ok-Some-clause-ok g c =
    let ss = c.args.steps.now in
    let e = c.args.extensible in
    let p = c.args.place.now in
    let q = c.loop-found.place in
    let f = c.in-Ok-Some.found in
    let h = some_of _ _ _ c.in-Ok-Some.field-0-is c.in-Ok-Some.ensures.ended in
    subst (λ z. Passes p.code.now ss e (state_of g.T.TokenSink.tokens p) f z) (sym h.0)
    (c.loop-found.invariant.to f (state_of g.T.TokenSink.tokens q) (by_first g.T.TokenSink.suits g.T.TokenSink.tokens ss e p q (state_of g.T.TokenSink.tokens q) (state_of g.T.TokenSink.tokens q) f c.loop-found.invariant h.1))

pub returns-in-Ok-Some-clause-only : goal.returns-in-Ok-Some-clause-only
returns-in-Ok-Some-clause-only g c d b h =
    let ss = c.args.steps.now in
    let e = c.args.extensible in
    let p = c.args.place.now in
    let q = c.loop-found.place in
    let k = some_of _ _ _ c.in-Ok-Some.field-0-is c.in-Ok-Some.ensures.ended in
    let r = some_of _ _ _ c.in-Ok-Some.field-0-is c.in-Ok-Some.ensures.only d b (by_last g.T.TokenSink.suits g.T.TokenSink.tokens ss e p q (state_of g.T.TokenSink.tokens q) b d c.loop-found.invariant (c.loop-found.invariant.back d b h)) in
    (r.0, r.1 ∙ sym k.0)

pub returns-in-Ok-Some-clause-code : goal.returns-in-Ok-Some-clause-code
returns-in-Ok-Some-clause-code g c = c.in-Ok-Some.ensures.code ∙ c.loop-found.invariant.code

pub loop-found-smaller : goal.loop-found-smaller
loop-found-smaller g c = none_of _ _ c.in-Ok-None.field-0-is c.in-Ok-None.ensures.less

pub loop-found-preserved : goal.loop-found-preserved
loop-found-preserved g c =
    one_more g.T.TokenSink.suits g.T.TokenSink.tokens c.args.steps.now c.args.extensible c.args.place.now c.loop-found.place c.pass_one.new.place c.loop-found.invariant
    c.in-Ok-None.ensures.within c.in-Ok-None.ensures.code (none_of _ _ c.in-Ok-None.field-0-is c.in-Ok-None.ensures.passed)
    (none_of _ _ c.in-Ok-None.field-0-is c.in-Ok-None.ensures.back) (none_of _ _ c.in-Ok-None.field-0-is c.in-Ok-None.ensures.onward)

pub returns-in-Err-clause-err : goal.returns-in-Err-clause-err
returns-in-Err-clause-err g c other f b h =
    let ss = c.args.steps.now in
    let e = c.args.extensible in
    let p = c.args.place.now in
    let q = c.loop-found.place in
    c.in-Err.ensures.err other f b (by_last g.T.TokenSink.suits g.T.TokenSink.tokens ss e p q (state_of g.T.TokenSink.tokens q) b f c.loop-found.invariant (c.loop-found.invariant.back f b h))

pub returns-in-Err-clause-code : goal.returns-in-Err-clause-code
returns-in-Err-clause-code g c = c.in-Err.ensures.code ∙ c.loop-found.invariant.code

pub returns-in-Err-clause-left : goal.returns-in-Err-clause-left
returns-in-Err-clause-left g c = λ other.
    let ss = c.args.steps.now in
    let e = c.args.extensible in
    let p = c.args.place.now in
    let q = c.loop-found.place in
    let b = state_of g.T.TokenSink.tokens c.pass_one.new.place in
    c.loop-found.invariant.onward b c.in-Err.fault
    (blocks_by_first g.T.TokenSink.suits g.T.TokenSink.tokens ss e p q (state_of g.T.TokenSink.tokens q) b c.in-Err.fault c.loop-found.invariant (c.in-Err.ensures.left other))
