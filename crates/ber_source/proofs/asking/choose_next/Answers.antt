use Rattle.std.proofs.Common.{sym, subst}
use Rattle.octets.specs.Forms.{is_constructed}
use Rattle.codec_source.specs.Events.{which_picked}
use Rattle.ber_source.specs.Seen.{state_of}
use Rattle.octet_answers.specs.Unanswered.{Leaves, no_header_to_pick, no_alternative}
use Rattle.octet_answers.specs.Found.{IsChosen}
use Rattle.ber_source.proofs.asking.choose_next.Goals as goal

pub returns-in-Err-clause-err : goal.returns-in-Err-clause-err
returns-in-Err-clause-err g c other i b d = c.in-Err.ensures.none d.tag d.constructed d.count d.contents d.rest d.unit

pub returns-in-None-clause-err : goal.returns-in-None-clause-err
returns-in-None-clause-err g c other i b d =
    let u = c.lemma_one_unit.ensures.once c.in-Ok.unit.tag d.tag (is_constructed c.in-Ok.unit.form) d.constructed c.in-Ok.unit.count d.count c.in-Ok.unit.contents.now d.contents c.in-Ok.unit.rest.now d.rest c.args.place.now.here.octets.now c.in-Ok.ensures.ok d.unit in
    c.in-None.ensures.none d.index i (subst (λ q. IsChosen c.args.place.now.code.now q c.args.calls.now d.index i) (sym u.0) d.alternative)

pub returns-in-Err-clause-left : goal.returns-in-Err-clause-left
returns-in-Err-clause-left g c = λ other.
    let a = state_of g.T.TokenSink.tokens c.args.place.now in
    subst (λ q. Leaves a (which_picked c.args.calls.now) a q) (sym c.from_header_fault.ensures) (no_header_to_pick c.in-Err.fault c.in-Err.ensures.err)

pub returns-in-None-clause-left : goal.returns-in-None-clause-left
returns-in-None-clause-left g c = λ other. no_alternative c.in-Ok.ensures.ok c.in-None.ensures.none
