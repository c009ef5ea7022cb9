use Rattle.std.proofs.Common.{arith, ◌≡◌, ◌+◌, ◌-◌, length, refl}
use Rattle.octets.specs.Forms.{is_constructed}
use Rattle.octet_answers.specs.Unanswered.{contents_too_deep}
use Rattle.ber_source.specs.Seen.{state_of, outer_contents}
use Rattle.ber_source.proofs.ContentsFault.{left_at}
use Rattle.ber_source.proofs.Windows.{as_many}
use Rattle.ber_source.proofs.moves.hold.Goals as goal

pub returns-then-len-gt-MAX_HEADERS-clause-left : goal.returns-then-len-gt-MAX_HEADERS-clause-left
returns-then-len-gt-MAX_HEADERS-clause-left g c = λ other.
    let m = as_many (outer_contents c.args.place.now.outer) in
    contents_too_deep (omega (arith, m, c.len.ensures, c.if-len-gt-MAX_HEADERS.true))

pub returns-in-Err-clause-left : goal.returns-in-Err-clause-left
returns-in-Err-clause-left g c = λ other.
    let a = state_of g.T.TokenSink.tokens c.args.place.now in
    let m = as_many (outer_contents c.args.place.now.outer) in
    let budget = 400 - c.len-budget.result in
    let few : budget + length a.outer ≡ 400 = omega (arith, m, c.len-budget.ensures, c.len.ensures, c.if-len-gt-MAX_HEADERS.false) in
    left_at a (state_of g.T.TokenSink.tokens c.advance.new.place) c.args.kind budget (is_constructed c.args.place.now.here.form) c.in-Err.bad.fault c.in-Err.bad.at few refl (c.in-Err.ensures.why other) c.advance.ensures.at
