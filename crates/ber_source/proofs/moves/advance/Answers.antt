use Rattle.std.proofs.Common.{arith, ◌+◌, List, ℕ, ap, map}
use Rattle.octet_answers.specs.States.{State}
use Rattle.octets.specs.Forms.{is_constructed}
use Rattle.ber_source.specs.Seen.{open_contents_of, outer_contents}
use Rattle.ber_source.proofs.moves.advance.Goals as goal

pub returns-then-count-here-clause-at : goal.returns-then-count-here-clause-at
returns-then-count-here-clause-at g c = λ l.
    let p = c.args.place.now in
    let state : List ℕ → State = λ q. record { schema = p.code.now; here = record { constructed = is_constructed p.here.form; octets = q; at = p.here.at + c.args.count; from = p.here.from }; outer = map open_contents_of (outer_contents p.outer); values = p.values.items; marks = p.marks.items; emitted = g.T.TokenSink.tokens p.emitted; budget = p.budget } in
    ap state c.following.ensures

pub returns-else-count-here-clause-at : goal.returns-else-count-here-clause-at
returns-else-count-here-clause-at g c = λ l. absurd (let t = c.if-count-here.false in omega (arith, t, l))
