use Rattle.std.proofs.Common.{arith, ◌<◌, length, refl, sym, subst}
use Rattle.codec_code.specs.Routines.{routine_at}
use Rattle.codec_source.specs.proving.Wholes.{ReadsInto, no_link}
use Rattle.octet_answers.specs.Answers.{Takes}
use Rattle.ber_source.specs.Seen.{outer_contents, state_of}
use Rattle.ber_source.proofs.Windows.{as_many}
use Rattle.ber_source.proofs.rows.small_rows.Goals as goal

pub returns-then-len-clause-ok : goal.returns-then-len-clause-ok
returns-then-len-clause-ok g c = no_link

pub returns-then-len-2-clause-ok : goal.returns-then-len-2-clause-ok
returns-then-len-2-clause-ok g c = no_link

pub returns-then-not-are_plain-clause-ok : goal.returns-then-not-are_plain-clause-ok
returns-then-not-are_plain-clause-ok g c = no_link

pub returns-in-None-clause-ok : goal.returns-in-None-clause-ok
returns-in-None-clause-ok g c =
    let a = state_of g.T.TokenSink.tokens c.args.place.now in
    let few : length a.values < 63 = (let t = c.len.ensures in let u = c.if-len.false in omega (arith, t, u)) in
    let m = as_many (outer_contents c.args.place.now.outer) in
    let headers : length a.outer < 399 = (let t = c.len-2.ensures in let u = c.if-len-2.false in omega (arith, m, t, u)) in
    rw c.in-None.is at (c.in-Ok.ensures.ok a refl few headers)

pub returns-in-Ok-go_into-clause-ok : goal.returns-in-Ok-go_into-clause-ok
returns-in-Ok-go_into-clause-ok g c =
    let a = state_of g.T.TokenSink.tokens c.args.place.now in
    let few : length a.values < 63 = (let t = c.len.ensures in let u = c.if-len.false in omega (arith, t, u)) in
    let m = as_many (outer_contents c.args.place.now.outer) in
    let headers : length a.outer < 399 = (let t = c.len-2.ensures in let u = c.if-len-2.false in omega (arith, m, t, u)) in
    let v = rw c.in-Some.is at (c.in-Ok.ensures.ok a refl few headers) in
    subst (λ q. ReadsInto (routine_at c.args.code.now) Takes c.args.rows.id c.in-Some.left.now a q) (sym c.in-Ok-go_into.ensures.ok) v
