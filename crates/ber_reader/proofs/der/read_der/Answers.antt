use Rattle.std.proofs.Common.{ap}
use Rattle.views.specs.Tree.{value_of}
use Rattle.ber_reader.proofs.Strictly.{strict_reading, not_strict, never_strict, said_same}
use Rattle.ber_reader.proofs.der.read_der.Goals as goal

pub returns-then-not-strict-clause-not_der : goal.returns-then-not-strict-clause-not_der
returns-then-not-strict-clause-not_der c = λ z.
    let i = c.in-Ok.ensures.ok in
    not_strict i (ap value_of c.top.ensures) (λ k e d. let h = (c.in-Ok-is_strict.ensures k e i.short).1 d in let f = c.if-not-strict.true in cc)

pub returns-then-not-strict-clause-read : goal.returns-then-not-strict-clause-read
returns-then-not-strict-clause-read c = λ d h.
    let i = c.in-Ok.ensures.ok in
    let q = c.in-Ok.ensures.only d.value d.count (record { value = d.is_value; says_it = d.is_encoded }) in
    absurd (never_strict i (ap value_of c.top.ensures) (λ k e x. let y = (c.in-Ok-is_strict.ensures k e i.short).1 x in let f = c.if-not-strict.true in cc) d q h)

pub returns-clause-ok : goal.returns-clause-ok
returns-clause-ok c =
    let i = c.in-Ok.ensures.ok in
    strict_reading i (ap value_of c.top.ensures) (λ k e. (c.in-Ok-is_strict.ensures k e i.short).0 c.if-not-strict.false)

pub returns-clause-basic : goal.returns-clause-basic
returns-clause-basic c = λ d n.
    let i = c.in-Ok.ensures.ok in
    let s = strict_reading i (ap value_of c.top.ensures) (λ k e. (c.in-Ok-is_strict.ensures k e i.short).0 c.if-not-strict.false) in
    let q = c.in-Ok.ensures.only d.value d.count (record { value = d.is_value; says_it = d.is_encoded }) in
    absurd (n (said_same s.reading d q s.strict))

pub returns-then-not-strict-clause-judged : goal.returns-then-not-strict-clause-judged
returns-then-not-strict-clause-judged c = λ read n. absurd (c.in-Ok.ensures.judged read n)

pub returns-clause-judged : goal.returns-clause-judged
returns-clause-judged c = λ read n. c.in-Ok.ensures.judged read n

pub returns-in-Err-clause-refused : goal.returns-in-Err-clause-refused
returns-in-Err-clause-refused c = λ other strict. c.in-Err.ensures.refused other
