use Rattle.std.proofs.Common.{true, arith}
use Rattle.der_layout.proofs.Seen.{identifier_of, header_length, numbers_capped, short_capped}
use Rattle.der_layout.proofs.rows.numbers.Goals as goal

pub overflow_sub-identifier : goal.overflow_sub-identifier
overflow_sub-identifier c =
    let e = identifier_of c.args.tag true c.header_len-identifier.result (c.header_len-identifier.ensures.shortest true) in
    omega (arith, e)

pub overflow_sub-size : goal.overflow_sub-size
overflow_sub-size c =
    let e = identifier_of c.args.tag true c.header_len-identifier.result (c.header_len-identifier.ensures.shortest true) in
    let f = header_length c.args.tag true c.args.contents in
    let h = c.header_len.ensures.shortest true in
    omega (arith, e, f, h)

pub returns : goal.returns
returns c =
    numbers_capped c.args.tag c.args.contents c.header_len-identifier.result c.header_len.result c.small.result c.small-2.result c.small-3.result
    c.header_len-identifier.ensures.shortest c.header_len.ensures.shortest c.small.ensures c.small-2.ensures c.small-3.ensures

pub returns-then-contents-lt128 : goal.returns-then-contents-lt128
returns-then-contents-lt128 c = short_capped c.args.tag c.args.contents (let h = c.if-tag-lt31.true in omega (arith, h)) (let h = c.if-contents-lt128.true in omega (arith, h))
