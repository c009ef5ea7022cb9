use Rattle.std.proofs.Common.{arith, true}
use Rattle.header_listing.proofs.Parts.{identifier_counted}
use Rattle.header_listing.proofs.first.identifier_len.Goals as goal

pub overflow_sub-result : goal.overflow_sub-result
overflow_sub-result c =
    let n = identifier_counted c.args.tag true c.header_len.result (c.header_len.ensures.shortest true) in omega arith

pub returns : goal.returns
returns c = λ form.
    let n = identifier_counted c.args.tag form c.header_len.result (c.header_len.ensures.shortest form) in omega arith
