use Rattle.std.proofs.Common.{arith, ◌<◌}
use Rattle.primitive_reader.proofs.Zeroes.{filled_iff, filled_none}
use Rattle.primitive_reader.proofs.der.is_filled.Goals as goal

pub returns-in-Some-split_last : goal.returns-in-Some-split_last
returns-in-Some-split_last c = λ s w.
    let l : c.in-Some.unused.now < 8 = (let k = c.if-unused-gt7.false in omega (arith, k)) in
    filled_iff c.has_zeros.result s c.args.contents.now c.in-Some.octets.now c.in-Some-split_last.field-0-1.now c.in-Some.unused.now c.in-Some-split_last.last.now c.in-Some.ensures.cases.0 c.in-Some-split_last.ensures.cases.0 l c.has_zeros.ensures w

pub returns-in-None : goal.returns-in-None
returns-in-None c = λ s w. filled_none s c.args.contents.now c.in-Some.octets.now c.in-Some.unused.now c.in-Some.ensures.cases.0 c.in-None.ensures.cases w
