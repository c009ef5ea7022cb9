use Rattle.std.proofs.Common.{arith, ◌+◌}
use Rattle.std.proofs.lemmas.Str.Parse.{digits_value-take-le}
use Rattle.parser_combinators.proofs.Tokens.{value_more}
use Rattle.parser_combinators.proofs.decode.value_of.Goals as goal

pub overflow_mul-value : goal.overflow_mul-value
overflow_mul-value c =
    let i = c.loop-octet.octet-index in
    let xs = c.args.digits.now in
    let more = value_more xs i c.loop-octet-test.true (c.requires.digits i c.loop-octet-test.true) in
    let le = digits_value-take-le 10 xs (i + 1) (omega arith) in
    omega (arith, more, le, c.loop-octet.invariant, c.requires.small)

pub overflow_add-value : goal.overflow_add-value
overflow_add-value c =
    let i = c.loop-octet.octet-index in
    let xs = c.args.digits.now in
    let more = value_more xs i c.loop-octet-test.true (c.requires.digits i c.loop-octet-test.true) in
    let le = digits_value-take-le 10 xs (i + 1) (omega arith) in
    omega (arith, more, le, c.loop-octet.invariant, c.requires.small, c.from.ensures)

pub loop-octet-preserved : goal.loop-octet-preserved
loop-octet-preserved c =
    let i = c.loop-octet.octet-index in
    let xs = c.args.digits.now in
    let more = value_more xs i c.loop-octet-test.true (c.requires.digits i c.loop-octet-test.true) in
    omega (arith, more, c.loop-octet.invariant, c.from.ensures)
