use Rattle.std.proofs.Common.{◌*◌, ◌+◌, arith, ap}
use Rattle.std.specs.Int.Digits.{number_from_digits_after}
use Rattle.std.proofs.lemmas.Int.Digits.{number_after_ge}
use Rattle.octets.proofs.read.+number_of.Goals as goal

pub returns-then-worth-gt-MAX_LENGTH-clause-none : goal.returns-then-worth-gt-MAX_LENGTH-clause-none
returns-then-worth-gt-MAX_LENGTH-clause-none t c =
    let e = ap (number_from_digits_after 256 c.args.high) c.in-Some.ensures.cases.0 in
    let g = number_after_ge 256 (c.args.high * 256 + c.in-Some.octet.now) c.in-Some.after.now (omega arith) in
    let w = c.if-worth-gt-MAX_LENGTH.true in
    omega (arith, e, g, w)
