use Rattle.std.proofs.Common.{refl}
use Rattle.octets.specs.Scans.{zero_first}
use Rattle.octets.proofs.Septets.{none_of, small_is, never_true}
use Rattle.encodings.specs.proving.Septets.{number_spelled}
use Rattle.octets.proofs.read.read_number.Goals as goal

pub returns-then-has_zeros_first-clause-err : goal.returns-then-has_zeros_first-clause-err
returns-then-has_zeros_first-clause-err c = let z = c.if-has_zeros_first.ensures.yes refl in zero_first z.0 z.1

pub returns-in-Err-clause-err : goal.returns-in-Err-clause-err
returns-in-Err-clause-err c = none_of c.args.octets.now c.in-Err.fault c.in-Err.ensures.err (λ rest e. never_true (c.if-has_zeros_first.ensures.no rest e))

pub returns-then-number-lt31-clause-err : goal.returns-then-number-lt31-clause-err
returns-then-number-lt31-clause-err c = small_is c.in-Ok.read.0 c.args.octets.now c.in-Ok.read.1.now c.in-Ok.ensures.ok c.if-number-lt31.true (λ rest e. never_true (c.if-has_zeros_first.ensures.no rest e))

pub returns-clause-ok : goal.returns-clause-ok
returns-clause-ok c = number_spelled c.in-Ok.read.0 c.args.octets.now c.in-Ok.read.1.now c.in-Ok.ensures.ok (λ rest e. never_true (c.if-has_zeros_first.ensures.no rest e))
