use Rattle.std.proofs.Common.{arith}
use Rattle.encodings.specs.proving.TwosComplement.{worth_within}
use Rattle.packed_readings.proofs.Shortest.{never, unsigned_past}
use Rattle.packed_readings.proofs.number.unsigned.Goals as goal

pub returns-then-octets-gt16-clause-none : goal.returns-then-octets-gt16-clause-none
returns-then-octets-gt16-clause-none c = unsigned_past c.args.octets.now (λ z. never (c.if-has_zero_first.ensures.1 z)) (omega (arith, c.if-octets-gt16.true))

pub worth-requires : goal.worth-requires
worth-requires c = worth_within c.args.octets.now c.are_octets.ensures c.if-octets-gt16.false
