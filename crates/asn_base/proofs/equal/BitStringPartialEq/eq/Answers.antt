use Rattle.std.specs.Bool.{beq, one_answer}
use Rattle.std.specs.Cmp.{booleans_Decides}
use Rattle.std.specs.Cmp.Lexicographic.{pointwise, pointwise_decides}
use Rattle.asn_base.specs.Abstract.{bits_of}
use Rattle.asn_base.proofs.equal.BitStringPartialEq.eq.Goals as goal

pub returns-clause-computed : goal.returns-clause-computed
returns-clause-computed c =
    one_answer c.are_equal_bits.result (pointwise beq (bits_of c.args.self.now) (bits_of c.args.other.now)) c.are_equal_bits.ensures (pointwise_decides booleans_Decides (bits_of c.args.self.now) (bits_of c.args.other.now))
