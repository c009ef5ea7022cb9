use Rattle.std.proofs.Common.{false, get_or, sym, ap, ◌∙◌}
use Rattle.asn_base.specs.Abstract.{bits_of}
use Rattle.asn_base.proofs.BitSteps.{all_same}
use Rattle.asn_base.proofs.bits.are_equal_bits.Goals as goal

pub returns-then-bit_count : goal.returns-then-bit_count
returns-then-bit_count c = (
  λ t. all_same (bits_of c.args.first.now) (bits_of c.args.second.now) (sym c.bit_count.ensures.count ∙ c.if-bit_count.true ∙ c.bit_count-2.ensures.count) (c.are_alike_bits.ensures.0 t),
  λ e. c.are_alike_bits.ensures.1 (λ i. ap (λ q. get_or q i false) e),
)
