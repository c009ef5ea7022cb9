use Rattle.std.proofs.Common.{ap, ◌∙◌}
use Rattle.asn_base.specs.Abstract.{abstract}
use Rattle.asn_base.specs.Seen.{kind_of}
use Rattle.asn_base.proofs.Comparing.{plain, not_named, named_alike}
use Rattle.asn_base.proofs.flat.are_alike_leaves.Goals as goal

pub returns-in-Bits-second : goal.returns-in-Bits-second
returns-in-Bits-second c = λ s a b.
    named_alike s (ap kind_of c.in-NamedBits.is) (ap abstract c.in-Bits.is ∙ c.lemma_abstract_values.ensures.bits_ c.in-Bits.one) (ap abstract c.in-Bits-second.is ∙ c.lemma_abstract_values.ensures.bits_ c.in-Bits-second.other) c.are_alike_bits.ensures

pub returns-in_default : goal.returns-in_default
returns-in_default c = λ s a b. plain s (not_named c.args.core.now c.in_default.not-NamedBits) c.are_equal.ensures a
