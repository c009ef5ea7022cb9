use Rattle.std.proofs.Common.{refl}
use Rattle.encodings.specs.Strings.{whole_bits}
use Rattle.encodings.specs.Contents.{of_bits}
use Rattle.asn_base.specs.Abstract.{bits}
use Rattle.primitive_reader.specs.Leaves.{bits_but}
use Rattle.primitive_reader.specs.Refused.{without_form}
use Rattle.primitive_reader.proofs.leaf.as_bits.Goals as goal

pub returns-in-Some-clause-ok : goal.returns-in-Some-clause-ok
returns-in-Some-clause-ok c = record {
  value = bits (bits_but c.in-Some.unused c.in-Some.octets.now);
  means = refl;
  is_read = record { contents = of_bits (whole_bits c.in-Some.ensures.some) tt tt; suits = tt };
}

pub returns-in-None-clause-err : goal.returns-in-None-clause-err
returns-in-None-clause-err c = without_form (λ f. c.in-None.ensures.none f.0 f.1)
