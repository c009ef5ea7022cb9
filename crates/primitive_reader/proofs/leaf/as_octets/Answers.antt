use Rattle.std.proofs.Common.{refl}
use Rattle.encodings.specs.Strings.{whole}
use Rattle.encodings.specs.Contents.{of_octets}
use Rattle.asn_base.specs.Abstract.{octets}
use Rattle.primitive_reader.proofs.leaf.as_octets.Goals as goal

pub returns-clause-ok : goal.returns-clause-ok
returns-clause-ok c = record {
  value = octets c.args.contents.now;
  means = refl;
  is_read = record { contents = of_octets (whole c.are_octets.ensures) tt; suits = tt };
}
