-- The tags of strings.
use Rattle.std.proofs.Common.{◌≡◌}
use Rattle.asn_base.specs.declared.tag.Class.TheVariants.{Universal}
use Rattle.asn_base.specs.declared.tag.Tag.{Tag}
use Rattle.asn_base.specs.proving.OneTag.{tag_same}
use Rattle.encodings.specs.Strings.{octet_string_tag, bit_string_tag}

pub octet_tag : (g : Tag) → g.class ≡ Universal → g.number ≡ 4 → g ≡ octet_string_tag
octet_tag g e n = tag_same g octet_string_tag e n

pub bit_tag : (g : Tag) → g.class ≡ Universal → g.number ≡ 3 → g ≡ bit_string_tag
bit_tag g e n = tag_same g bit_string_tag e n
