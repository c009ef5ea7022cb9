-- Encodings, each a header and as many octets as it promises (X.690, 8.1.1).
use Rattle.std.specs.Prelude.{◌≡◌, ◌≤◌, Bool, ◌++◌, length}
use Rattle.std.specs.List.{concat, AllByRecursion}
use Rattle.asn_base.specs.declared.tag.Tag.{Tag}
use Rattle.encodings.specs.Header.{Octets, Encodings, Header}

-- one header of this tag, and as many octets of contents as it promises
pub record IsUnit (g : Tag) (o : Octets) : Type 0 where
  pub constructed : Bool
  pub header : Octets
  pub contents : Octets
  pub is_header : Header g constructed (length contents) header
  pub whole : o ≡ header ++ contents

-- some encodings, one after the other, with no more octets than a message has
pub record AreUnits (ys : Encodings) (o : Octets) : Type 0 where
  pub units : AllByRecursion (λ y. (g : Tag) × IsUnit g y) ys
  pub whole : o ≡ concat ys
  pub short : length o ≤ 16777216
