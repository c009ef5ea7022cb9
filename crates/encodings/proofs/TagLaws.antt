-- Octets begin with one header.
use Rattle.std.proofs.Common.{◌≡◌, ℕ, Bool, List, ◌++◌}
use Rattle.asn_base.specs.declared.tag.Tag.{Tag}
use Rattle.asn_base.specs.proving.OneTag.{tag_same}
use Rattle.encodings.specs.Header.{Header}
use Rattle.encodings.proofs.Identifiers.{any_front}

pub one_header : (t u : Tag) (b c : Bool) (n m : ℕ) (h g x y : List ℕ) → Header t b n h → Header u c m g → h ++ x ≡ g ++ y → (t ≡ u) × (b ≡ c) × (n ≡ m) × (h ≡ g) × (x ≡ y)
one_header t u b c n m h g x y a d e =
    let r = any_front t u b c n m h g x y a d e in
    (tag_same t u r.classes r.numbers, r.forms, r.counts, r.headers, r.rest)
