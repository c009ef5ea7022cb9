-- The values as which primitive contents octets are read, of kinds that hold no others (X.690, 8.2 to 8.8, 8.19, 8.20
-- and 8.23).
use Rattle.std.specs.Prelude.{◌≡◌, ℕ, ◌-◌, ◌*◌, Bool, false, List, length, take, flat_map, IsTrue, IsUtf8}
use Rattle.std.specs.List.{AllByRecursion}
use Rattle.asn_base.specs.Abstract.{AbstractValue, boolean, integer, enumerated, bits, octets, text, null, oid}
use Rattle.asn_base.specs.Abstract.{relative_oid, bits_of_octet}
use Rattle.asn_base.specs.Schemas.{is_character}
use Rattle.asn_base.specs.Typed.{IsWithinLimit, IsObjectIdentifier, IsRelativeOid}
use Rattle.encodings.specs.Header.{Octets, septets}
use Rattle.encodings.specs.Rules.{Basic}
use Rattle.encodings.specs.Contents.{Contents, joined}
use Rattle.encodings.specs.declared.leaf_kind.LeafKind.{LeafKind}
use Rattle.encodings.specs.declared.leaf_kind.LeafKind.TheVariants as kinds
use Rattle.encodings.specs.Leaves.{plain}
use Rattle.primitive_reader.specs.declared.leaf.Leaf.{Leaf}
use Rattle.primitive_reader.specs.declared.leaf.Leaf.TheVariants as leaves

-- what every type of the kind requires of its values, whatever its constraints: the limit on numbers, and the
-- characters
abbrev pub Suits : LeafKind → AbstractValue → Type 0
Suits kinds.Integer (integer z) = IsWithinLimit z
Suits kinds.Enumerated (enumerated z) = IsWithinLimit z
Suits kinds.Utf8String (text o) = IsUtf8 o
Suits (kinds.RestrictedString k) (text o) = AllByRecursion (λ x. IsTrue (is_character k x)) o
Suits k v = Unit {0}

-- x are primitive contents octets of v by the basic rules
pub record IsReadAs (k : LeafKind) (v : AbstractValue) (x : Octets) : Type 0 where
  pub contents : Contents Basic (plain k) v false x
  pub suits : Suits k v

-- the bits of octets without the last n ones
abbrev pub bits_but : ℕ → Octets → List Bool
bits_but n o = take (8 * length o - n) (flat_map bits_of_octet o)

-- the value that a leaf is
abbrev pub Denotes : Leaf → AbstractValue → Type 0
Denotes (leaves.Bool b) v = v ≡ boolean b
Denotes (leaves.Int z) v = v ≡ integer z
Denotes (leaves.Enum z) v = v ≡ enumerated z
Denotes (leaves.Bits n o) v = v ≡ bits (bits_but n o.now)
Denotes (leaves.Octets o) v = v ≡ octets o.now
Denotes (leaves.Text s) v = v ≡ text s.now
Denotes leaves.Null v = v ≡ null
Denotes (leaves.Oid o) v =
    (ns : List ℕ) × (v ≡ oid ns) × IsObjectIdentifier ns × (o.now ≡ flat_map septets (joined ns))
Denotes (leaves.RelativeOid o) v =
    (ns : List ℕ) × (v ≡ relative_oid ns) × IsRelativeOid ns × (o.now ≡ flat_map septets ns)

-- contents octets x of this kind are those of the value that the leaf is
pub record ReadsContents (k : LeafKind) (x : Octets) (l : Leaf) : Type 0 where
  pub value : AbstractValue
  pub means : Denotes l value
  pub is_read : IsReadAs k value x
