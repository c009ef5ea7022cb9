-- Octets that are added after their number.
use Rattle.asn_base.specs.Abstract.{AbstractValue}
use Rattle.encodings.specs.declared.leaf_kind.LeafKind.{LeafKind}
use Rattle.encodings.specs.Leaves.{HasContents}
use Rattle.encodings.specs.Contents.{Number}
use Rattle.encodings.specs.Header.{Octets}
use Rattle.std.specs.Prelude.{ℕ, ℤ}
use Rattle.packed_counts.specs.Counts.{Adds}
use Rattle.packed_encodings.specs.Lengths.{Bits, CountedOctets}
use Rattle.packed_encodings.specs.Numbers.{FewestUnsigned}

-- some contents octets of the value are added after their number
abbrev pub AddsContents : LeafKind → AbstractValue → Bits → Bits → Type 0
AddsContents k v = Adds (λ b. (o : Octets) × HasContents k v o × CountedOctets o b)

-- the octets of a number in two's complement are added after their number
abbrev pub AddsNumber : ℤ → Bits → Bits → Type 0
AddsNumber z = Adds (λ b. (o : Octets) × Number z o × CountedOctets o b)

-- the fewest octets of a number that isn't negative are added after their number
abbrev pub AddsUnsigned : ℕ → Bits → Bits → Type 0
AddsUnsigned n = Adds (λ b. (o : Octets) × FewestUnsigned n o × CountedOctets o b)
