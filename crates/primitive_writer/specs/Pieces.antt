-- The pieces of contents octets.
use Rattle.std.specs.Prelude.{ℕ, [], ◌∷◌, ◌++◌, flat_map, Option, Some, None}
use Rattle.encodings.specs.Header.{Octets, septets}
use Rattle.primitive_writer.specs.declared.leaf.PrimitiveContents.{PrimitiveContents}
use Rattle.primitive_writer.specs.declared.leaf.PrimitiveContents.TheVariants.{One, Few, Whole, Bits, Arcs}
use Rattle.primitive_writer.specs.declared.short.ShortContents.{ShortContents}
use Rattle.primitive_writer.specs.declared.short.ShortContents.TheVariants as shorts

abbrev pub last_of : Option ℕ → Octets
last_of None = []
last_of (Some o) = o ∷ []

-- the octets of all pieces, in order
abbrev pub joined_pieces : PrimitiveContents → Octets
joined_pieces (One o) = o ∷ []
joined_pieces (Few v) = v.items
joined_pieces (Whole o) = o.now
joined_pieces (Bits n whole last) = n ∷ (whole.now ++ last_of last)
joined_pieces (Arcs n ns) = septets n ++ flat_map septets ns.now

-- the octets in order
abbrev pub short_octets : ShortContents → Octets
short_octets (shorts.One a) = a ∷ []
short_octets (shorts.Two a b) = a ∷ b ∷ []
short_octets (shorts.Three a b c) = a ∷ b ∷ c ∷ []
short_octets (shorts.Four a b c d) = a ∷ b ∷ c ∷ d ∷ []
