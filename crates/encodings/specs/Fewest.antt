-- The header with the fewest octets, as a function (X.690, clauses 8.1.3 and 10.1).
use Rattle.std.specs.Prelude.{ℕ, ◌+◌, Bool, [], ◌∷◌, ◌++◌, length, nat_lt, if◌then◌else◌}
use Rattle.std.specs.Int.Digits.{digits_of}
use Rattle.asn_base.specs.declared.tag.Tag.{Tag}
use Rattle.encodings.specs.Header.{Octets, identifier}

-- The length octets with the fewest octets for length n (X.690, clause 10.1): the short form below 128, else the long
-- form without leading zeros.
abbrev pub shortest_size : ℕ → Octets
shortest_size n = if nat_lt n 128 then n ∷ [] else (128 + length (digits_of 256 n)) ∷ digits_of 256 n

-- the header with the fewest octets of tag t and length n; flag c says that the encoding is constructed (X.690, clause
-- 10.1)
unfoldable pub shortest_header : Tag → Bool → ℕ → Octets
shortest_header t c n = identifier t.class t.number c ++ shortest_size n
