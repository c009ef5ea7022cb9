-- Members of a SET OF by their first octets, which decide most comparisons (own rule).
use Rattle.std.specs.Prelude.{ℕ, suc, ◌+◌, ◌*◌, List, [], ◌∷◌, slice_index, slice_index_or}
use Rattle.der_layout.specs.declared.sort.Beginning.{Beginning}
use Rattle.der_layout.specs.declared.table.Member.{Member}
use Rattle.der_layout.specs.Tables.{span}

-- the octet at a place and the one after it, as one number
abbrev pub pair_in : List ℕ → ℕ → ℕ
pair_in o i = 256 * slice_index o i + slice_index o (suc i)

-- the first eight octets as one number, the first octet the highest; missing octets count as zeros
abbrev pub word : List ℕ → ℕ
word o = 4294967296 * (65536 * pair_in o 0 + pair_in o 2) + (65536 * pair_in o 4 + pair_in o 6)

-- the beginnings of members, the first of which has place i
abbrev pub beginnings_of : List ℕ → List Member → ℕ → List Beginning
beginnings_of o [] i = []
beginnings_of o (m ∷ ms) i = record { word = word (span o m); place = i } ∷ beginnings_of o ms (suc i)

-- the member at a place, or one without octets past the end
abbrev pub member_at : List Member → ℕ → Member
member_at ms i = slice_index_or ms i (record { rank = 0; number = 0; start = 0; end = 0 })

-- the first octets as one number, and then all octets of the member
abbrev pub octets_after : List ℕ → List Member → Beginning → List ℕ
octets_after o ms b = b.word ∷ span o (member_at ms b.place)
