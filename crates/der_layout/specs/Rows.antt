-- The rows of an account in the table.
use Rattle.std.specs.Prelude.{ℕ, suc, Bool, List, [], ◌∷◌, length, map, min, set, replicate}
use Rattle.asn_base.specs.declared.tag.Tag.{Tag}
use Rattle.encodings.specs.Account.{Numbers}
use Rattle.octet_account.specs.Flat.{FlatRow, a_leaf, a_wrap, a_seq, a_seqof, a_set, a_setof, an_absent, a_default}
use Rattle.account_rows.specs.RowLayout.{header_numbers}
use Rattle.codec_code.specs.declared.step.RowKind.{RowKind}
use Rattle.codec_code.specs.declared.step.RowKind.TheVariants.{Set, SetOf}
use Rattle.der_layout.specs.declared.table.Member.{Member}

-- the members of such a header aren't put in an order
abbrev pub IsPlain : RowKind → Type 0
IsPlain Set = ⊥
IsPlain SetOf = ⊥
IsPlain k = Unit {0}

-- numbers in the table are at most one more than the most octets of an encoding
abbrev pub listed : ℕ → ℕ
listed n = min n 16777217

abbrev pub capped_numbers : Numbers → Numbers
capped_numbers z = record { identifier = listed z.identifier; size = listed z.size; contents = listed z.contents }

abbrev pub capped_header : Tag → Bool → ℕ → Numbers
capped_header g c n = capped_numbers (header_numbers g c n)

abbrev pub capped_row : FlatRow → FlatRow
capped_row (a_leaf z) = a_leaf (capped_numbers z)
capped_row (a_wrap z) = a_wrap (capped_numbers z)
capped_row (a_seq z n) = a_seq (capped_numbers z) (listed n)
capped_row (a_seqof z n) = a_seqof (capped_numbers z) (listed n)
capped_row (a_set z n p q) = a_set (capped_numbers z) (listed n) (map listed p) (map listed q)
capped_row (a_setof z n p q) = a_setof (capped_numbers z) (listed n) (map listed p) (map listed q)
capped_row an_absent = an_absent
capped_row a_default = a_default

abbrev pub numbers_in : List Member → List ℕ
numbers_in = map (λ m. m.number)

-- each member in the list gets the next place
abbrev pub placed_from : List ℕ → ℕ → List ℕ → List ℕ
placed_from [] j p = p
placed_from (i ∷ is) j p = placed_from is (suc j) (set p i j)

abbrev pub places_by : List ℕ → List ℕ
places_by q = placed_from q 0 (replicate (length q) 0)
