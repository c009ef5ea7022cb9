-- The rows of an account as definitions see them, without their places in memory.
use Rattle.std.specs.Prelude.{List, map}
use Rattle.encodings.specs.Account.{Numbers}
use Rattle.octet_account.specs.declared.row.Numbers.{Numbers as Numbers'}
use Rattle.octet_account.specs.declared.row.RowLayout.{RowLayout}
use Rattle.octet_account.specs.declared.row.RowLayout.TheVariants as listed
use Rattle.octet_account.specs.declared.row.Row.{Row}
use Rattle.octet_account.specs.Flat.{FlatRow, a_leaf, a_wrap, a_seq, a_seqof, a_set, a_setof, an_absent, a_default}

abbrev pub numbers_of : Numbers' → Numbers
numbers_of z = record { identifier = z.identifier; size = z.size; contents = z.contents }

abbrev pub flat_row : RowLayout → FlatRow
flat_row (listed.Leaf z) = a_leaf (numbers_of z)
flat_row (listed.Wrap z) = a_wrap (numbers_of z)
flat_row (listed.Seq z n) = a_seq (numbers_of z) n
flat_row (listed.SeqOf z n) = a_seqof (numbers_of z) n
flat_row (listed.Set z b) = a_set (numbers_of z) b.value.members b.value.places.items b.value.inverse.items
flat_row (listed.SetOf z b) = a_setof (numbers_of z) b.value.members b.value.places.items b.value.inverse.items
flat_row listed.Absent = an_absent
flat_row listed.Default = a_default

abbrev pub flat : List Row → List FlatRow
flat rs = map (λ r. flat_row r.listed) rs
