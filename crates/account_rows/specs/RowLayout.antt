-- The octets of a tree of events, and the rows of their account. There is one row for each header, before the rows
-- within it, and one for each component that is left out.
use Rattle.std.specs.Prelude.{◌≡◌, ℕ, suc, ◌+◌, Bool, true, false, List, [], ◌∷◌, ◌++◌, length}
use Rattle.std.specs.List.{concat}
use Rattle.asn_base.specs.declared.tag.Tag.{Tag}
use Rattle.encodings.specs.Header.{Octets, identifier}
use Rattle.encodings.specs.Fewest.{shortest_size, shortest_header}
use Rattle.encodings.specs.Account.{Numbers, ArePlacedAt}
use Rattle.codec_code.specs.declared.step.RowKind.{RowKind}
use Rattle.codec_code.specs.declared.step.RowKind.TheVariants.{Leaf, Wrap, Sequence, Set, SequenceOf, SetOf}
use Rattle.codec_code.specs.Events.{Tree, done, piece, lacking, within, ordered, Members, no_member, no_component}
use Rattle.codec_code.specs.Events.{member, row_of_order, SetMember, encodings_of, Arranged}
use Rattle.octet_account.specs.Flat.{FlatRow, a_leaf, a_wrap, a_seq, a_seqof, a_set, a_setof, an_absent, a_default}

-- the numbers of the header with the fewest octets (X.690, 8.1.2, 8.1.3 and 10.1)
abbrev pub header_numbers : Tag → Bool → ℕ → Numbers
header_numbers g c n = record {
  identifier = length (identifier g.class g.number c);
  size = length (shortest_size n);
  contents = n;
}

-- the row of a header with n members, whose places are p, and with q the member at each place
abbrev pub header_row : RowKind → Numbers → ℕ → List ℕ → List ℕ → FlatRow
header_row Leaf z n p q = a_leaf z
header_row Wrap z n p q = a_wrap z
header_row Sequence z n p q = a_seq z n
header_row Set z n p q = a_set z n p q
header_row SequenceOf z n p q = a_seqof z n
header_row SetOf z n p q = a_setof z n p q

-- the row of a component that is left out, which has a DEFAULT or not
abbrev pub left_row : Bool → FlatRow
left_row true = a_default
left_row false = an_absent

-- how many rows are next to each other at the top of a tree
abbrev pub rows_in : Tree → ℕ
rows_in done = 0
rows_in (piece x t) = rows_in t
rows_in (lacking d t) = suc (rows_in t)
rows_in (within g c k i t) = suc (rows_in t)
rows_in (ordered g o ms t) = suc (rows_in t)

abbrev pub rows_among : Members → ℕ
rows_among no_member = 0
rows_among (no_component d ms) = suc (rows_among ms)
rows_among (member r i ms) = rows_in i + rows_among ms

abbrev mutual
  pub RowLayout : Tree → Octets → List FlatRow → Type 0
  RowLayout done o rs = (o ≡ []) × (rs ≡ [])
  RowLayout (piece x t) o rs = (y : Octets) × RowLayout t y rs × (o ≡ x ++ y)
  RowLayout (lacking d t) o rs = (others : List FlatRow) × RowLayout t o others × (rs ≡ left_row d ∷ others)
  RowLayout (within g c k i t) o rs =
      (x : Octets) × (y : Octets) × (inside : List FlatRow) × (others : List FlatRow)
      × RowLayout i x inside × RowLayout t y others
      × (o ≡ shortest_header g c (length x) ++ (x ++ y))
      × (rs ≡ header_row k (header_numbers g c (length x)) (rows_in i) [] [] ∷ (inside ++ others))
  RowLayout (ordered g a ms t) o rs =
      (ps : List SetMember) × (qs : List SetMember) × (x : Octets) × (y : Octets)
      × (inside : List FlatRow) × (others : List FlatRow) × (p : List ℕ) × (q : List ℕ)
      × MemberRows ms ps inside × Arranged a ps qs × ArePlacedAt p q (encodings_of ps) (encodings_of qs)
      × (x ≡ concat (encodings_of qs)) × RowLayout t y others
      × (o ≡ shortest_header g true (length x) ++ (x ++ y))
      × (rs ≡ header_row (row_of_order a) (header_numbers g true (length x)) (rows_among ms) p q ∷ (inside ++ others))

  -- the parts of the encoded members, and the rows of all members
  pub MemberRows : Members → List SetMember → List FlatRow → Type 0
  MemberRows no_member ps rs = (ps ≡ []) × (rs ≡ [])
  MemberRows (no_component d ms) ps rs = (others : List FlatRow) × MemberRows ms ps others × (rs ≡ left_row d ∷ others)
  MemberRows (member r i ms) ps rs =
      (x : Octets) × (qs : List SetMember) × (first : List FlatRow) × (others : List FlatRow)
      × RowLayout i x first × MemberRows ms qs others
      × (ps ≡ record { rank = r; octets = x } ∷ qs) × (rs ≡ first ++ others)
