-- Headers of open rows.
use Rattle.std.proofs.Common.{◌≡◌, ℕ, suc, ◌+◌, ◌-◌, ◌<◌, Bool, List, [], ◌∷◌, ◌++◌, inr, refl, sym, ap, subst, ◌∙◌, length, length-append, arith}
use Rattle.asn_base.specs.declared.tag.Tag.{Tag}
use Rattle.codec_code.specs.declared.step.Head.{Head as Head'}
use Rattle.codec_code.specs.declared.step.RowKind.TheVariants.{Sequence}
use Rattle.codec_code.specs.Events.{Event, closes}
use Rattle.codec_machine.specs.declared.open_row.OpenRow.{OpenRow}
use Rattle.encodings.specs.Header.{Octets}
use Rattle.octet_account.specs.Flat.{FlatRow}
use Rattle.der_layout.specs.declared.table.Open.{Open}
use Rattle.der_layout.specs.Rows.{listed}
use Rattle.der_layout.specs.Tables.{State, Stepped, HeaderCloses, WholeAdded, WholePut, LeftOut, LeftPut, members_in, open_of, within_row}

abbrev row_at : Tag → Bool → ℕ → ℕ → OpenRow
row_at g c p r = record { tag = g; constructed = c; place = p; row = r }

-- the header of a row that was opened
pub a_row : (g : Tag) (c : Bool) (n : ℕ) {p q r s : ℕ}
    → p ≡ q
    → r ≡ s
    → open_of (row_at g c p r) n ≡ open_of (row_at g c q s) n
a_row g c n {q = q} {r = r} e f = ap (λ z. open_of (row_at g c z r) n) e ∙ ap (λ z. open_of (row_at g c q z) n) f

one_more : (rs ss : List FlatRow) (x : FlatRow) → ss ≡ rs ++ x ∷ [] → length ss ≡ length rs + 1
one_more rs ss x e = ap length e ∙ length-append rs (x ∷ [])

-- after its header a row has no members
pub none_in : (rs ss : List FlatRow) (x : FlatRow) {r : ℕ} → ss ≡ rs ++ x ∷ [] → r ≡ length rs → listed (length ss - suc r) ≡ 0
none_in rs ss x {r = r} e f = let n = one_more rs ss x e in let z : length ss - suc r ≡ 0 = omega (arith, n, f) in ap listed z

pub place_among : (rs ss : List FlatRow) (x : FlatRow) {r : ℕ} → ss ≡ rs ++ x ∷ [] → r ≡ length rs → r < length ss
place_among rs ss x e f = let n = one_more rs ss x e in omega (arith, n, f)

capped_more : (n : ℕ) → listed (n + 1) ≡ listed (listed n + 1)
capped_more n = omega arith

-- each row is one more member
pub one_more_in : (row : OpenRow) (rs ss : List FlatRow) (x : FlatRow)
    → ss ≡ rs ++ x ∷ []
    → row.row < length rs
    → members_in row ss ≡ listed (members_in row rs + 1)
one_more_in row rs ss x e l =
    let n = one_more rs ss x e in
    let z : length ss - suc row.row ≡ (length rs - suc row.row) + 1 = omega (arith, n, l) in
    ap listed z ∙ capped_more (length rs - suc row.row)

pub still_among : (row : OpenRow) (rs ss : List FlatRow) (x : FlatRow) → ss ≡ rs ++ x ∷ [] → row.row < length rs → row.row < length ss
still_among row rs ss x e l = let n = one_more rs ss x e in omega (arith, n, l)

same_outer : (row : OpenRow) (a b : State) → b.opened ≡ a.opened → b.members ≡ a.members
    → b.opened ++ open_of row b.members ∷ [] ≡ a.opened ++ open_of row a.members ∷ []
same_outer row a b e f = ap (λ q. q ++ open_of row b.members ∷ []) e ∙ ap (λ q. a.opened ++ open_of row q ∷ []) f

-- what is put in a row is added in it
pub whole_in : (row : OpenRow) (h : Head') (x : Octets) (a b : State)
    → row.row < length a.rows
    → WholePut h x a b
    → WholeAdded h x (within_row row a) (within_row row b)
whole_in row h x a b l w = record {
  octets_are = w.octets_are;
  opened_are = same_outer row a b w.opened_are w.members_are;
  groups_are = w.groups_are;
  rows_are = w.rows_are;
  members_are = one_more_in row a.rows b.rows _ w.rows_are l;
}

pub left_out_in : (row : OpenRow) (d : Bool) (a b : State)
    → row.row < length a.rows
    → LeftPut d a b
    → LeftOut d (within_row row a) (within_row row b)
left_out_in row d a b l w = record {
  octets_are = w.octets_are;
  opened_are = same_outer row a b w.opened_are w.members_are;
  groups_are = w.groups_are;
  rows_are = w.rows_are;
  members_are = one_more_in row a.rows b.rows _ w.rows_are l;
}

-- the same state with another number of members
abbrev pub counted : State → ℕ → State
counted a n = record { octets = a.octets; opened = a.opened; groups = a.groups; rows = a.rows; members = n }

pub row_closes : (row : OpenRow) (a b : State) (one : Open) (n : ℕ)
    → one ≡ open_of row a.members
    → n ≡ members_in row a.rows
    → (one.place < length a.octets → HeaderCloses one [] [] (counted a n) b)
    → Stepped closes (within_row row a) b
row_closes row a b one n is f h = inr (record {
  one = open_of row a.members;
  others = a.opened;
  within = counted a (members_in row a.rows);
  places = [];
  inverse = [];
  from = refl;
  group_ends = (refl, refl, refl);
  header_closes =
      subst (λ q. q.place < length a.octets → HeaderCloses q [] [] (counted a (members_in row a.rows)) b) is
      (subst (λ q. one.place < length a.octets → HeaderCloses one [] [] (counted a q) b) f h);
})

pub row_kept : (row : OpenRow) (a : State) (os : List Open) (n : ℕ)
    → os ≡ a.opened ++ open_of row a.members ∷ []
    → n ≡ members_in row a.rows
    → within_row row a ≡ record { octets = a.octets; opened = os; groups = a.groups; rows = a.rows; members = n }
row_kept row a os n e f =
    ap (λ q. record { octets = a.octets; opened = q; groups = a.groups; rows = a.rows; members = members_in row a.rows }) (sym e)
    ∙ ap (λ q. record { octets = a.octets; opened = os; groups = a.groups; rows = a.rows; members = q }) (sym f)
