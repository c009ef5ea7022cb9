-- The first row of an account.
use Rattle.std.proofs.Common.{◌≡◌, List, [], ◌∷◌, ◌++◌, refl, sym, ap, subst, ◌∙◌}
use Rattle.encodings.specs.Account.{Account, header, leaf_row, wrap_row, seq_row, seqof_row, set_row, setof_row, Rows}
use Rattle.octet_account.specs.declared.row.RowLayout.{RowLayout}
use Rattle.octet_account.specs.declared.row.Row.{Row}
use Rattle.octet_account.specs.Seen.{flat, flat_row}
use Rattle.octet_account.specs.Flat.{FlatRow, a_leaf, a_wrap, a_seq, a_seqof, a_set, a_setof, an_absent, a_default, count, rows_of, member_rows, AreRows}

-- The account that begins with this row. Rows q come after the row, and rows rest after the account.
abbrev pub Opened : Account → FlatRow → List FlatRow → List FlatRow → Type 0
Opened a (a_leaf z) q rest = (a ≡ header z leaf_row) × (q ≡ rest)
Opened a (a_wrap z) q rest = (b : Account) × (a ≡ header z (wrap_row b)) × (q ≡ rows_of b ++ rest)
Opened a (a_seq z n) q rest = (rs : Rows) × (a ≡ header z (seq_row rs)) × (count rs ≡ n) × (q ≡ member_rows rs ++ rest)
Opened a (a_seqof z n) q rest = (rs : Rows) × (a ≡ header z (seqof_row rs)) × (count rs ≡ n) × (q ≡ member_rows rs ++ rest)
Opened a (a_set z n p i) q rest = (rs : Rows) × (a ≡ header z (set_row rs p i)) × (count rs ≡ n) × (q ≡ member_rows rs ++ rest)
Opened a (a_setof z n p i) q rest = (rs : Rows) × (a ≡ header z (setof_row rs p i)) × (count rs ≡ n) × (q ≡ member_rows rs ++ rest)
Opened a an_absent q rest = ⊥
Opened a a_default q rest = ⊥

abbrev pub first_or : FlatRow → List FlatRow → FlatRow
first_or d [] = d
first_or d (r ∷ rs) = r

abbrev pub tail_of : List FlatRow → List FlatRow
tail_of [] = []
tail_of (r ∷ rs) = rs

pub opened : (a : Account) (r : FlatRow) (q rest : List FlatRow) → r ∷ q ≡ rows_of a ++ rest → Opened a r q rest
opened a r q rest e = by a r q rest (ap (first_or r) e) (ap tail_of e)
  where
    by : (a : Account) (r : FlatRow) (q rest : List FlatRow) → r ≡ first_or r (rows_of a ++ rest) → q ≡ tail_of (rows_of a ++ rest) → Opened a r q rest
    by (header z leaf_row) r q rest e f = subst (λ w. Opened (header z leaf_row) w q rest) (sym e) (refl, f)
    by (header z (wrap_row b)) r q rest e f = subst (λ w. Opened (header z (wrap_row b)) w q rest) (sym e) (b, refl, f)
    by (header z (seq_row rs)) r q rest e f = subst (λ w. Opened (header z (seq_row rs)) w q rest) (sym e) (rs, refl, refl, f)
    by (header z (seqof_row rs)) r q rest e f = subst (λ w. Opened (header z (seqof_row rs)) w q rest) (sym e) (rs, refl, refl, f)
    by (header z (set_row rs p i)) r q rest e f = subst (λ w. Opened (header z (set_row rs p i)) w q rest) (sym e) (rs, refl, refl, f)
    by (header z (setof_row rs p i)) r q rest e f = subst (λ w. Opened (header z (setof_row rs p i)) w q rest) (sym e) (rs, refl, refl, f)

-- there is a first row
pub some_row : (a : Account) (rest : List FlatRow) → [] ≡ rows_of a ++ rest → ⊥
some_row (header z leaf_row) rest e = cc
some_row q rest e = cc

-- rows in memory whose first row is t
pub row_eq : (rows : List Row) (row : Row) (following : List Row) (t : RowLayout) (a : Account) (rest : List FlatRow) → rows ≡ row ∷ following → row.listed ≡ t → flat rows ≡ rows_of a ++ rest → flat_row t ∷ flat following ≡ rows_of a ++ rest
row_eq rows row following t a rest e f g = sym (ap (λ w. flat_row w ∷ flat following) f) ∙ sym (ap flat e) ∙ g

pub row_at : (rows : List Row) (row : Row) (following : List Row) (t : RowLayout) (a : Account) (rest : List FlatRow) → rows ≡ row ∷ following → row.listed ≡ t → flat rows ≡ rows_of a ++ rest → Opened a (flat_row t) (flat following) rest
row_at rows row following t a rest e f g = opened a (flat_row t) (flat following) rest (row_eq rows row following t a rest e f g)

pub row_eq_any : (rows : List Row) (row : Row) (following : List Row) (all : List FlatRow) → rows ≡ row ∷ following → flat rows ≡ all → flat_row row.listed ∷ flat following ≡ all
row_eq_any rows row following all e g = sym (ap flat e) ∙ g

append_nil : (rs : List FlatRow) → rs ++ [] ≡ rs
append_nil [] = refl
append_nil (r ∷ rs) = ap (λ q. r ∷ q) (append_nil rs)

pub whole_rows : (a : Account) {rs : List FlatRow} → AreRows a rs → rs ≡ rows_of a ++ []
whole_rows a p = p.are ∙ sym (append_nil (rows_of a))
