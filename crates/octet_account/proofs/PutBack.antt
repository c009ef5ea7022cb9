-- Rows that are put back with the same contents.
use Rattle.std.proofs.Common.{◌≡◌, ℕ, zero, suc, List, [], ◌∷◌, refl, ap, slice_index_or, slice_set}
use Rattle.octet_account.specs.Seen.{flat, flat_row}
use Rattle.octet_account.specs.declared.row.Row.{Row}

-- a row is taken out, and one with the same contents is put back
pub put_back : (rs : List Row) (i : ℕ) (a b d : Row) → flat_row b.listed ≡ flat_row (slice_index_or rs i d).listed → flat (slice_set (slice_set rs i a) i b) ≡ flat rs
put_back [] i a b d e = refl
put_back (r ∷ rs) zero a b d e = ap (λ q. q ∷ flat rs) e
put_back (r ∷ rs) (suc i) a b d e = ap (λ q. flat_row r.listed ∷ q) (put_back rs i a b d e)

-- a row is put in place of one with the same contents
pub put_same : (rs : List Row) (i : ℕ) (b d : Row) → flat_row b.listed ≡ flat_row (slice_index_or rs i d).listed → flat (slice_set rs i b) ≡ flat rs
put_same [] i b d e = refl
put_same (r ∷ rs) zero b d e = ap (λ q. q ∷ flat rs) e
put_same (r ∷ rs) (suc i) b d e = ap (λ q. flat_row r.listed ∷ q) (put_same rs i b d e)
