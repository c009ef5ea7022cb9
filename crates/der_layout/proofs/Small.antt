-- Rows within the bounds of accounts keep their numbers.
use Rattle.std.proofs.Common.{◌≡◌, ℕ, zero, suc, List, [], ◌∷◌, ◌++◌, map, refl, ap, ◌∙◌, arith}
use Rattle.std.proofs.lemmas.List.{map-append}
use Rattle.std.specs.List.{AllByRecursion}
use Rattle.encodings.specs.Account.{Numbers, Account, header, leaf_row, wrap_row, seq_row, seqof_row, set_row, setof_row, Rows, no_row, absent_row, default_row, written}
use Rattle.octet_account.specs.Flat.{a_leaf, a_wrap, a_seq, a_seqof, a_set, a_setof, an_absent, a_default, count, rows_of, member_rows, IsSmall, AreSmall, IsWithin, AreRowsWithin}
use Rattle.der_layout.specs.Rows.{listed, capped_numbers, capped_row}

capped_same : (n : ℕ) → IsSmall n → listed n ≡ n
capped_same n h = omega (arith, h)

numbers_same : (z : Numbers) → AreSmall z → capped_numbers z ≡ z
numbers_same z h =
    ap (λ q. record { identifier = q; size = listed z.size; contents = listed z.contents }) (capped_same z.identifier h.identifier_small)
    ∙ ap (λ q. record { identifier = z.identifier; size = q; contents = listed z.contents }) (capped_same z.size h.size_small)
    ∙ ap (λ q. record { identifier = z.identifier; size = z.size; contents = q }) (capped_same z.contents h.contents_small)

list_same : (p : List ℕ) → AllByRecursion IsSmall p → map listed p ≡ p
list_same [] h = refl
list_same (n ∷ p) h = ap (λ q. q ∷ map listed p) (capped_same n h.0) ∙ ap (λ q. n ∷ q) (list_same p h.1)

mutual
  pub small_rows : (n : ℕ) (a : Account) → IsWithin n a → map capped_row (rows_of a) ≡ rows_of a
  small_rows zero a h = absurd h
  small_rows (suc n) (header z leaf_row) h = ap (λ q. a_leaf q ∷ []) (numbers_same z h.0)
  small_rows (suc n) (header z (wrap_row a)) h = ap (λ q. a_wrap q ∷ map capped_row (rows_of a)) (numbers_same z h.0) ∙ ap (λ q. a_wrap z ∷ q) (small_rows n a h.1)
  small_rows (suc n) (header z (seq_row rs)) h =
      ap (λ q. a_seq q (listed (count rs)) ∷ map capped_row (member_rows rs)) (numbers_same z h.0)
      ∙ ap (λ q. a_seq z q ∷ map capped_row (member_rows rs)) (capped_same (count rs) h.1.0)
      ∙ ap (λ q. a_seq z (count rs) ∷ q) (small_members n rs h.1.1)
  small_rows (suc n) (header z (seqof_row rs)) h =
      ap (λ q. a_seqof q (listed (count rs)) ∷ map capped_row (member_rows rs)) (numbers_same z h.0)
      ∙ ap (λ q. a_seqof z q ∷ map capped_row (member_rows rs)) (capped_same (count rs) h.1.0)
      ∙ ap (λ q. a_seqof z (count rs) ∷ q) (small_members n rs h.1.1)
  small_rows (suc n) (header z (set_row rs p q)) h =
      ap (λ y. a_set y (listed (count rs)) (map listed p) (map listed q) ∷ map capped_row (member_rows rs)) (numbers_same z h.0)
      ∙ ap (λ y. a_set z y (map listed p) (map listed q) ∷ map capped_row (member_rows rs)) (capped_same (count rs) h.1.0)
      ∙ ap (λ y. a_set z (count rs) y (map listed q) ∷ map capped_row (member_rows rs)) (list_same p h.1.2)
      ∙ ap (λ y. a_set z (count rs) p y ∷ map capped_row (member_rows rs)) (list_same q h.1.3)
      ∙ ap (λ y. a_set z (count rs) p q ∷ y) (small_members n rs h.1.1)
  small_rows (suc n) (header z (setof_row rs p q)) h =
      ap (λ y. a_setof y (listed (count rs)) (map listed p) (map listed q) ∷ map capped_row (member_rows rs)) (numbers_same z h.0)
      ∙ ap (λ y. a_setof z y (map listed p) (map listed q) ∷ map capped_row (member_rows rs)) (capped_same (count rs) h.1.0)
      ∙ ap (λ y. a_setof z (count rs) y (map listed q) ∷ map capped_row (member_rows rs)) (list_same p h.1.3)
      ∙ ap (λ y. a_setof z (count rs) p y ∷ map capped_row (member_rows rs)) (list_same q h.1.4)
      ∙ ap (λ y. a_setof z (count rs) p q ∷ y) (small_members n rs h.1.1)

  small_members : (n : ℕ) (rs : Rows) → AreRowsWithin n rs → map capped_row (member_rows rs) ≡ member_rows rs
  small_members n no_row h = refl
  small_members n (absent_row rs) h = ap (λ q. an_absent ∷ q) (small_members n rs h.1)
  small_members n (default_row rs) h = ap (λ q. a_default ∷ q) (small_members n rs h.1)
  small_members n (written a rs) h = map-append capped_row (rows_of a) (member_rows rs) ∙ ap (λ q. q ++ map capped_row (member_rows rs)) (small_rows n a h.0) ∙ ap (λ q. rows_of a ++ q) (small_members n rs h.1)
