-- Tokens are written one after the other.
use Rattle.std.proofs.Common.{◌≡◌, ℕ, List, [], ◌∷◌, ◌++◌, refl, sym, ap, ◌∙◌, append_assoc}
use Rattle.std.specs.Prelude.{Result, Ok, Err, OnOk}
use Rattle.json.specs.Token.{Token, begin_array, end_array, string}
use Rattle.octet_account.specs.Flat.{FlatRow, a_leaf, a_wrap, a_seq, a_seqof, a_set, a_setof, an_absent, a_default}
use Rattle.account_text.specs.proving.Tokens.{number_first, numbers_first, all_first, each_first, list_first, kind_name, kind_of, listed_first, row_first, rows_first}
use Rattle.account_text.proofs.Reading.{all_more}

module _ {A : Type 0} (first : A → List Token → List Token) (apart : (x : A) (us ts : List Token) → first x us ++ ts ≡ first x (us ++ ts)) where
  pub all_apart : (xs : List A) (us ts : List Token) → all_first first xs us ++ ts ≡ all_first first xs (us ++ ts)
  all_apart [] us ts = refl
  all_apart (x ∷ xs) us ts = apart x (all_first first xs us) ts ∙ ap (first x) (all_apart xs us ts)

  pub one_after : (xs : List A) (x : A) → all_first first xs [] ++ first x [] ≡ all_first first (xs ++ x ∷ []) []
  one_after xs x = all_apart xs [] (first x []) ∙ sym (all_more first (λ _. Unit {0}) xs x [])

number_apart : (n : ℕ) (us ts : List Token) → number_first n us ++ ts ≡ number_first n (us ++ ts)
number_apart n us ts = refl

pub number_after : (ns : List ℕ) (n : ℕ) → each_first ns [] ++ number_first n [] ≡ each_first (ns ++ n ∷ []) []
number_after ns n = one_after number_first number_apart ns n

pub each_apart : (ns : List ℕ) (us ts : List Token) → each_first ns us ++ ts ≡ each_first ns (us ++ ts)
each_apart ns us ts = all_apart number_first number_apart ns us ts

pub list_apart : (ns : List ℕ) (us ts : List Token) → list_first ns us ++ ts ≡ list_first ns (us ++ ts)
list_apart ns us ts = ap (λ xs. begin_array ∷ xs) (each_apart ns (end_array ∷ us) ts)

lists_apart : (p q : List ℕ) (us ts : List Token) → list_first p (list_first q us) ++ ts ≡ list_first p (list_first q (us ++ ts))
lists_apart p q us ts = list_apart p (list_first q us) ts ∙ ap (list_first p) (list_apart q us ts)

pub listed_apart : (r : FlatRow) (us ts : List Token) → listed_first r us ++ ts ≡ listed_first r (us ++ ts)
listed_apart (a_set z n p q) us ts = ap (λ xs. numbers_first z (number_first n xs)) (lists_apart p q us ts)
listed_apart (a_setof z n p q) us ts = ap (λ xs. numbers_first z (number_first n xs)) (lists_apart p q us ts)
listed_apart q us ts = refl

row_apart : (r : FlatRow) (us ts : List Token) → row_first r us ++ ts ≡ row_first r (us ++ ts)
row_apart r us ts = ap (λ xs. begin_array ∷ string (kind_name (kind_of r)) ∷ xs) (listed_apart r (end_array ∷ us) ts)

pub row_after : (rs : List FlatRow) (r : FlatRow) → rows_first rs [] ++ row_first r [] ≡ rows_first (rs ++ r ∷ []) []
row_after rs r = one_after row_first row_apart rs r

pub rows_apart : (rs : List FlatRow) (ts : List Token) → rows_first rs [] ++ ts ≡ rows_first rs ts
rows_apart rs ts = all_apart row_first row_apart rs [] ts

-- ---- one call after the other

pub next_ok : {E : Type 0} (r : Result (Unit {0}) E) (old mid now xs ys all : List Token)
    → mid ≡ old ++ xs → OnOk r (now ≡ mid ++ ys) → xs ++ ys ≡ all → OnOk r (now ≡ old ++ all)
next_ok (Ok u) old mid now xs ys all e h f = h ∙ ap (λ us. us ++ ys) e ∙ append_assoc old xs ys ∙ ap (λ us. old ++ us) f
next_ok (Err x) old mid now xs ys all e h f = tt

pub then : (old mid now xs ys all : List Token) → mid ≡ old ++ xs → now ≡ mid ++ ys → xs ++ ys ≡ all → now ≡ old ++ all
then old mid now xs ys all e h f = h ∙ ap (λ us. us ++ ys) e ∙ append_assoc old xs ys ∙ ap (λ us. old ++ us) f
