-- Rows are read from their tokens in one way.
use Rattle.std.proofs.Common.{◌≡◌, ℕ, ◌==◌, cond, List, [], ◌∷◌, length, get_or, refl, sym, ap, ◌∙◌, arith}
use Rattle.std.specs.Prelude.{decimal}
use Rattle.std.specs.List.{AllByRecursion}
use Rattle.std.specs.Str.Parse.{digits_value}
use Rattle.std.proofs.lemmas.Fmt.{decimal_is_IsNumeral}
use Rattle.json.specs.Token.{Token, begin_array, end_array, begin_object, end_object, key, string, number, boolean, null, bad}
use Rattle.encodings.specs.Account.{Numbers}
use Rattle.octet_account.specs.Flat.{FlatRow, a_leaf, a_wrap, a_seq, a_seqof, a_set, a_setof, an_absent, a_default, IsSmall, AreSmall}
use Rattle.account_text.specs.declared.kind.Kind.{Kind}
use Rattle.account_text.specs.declared.kind.Kind.TheVariants.{Leaf, Wrap, Seq, SeqOf, Set, SetOf, Absent, Default}
use Rattle.account_text.specs.proving.Tokens.{kind_name, kind_of, number_first, numbers_first, each_first, list_first, listed_first, row_first, rows_first, IsSmallRow}

abbrev rest : List Token → List Token
rest [] = []
rest (t ∷ ts) = ts

abbrev number_in : Token → ℕ
number_in (number s) = digits_value 10 s
number_in q = 0

abbrev number_at : List Token → ℕ
number_at [] = 0
number_at (t ∷ ts) = number_in t

abbrev text_in : Token → List ℕ
text_in (string s) = s
text_in q = []

abbrev text_at : List Token → List ℕ
text_at [] = []
text_at (t ∷ ts) = text_in t

abbrev numbers_at : List Token → Numbers
numbers_at ts = record { identifier = number_at ts; size = number_at (rest ts); contents = number_at (rest (rest ts)) }

abbrev each_at : List Token → List ℕ × List Token
each_at [] = ([], [])
each_at (begin_object ∷ ts) = ([], begin_object ∷ ts)
each_at (end_object ∷ ts) = ([], end_object ∷ ts)
each_at (begin_array ∷ ts) = ([], begin_array ∷ ts)
each_at (end_array ∷ ts) = ([], ts)
each_at (key s ∷ ts) = ([], ts)
each_at (string s ∷ ts) = ([], ts)
each_at (number s ∷ ts) = (digits_value 10 s ∷ (each_at ts).0, (each_at ts).1)
each_at (boolean b ∷ ts) = ([], ts)
each_at (null ∷ ts) = ([], ts)
each_at (bad ∷ ts) = ([], ts)

abbrev after_numbers : List Token → List Token
after_numbers ts = rest (rest (rest ts))

-- the count and the lists of a set, before what makes a row of them
abbrev placed_at : (ℕ → List ℕ → List ℕ → FlatRow) → List Token → FlatRow × List Token
placed_at row ts =
    let p = each_at (rest (rest ts)) in
    let q = each_at (rest p.1) in
    (row (number_at ts) p.0 q.0, q.1)

abbrev listed_at : Kind → List Token → FlatRow × List Token
listed_at Leaf ts = (a_leaf (numbers_at ts), after_numbers ts)
listed_at Wrap ts = (a_wrap (numbers_at ts), after_numbers ts)
listed_at Seq ts = (a_seq (numbers_at ts) (number_at (after_numbers ts)), rest (after_numbers ts))
listed_at SeqOf ts = (a_seqof (numbers_at ts) (number_at (after_numbers ts)), rest (after_numbers ts))
listed_at Set ts = placed_at (a_set (numbers_at ts)) (after_numbers ts)
listed_at SetOf ts = placed_at (a_setof (numbers_at ts)) (after_numbers ts)
listed_at Absent ts = (an_absent, ts)
listed_at Default ts = (a_default, ts)

abbrev kind_with : List ℕ → Kind
kind_with s =
    cond (length s == 4) (cond (get_or s 0 0 == 108) Leaf Wrap)
    (cond (length s == 3) (cond (get_or s 2 0 == 113) Seq Set)
    (cond (length s == 5) (cond (get_or s 2 0 == 113) SeqOf SetOf)
    (cond (length s == 6) Absent Default)))

kind_back : (k : Kind) → kind_with (kind_name k) ≡ k
kind_back Leaf = refl
kind_back q = refl

number_back : (n : ℕ) → IsSmall n → digits_value 10 (decimal n) ≡ n
number_back n h = (decimal_is_IsNumeral n (omega arith)).1

numbers_back : (z : Numbers) (ts : List Token) → AreSmall z → numbers_at (numbers_first z ts) ≡ z
numbers_back z ts h =
    ap (λ n. record { identifier = n; size = digits_value 10 (decimal z.size); contents = digits_value 10 (decimal z.contents) }) (number_back z.identifier h.identifier_small)
    ∙ ap (λ n. record { identifier = z.identifier; size = n; contents = digits_value 10 (decimal z.contents) }) (number_back z.size h.size_small)
    ∙ ap (λ n. record { identifier = z.identifier; size = z.size; contents = n }) (number_back z.contents h.contents_small)

each_back : (ns : List ℕ) (ts : List Token) → AllByRecursion IsSmall ns → each_at (each_first ns (end_array ∷ ts)) ≡ (ns, ts)
each_back [] ts h = refl
each_back (n ∷ ns) ts h =
    ap (λ p. (digits_value 10 (decimal n) ∷ p.0, p.1)) (each_back ns ts h.1)
    ∙ ap (λ m. (m ∷ ns, ts)) (number_back n h.0)

placed_back : (row : ℕ → List ℕ → List ℕ → FlatRow) (n : ℕ) (p q : List ℕ) (ts : List Token)
    → IsSmall n → AllByRecursion IsSmall p → AllByRecursion IsSmall q
    → placed_at row (number_first n (list_first p (list_first q ts))) ≡ (row n p q, ts)
placed_back row n p q ts hn hp hq =
    ap (λ x. (row (digits_value 10 (decimal n)) x.0 (each_at (rest x.1)).0, (each_at (rest x.1)).1)) (each_back p (list_first q ts) hp)
    ∙ ap (λ x. (row (digits_value 10 (decimal n)) p x.0, x.1)) (each_back q ts hq)
    ∙ ap (λ m. (row m p q, ts)) (number_back n hn)

listed_back : (r : FlatRow) (ts : List Token) → IsSmallRow r → listed_at (kind_of r) (listed_first r ts) ≡ (r, ts)
listed_back (a_leaf z) ts h = ap (λ y. (a_leaf y, ts)) (numbers_back z ts h)
listed_back (a_wrap z) ts h = ap (λ y. (a_wrap y, ts)) (numbers_back z ts h)
listed_back (a_seq z n) ts h =
    ap (λ y. (a_seq y (digits_value 10 (decimal n)), ts)) (numbers_back z (number_first n ts) h.0)
    ∙ ap (λ m. (a_seq z m, ts)) (number_back n h.1)
listed_back (a_seqof z n) ts h =
    ap (λ y. (a_seqof y (digits_value 10 (decimal n)), ts)) (numbers_back z (number_first n ts) h.0)
    ∙ ap (λ m. (a_seqof z m, ts)) (number_back n h.1)
listed_back (a_set z n p q) ts h =
    let us = number_first n (list_first p (list_first q ts)) in
    ap (λ y. placed_at (a_set y) us) (numbers_back z us h.0) ∙ placed_back (a_set z) n p q ts h.1.0 h.1.1.0 h.1.1.1
listed_back (a_setof z n p q) ts h =
    let us = number_first n (list_first p (list_first q ts)) in
    ap (λ y. placed_at (a_setof y) us) (numbers_back z us h.0) ∙ placed_back (a_setof z) n p q ts h.1.0 h.1.1.0 h.1.1.1
listed_back an_absent ts h = refl
listed_back a_default ts h = refl

abbrev row_at : List Token → FlatRow × List Token
row_at ts = listed_at (kind_with (text_at (rest ts))) (rest (rest ts))

row_back : (r : FlatRow) (ts : List Token) → IsSmallRow r → row_at (row_first r ts) ≡ (r, end_array ∷ ts)
row_back r ts h = ap (λ k. listed_at k (listed_first r (end_array ∷ ts))) (kind_back (kind_of r)) ∙ listed_back r (end_array ∷ ts) h

pub one_row : (r s : FlatRow) (ts us : List Token) → IsSmallRow r → IsSmallRow s → row_first r ts ≡ row_first s us → (r ≡ s) × (ts ≡ us)
one_row r s ts us h k e =
    let f : (r, end_array ∷ ts) ≡ (s, end_array ∷ us) = sym (row_back r ts h) ∙ ap row_at e ∙ row_back s us k in
    (ap (λ x. x.0) f, ap (λ x. rest x.1) f)

pub one_list_of_rows : (rs ss : List FlatRow) (ts us : List Token) → AllByRecursion IsSmallRow rs → AllByRecursion IsSmallRow ss
    → rows_first rs (end_array ∷ ts) ≡ rows_first ss (end_array ∷ us) → (rs ≡ ss) × (ts ≡ us)
one_list_of_rows [] [] ts us h k e = (refl, ap rest e)
one_list_of_rows [] (s ∷ ss) ts us h k e = absurd (cc)
one_list_of_rows (r ∷ rs) [] ts us h k e = absurd (cc)
one_list_of_rows (r ∷ rs) (s ∷ ss) ts us h k e =
    let a = one_row r s (rows_first rs (end_array ∷ ts)) (rows_first ss (end_array ∷ us)) h.0 k.0 e in
    let b = one_list_of_rows rs ss ts us h.1 k.1 a.1 in
    (ap (λ x. x ∷ rs) a.0 ∙ ap (λ xs. s ∷ xs) b.0, b.1)

pub after_list : (p q : List ℕ) (ts us : List Token) → AllByRecursion IsSmall p → AllByRecursion IsSmall q → list_first p ts ≡ list_first q us → ts ≡ us
after_list p q ts us h k e = ap (λ x. x.1) (sym (each_back p ts h) ∙ ap (λ xs. each_at (rest xs)) e ∙ each_back q us k)

-- ---- the parts of a row

pub row_parts : (now next ts : List Token) (k : Kind) (r : FlatRow) → now ≡ begin_array ∷ string (kind_name k) ∷ next → now ≡ row_first r ts
    → (kind_of r ≡ k) × (next ≡ listed_first r (end_array ∷ ts))
row_parts now next ts k r e f =
    let g = sym e ∙ f in
    (sym (kind_back (kind_of r)) ∙ ap (λ xs. kind_with (text_at (rest xs))) (sym g) ∙ kind_back k, ap (λ xs. rest (rest xs)) g)

pub after_listed : (r s : FlatRow) (ts us : List Token) → IsSmallRow r → IsSmallRow s → kind_of r ≡ kind_of s → listed_first r ts ≡ listed_first s us → ts ≡ us
after_listed r s ts us h k same e =
    ap (λ x. x.1) (sym (listed_back r ts h) ∙ ap (λ xs. listed_at (kind_of r) xs) e ∙ ap (λ l. listed_at l (listed_first s us)) same ∙ listed_back s us k)
