-- The tokens of rows in JSON.
use Rattle.std.proofs.Common.{◌≡◌, ℕ, ◌≤◌, List, [], ◌∷◌, ◌++◌, map, refl, sym, ap, ◌∙◌, arith, append_assoc, append-nil}
use Rattle.std.specs.Prelude.{codes, Some, option_and_then}
use Rattle.json.specs.Token.{Token, begin_array, end_array, string}
use Rattle.json.specs.Lex.{tokens}
use Rattle.json.specs.Json.{document, value, if_last, max_depth}
use Rattle.json.specs.Tree.{json_tokens, items_tokens, depth, items_depth}
use Rattle.json.proofs.Printed.Trees.{value-json_tokens}
use Rattle.json.proofs.Unique.Spelling.{tokens-document}
use Rattle.octet_account.specs.Flat.{FlatRow, a_leaf, a_wrap, a_seq, a_seqof, a_set, a_setof, an_absent, a_default}
use Rattle.account_text.specs.Text.{items, number_json, row_json, rows_json}
use Rattle.account_text.specs.proving.Tokens.{number_first, numbers_first, each_first, list_first, row_first, rows_first}

numbers_are : (ps : List ℕ) (ts : List Token) → items_tokens (items (map number_json ps)) ++ ts ≡ each_first ps (end_array ∷ ts)
numbers_are [] ts = refl
numbers_are (p ∷ ps) ts = ap (number_first p) (numbers_are ps ts)

abbrev places_tokens : List ℕ → List Token
places_tokens p = items_tokens (items (map number_json p))

two_lists : (p q : List ℕ) (ts : List Token)
    → (places_tokens p ++ (begin_array ∷ (places_tokens q ++ end_array ∷ []))) ++ ts ≡ each_first p (end_array ∷ list_first q (end_array ∷ ts))
two_lists p q ts =
    append_assoc (places_tokens p) (begin_array ∷ (places_tokens q ++ end_array ∷ [])) ts
    ∙ ap (λ us. places_tokens p ++ (begin_array ∷ us)) (append_assoc (places_tokens q) (end_array ∷ []) ts ∙ numbers_are q (end_array ∷ ts))
    ∙ numbers_are p (list_first q (end_array ∷ ts))

row_are : (r : FlatRow) (ts : List Token) → json_tokens (row_json r) ++ ts ≡ row_first r ts
row_are (a_set z n p q) ts = ap (λ us. begin_array ∷ string (codes "set") ∷ numbers_first z (number_first n (begin_array ∷ us))) (two_lists p q ts)
row_are (a_setof z n p q) ts = ap (λ us. begin_array ∷ string (codes "setof") ∷ numbers_first z (number_first n (begin_array ∷ us))) (two_lists p q ts)
row_are q ts = refl

rows_are : (rs : List FlatRow) → items_tokens (items (map row_json rs)) ≡ rows_first rs (end_array ∷ [])
rows_are [] = refl
rows_are (r ∷ rs) = row_are r (items_tokens (items (map row_json rs))) ∙ ap (row_first r) (rows_are rs)

pub json_is : (rs : List FlatRow) → json_tokens (rows_json rs) ≡ begin_array ∷ rows_first rs (end_array ∷ [])
json_is rs = ap (λ ts. begin_array ∷ ts) (rows_are rs)

-- ---- how deep

numbers_depth : (ps : List ℕ) → items_depth (items (map number_json ps)) ≤ 0
numbers_depth [] = omega arith
numbers_depth (p ∷ ps) = omega (arith, numbers_depth ps)

row_depth : (r : FlatRow) → depth (row_json r) ≤ 2
row_depth (a_set z n p q) = omega (arith, numbers_depth p, numbers_depth q)
row_depth (a_setof z n p q) = omega (arith, numbers_depth p, numbers_depth q)
row_depth q = omega arith

rows_depth : (rs : List FlatRow) → items_depth (items (map row_json rs)) ≤ 2
rows_depth [] = omega arith
rows_depth (r ∷ rs) = omega (arith, row_depth r, rows_depth rs)

-- ---- texts and tokens

pub to_tokens : (text : List ℕ) (rs : List FlatRow) → document text ≡ Some (rows_json rs) → tokens text ≡ begin_array ∷ rows_first rs (end_array ∷ [])
to_tokens text rs e = tokens-document text (rows_json rs) e ∙ json_is rs

pub from_tokens : (text : List ℕ) (rs : List FlatRow) → tokens text ≡ begin_array ∷ rows_first rs (end_array ∷ []) → document text ≡ Some (rows_json rs)
from_tokens text rs e =
    ap (option_and_then (λ p. if_last p.0 p.1))
    (ap (value max_depth) (e ∙ sym (json_is rs) ∙ sym (append-nil (json_tokens (rows_json rs))))
    ∙ value-json_tokens (rows_json rs) max_depth [] (omega (arith, rows_depth rs)))
