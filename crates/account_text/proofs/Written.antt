-- The text that has been written is that of the account.
use Rattle.std.proofs.Common.{◌≡◌, ℕ, List, [], ◌∷◌, ◌++◌, sym, ap, ◌∙◌}
use Rattle.json.specs.Token.{Token, begin_array, end_array}
use Rattle.json.specs.Lex.{tokens}
use Rattle.json.specs.Print.{print}
use Rattle.encodings.specs.Account.{Account}
use Rattle.octet_account.specs.Flat.{FlatRow, AreRows}
use Rattle.account_text.specs.Text.{compact_text, IsAccountText}
use Rattle.account_text.specs.proving.Tokens.{rows_first}
use Rattle.account_text.proofs.Json.{json_is, from_tokens}
use Rattle.account_text.proofs.Apart.{rows_apart}

pub whole_tokens : (rs : List FlatRow) (t0 t1 t2 t3 : List Token) → t0 ≡ [] → t1 ≡ t0 ++ begin_array ∷ [] → t2 ≡ t1 ++ rows_first rs [] → t3 ≡ t2 ++ end_array ∷ []
    → t3 ≡ begin_array ∷ rows_first rs (end_array ∷ [])
whole_tokens rs t0 t1 t2 t3 h0 h1 h2 h3 =
    h3
    ∙ ap (λ us. us ++ end_array ∷ []) (h2 ∙ ap (λ us. us ++ rows_first rs []) (h1 ∙ ap (λ us. us ++ begin_array ∷ []) h0))
    ∙ ap (λ us. begin_array ∷ us) (rows_apart rs (end_array ∷ []))

pub printed : (s before : List ℕ) (ts : List Token) → before ≡ [] → s ≡ before ++ print ts → s ≡ print ts
printed s before ts none e = e ∙ ap (λ b. b ++ print ts) none

pub compact : (s : List ℕ) (ts : List Token) (rs : List FlatRow) → s ≡ print ts → ts ≡ begin_array ∷ rows_first rs (end_array ∷ []) → s ≡ compact_text rs
compact s ts rs e t = e ∙ ap print (t ∙ sym (json_is rs))

pub reads_back : (s : List ℕ) (ts : List Token) (rs : List FlatRow) (a : Account) → AreRows a rs → s ≡ print ts → tokens (print ts) ≡ ts
    → ts ≡ begin_array ∷ rows_first rs (end_array ∷ []) → IsAccountText s a
reads_back s ts rs a are e back t = record { rows = rs; are = are; read = from_tokens s rs (ap tokens e ∙ back ∙ t) }
