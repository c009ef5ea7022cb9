-- A text is that of one account at most.
use Rattle.std.proofs.Common.{◌≡◌, ℕ, List, [], ◌∷◌, sym, ap, ◌∙◌, subst}
use Rattle.std.specs.Prelude.{Option, Some, None, MatchOption, true, false, is_some}
use Rattle.std.specs.List.{AllByRecursion}
use Rattle.json.specs.declared.token.Token.{Token as Read}
use Rattle.json.specs.Reads.{token_of}
use Rattle.json.specs.Token.{Token}
use Rattle.json.specs.Json.{document}
use Rattle.encodings.specs.Account.{Account}
use Rattle.octet_account.specs.Flat.{FlatRow, AreRows}
use Rattle.account_text.specs.Text.{rows_json, IsAccountText}
use Rattle.account_text.specs.proving.Tokens.{IsSmallRow}
use Rattle.account_text.proofs.Json.{to_tokens}
use Rattle.account_text.proofs.Injective.{one_list_of_rows}
use Rattle.account_text.proofs.Small.{small}

abbrev after : List Token → List Token
after [] = []
after (t ∷ ts) = ts

pub one_account_of : ((a b : Account) (rs : List FlatRow) → AreRows a rs → AreRows b rs → a ≡ b) → (text : List ℕ) (a b : Account) → IsAccountText text a → IsAccountText text b → a ≡ b
one_account_of one text a b h k =
    let e = ap after (sym (to_tokens text h.rows h.read) ∙ to_tokens text k.rows k.read) in
    let f = one_list_of_rows h.rows k.rows [] [] (small h.are) (small k.are) e in
    one a b h.rows h.are (subst (AreRows b) (sym f.0) k.are)

pub same_rows : (text : List ℕ) (rs ss : List FlatRow) → AllByRecursion IsSmallRow rs → AllByRecursion IsSmallRow ss
    → document text ≡ Some (rows_json rs) → document text ≡ Some (rows_json ss) → rs ≡ ss
same_rows text rs ss h k e f = (one_list_of_rows rs ss [] [] h k (ap after (sym (to_tokens text rs e) ∙ to_tokens text ss f))).0

-- ---- the end of the text

pub ended : (o : Option Read) (now next : List Token) → MatchOption o ((now ≡ []) × (next ≡ [])) (λ t. now ≡ token_of t ∷ next) → is_some o ≡ false → now ≡ []
ended None now next h e = h.0
ended (Some t) now next h e = absurd (cc)

pub not_ended : (o : Option Read) (now next : List Token) → MatchOption o ((now ≡ []) × (next ≡ [])) (λ t. now ≡ token_of t ∷ next) → is_some o ≡ true → now ≡ [] → ⊥
not_ended None now next h e f = absurd (cc)
not_ended (Some t) now next h e f = absurd (cc)
