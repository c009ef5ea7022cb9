-- Where octets stop being the text of an account.
use Rattle.std.proofs.Common.{◌≡◌, ◌≤◌, ℕ, List, [], ◌∷◌, length, refl, sym, ap, subst, ◌∙◌}
use Rattle.std.specs.Prelude.{suc, Option, Some, None, MatchOption, true, is_some, IsUtf8}
use Rattle.std.specs.List.{AllByRecursion}
use Rattle.json.specs.declared.token.Token.{Token as Read}
use Rattle.json.specs.Reads.{token_of}
use Rattle.json.specs.Token.{Token, begin_array, end_array}
use Rattle.json.specs.Lex.{tokens}
use Rattle.octet_account.specs.declared.row.Row.{Row}
use Rattle.octet_account.specs.Seen.{flat}
use Rattle.account_text.specs.declared.stop.Stop.TheVariants as stops
use Rattle.account_text.specs.declared.stop.Stop.{Stop}
use Rattle.account_text.specs.Stops.{IsStop, IsStopAfter, NoRowAfter, more, all, not_array, not_row, after_all}
use Rattle.account_text.specs.proving.Tokens.{IsSmallRow, rows_first}

-- a token after all rows
pub more_after : (octets n offset : ℕ) (o : Option Read) (now next : List Token)
    → offset ≤ octets
    → MatchOption o ((now ≡ []) × (next ≡ [])) (λ t. now ≡ token_of t ∷ next)
    → is_some o ≡ true
    → IsStopAfter octets n now (stops.Behind offset)
more_after octets n offset None now next l h e = absurd (cc)
more_after octets n offset (Some t) now next l h e =
    subst (λ ts. IsStopAfter octets n ts (stops.Behind offset)) (sym h) (more l)

-- no token after all rows
pub all_after : (octets n : ℕ) (now : List Token) → now ≡ [] → IsStopAfter octets n now (stops.NotOne n)
all_after octets n now e = subst (λ ts. IsStopAfter octets n ts (stops.NotOne n)) (sym e) all

pub length_flat : (rows : List Row) → length (flat rows) ≡ length rows
length_flat [] = refl
length_flat (r ∷ rows) = ap suc (length_flat rows)

module _ (o text : List ℕ) (same : text ≡ o) (all now : List Token) (read : all ≡ tokens text) where
  pub no_array : IsUtf8 o → ((ts : List Token) → all ≡ begin_array ∷ ts → ⊥) → IsStop o stops.NotArray
  no_array utf none = not_array utf (λ ts e. none ts (read ∙ ap tokens same ∙ e))

  module _ (opened : all ≡ begin_array ∷ now) (rows : List Row) (n : ℕ) (count : n ≡ length rows) where
    begun : tokens o ≡ begin_array ∷ now
    begun = sym (ap tokens same) ∙ sym read ∙ opened

    -- more or all of an array of rows is there
    pub after_rows : (next : List Token) (s : Stop)
        → AllByRecursion IsSmallRow (flat rows)
        → now ≡ rows_first (flat rows) (end_array ∷ next)
        → IsStopAfter (length o) n next s
        → IsStop o s
    after_rows next s small h stop =
        after_all (flat rows) small (begun ∙ ap (λ us. begin_array ∷ us) h)
        (subst (λ m. IsStopAfter (length o) m next s) (count ∙ sym (length_flat rows)) stop)

    -- what comes after the rows isn't a row
    pub no_row : (offset : ℕ) → offset ≤ length o → NoRowAfter (flat rows) now → IsStop o (stops.NotRow n offset)
    no_row offset l h =
        subst (λ m. IsStop o (stops.NotRow m offset)) (length_flat rows ∙ sym count) (not_row (flat rows) begun h l)
