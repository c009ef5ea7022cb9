-- What readers of a part in parentheses guarantee.
use Rattle.std.proofs.Common.{◌≡◌, ℕ, Bool, true, false, List, [], ◌∷◌, Ok, Err, refl, sym, subst}
use Rattle.text.specs.declared.token.Mark.TheVariants.{OpenParenthesis, CloseParenthesis}
use Rattle.grammar.specs.Lexeme.{Lexeme, Mark}
use Rattle.grammar.specs.Grammar.{Grammar, mark, only as lexeme}
use Rattle.grammar.specs.Reading.{Limit, Read, Reader, ◌>>=◌}
use Rattle.grammar.specs.Laws.{then_read, after_read}
use Rattle.grammar.specs.Lists.{no_lexeme}
use Rattle.grammar.specs.Rules.{Owes, rule_token, rule_seq, rule_pair, rule_read, made, one_at, one_is}
use Rattle.grammar.specs.Grammar.{parens}
use Rattle.grammar.specs.Reading.{is_open, open_at, close_at, parens_at}

open_one : (t : Lexeme) → is_open t ≡ true → t ≡ Mark OpenParenthesis
open_one (Mark OpenParenthesis) e = refl
open_one t e = absurd cc

abbrev pub is_close : Lexeme → Bool
is_close (Mark CloseParenthesis) = true
is_close t = false

close_one : (t : Lexeme) → is_close t ≡ true → t ≡ Mark CloseParenthesis
close_one (Mark CloseParenthesis) e = refl
close_one t e = absurd cc

open_same : (ts : List Lexeme) → one_at is_open ts ≡ open_at ts
unfolding open_at
open_same [] = refl
open_same (Mark OpenParenthesis ∷ ts) = refl
open_same (t ∷ ts) = refl

close_same : (ts : List Lexeme) → one_at is_close ts ≡ close_at ts
unfolding close_at
close_same [] = refl
close_same (Mark CloseParenthesis ∷ ts) = refl
close_same (t ∷ ts) = refl

close_only : (ends : Lexeme → Bool)
    → ends (Mark CloseParenthesis) ≡ false
    → (t : Lexeme)
    → is_close t ≡ true
    → ends t ≡ false
close_only ends e t h = subst (λ (t : Lexeme). ends t ≡ false) (sym (close_one t h)) e

module _ {s f : Type 0} {over : Limit → ℕ} {within : Limit → Type 0} where
  rule_open : Owes s f over within (lexeme (Mark OpenParenthesis)) is_open no_lexeme (one_at is_open)
  rule_open = rule_token (one_is (Mark OpenParenthesis) is_open refl open_one)

  rule_close : Owes s f over within (lexeme (Mark CloseParenthesis)) is_close no_lexeme (one_at is_close)
  rule_close = rule_token (one_is (Mark CloseParenthesis) is_close refl close_one)

  pub rule_parens : {A : Type 0} {a : Grammar A} {starts ends : Lexeme → Bool} {read : Reader A}
      → Owes s f over within a starts ends read
      → ends (Mark CloseParenthesis) ≡ false
      → Owes s f over within (parens a) is_open no_lexeme (parens_at read)
  unfolding parens_at
  rule_parens {A} {a} {starts} {ends} {read} k e =
      rule_read (parens_at read) same
      (rule_seq (λ p. p.1.0) (rule_read open_at open_same rule_open)
      (rule_pair a (mark CloseParenthesis) k.solid
      (rule_seq (λ p. p) k (rule_read close_at close_same rule_close) (close_only ends e))) (λ t h. refl))
    where
      closing : (r : Read (Unit {0})) (x : A)
          → made (λ (p : A × Unit {0}). p.0) (made (λ (y : Unit {0}). (x, y)) r) ≡ made (λ (y : Unit {0}). x) r
      closing (Ok y) x = refl
      closing (Err f) x = refl

      inside : (r : Read A)
          →
          made (λ (p : A × Unit {0}). p.0) (after_read (λ (p : A × Unit {0}). p) r close_at) ≡ after_read
          (λ (p : A × Unit {0}). p.0) r close_at
      inside (Ok x) = closing (close_at x.1) x.0
      inside (Err f) = refl

      opening : (r : Read (Unit {0}))
          →
          after_read (λ (p : Unit {0} × (A × Unit {0})). p.1.0) r (then_read (λ p. p) read close_at)
          ≡ (r >>= λ o. after_read (λ (p : A × Unit {0}). p.0) (read o.1) close_at)
      opening (Ok o) = inside (read o.1)
      opening (Err f) = refl

      same : (ts : List Lexeme)
          →
          then_read (λ (p : Unit {0} × (A × Unit {0})). p.1.0) open_at (then_read (λ p. p) read close_at) ts
          ≡ parens_at read ts
      same ts = opening (open_at ts)
