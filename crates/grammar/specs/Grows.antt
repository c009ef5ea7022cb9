-- A grammar that allows more than another.
use Rattle.std.proofs.Common.{◌≡◌, ℕ, zero, suc, Option, Some, None, inl, inr, Bool, true, List, [], ◌∷◌}
use Rattle.text.specs.declared.token.Mark.TheVariants.{Colon, Comma, Ellipsis, OpenBrace, CloseBrace, OpenParenthesis, CloseParenthesis, OpenVersion, CloseVersion}
use Rattle.grammar.specs.Lexeme.{Lexeme, Mark}
use Rattle.grammar.specs.Grammar.{Grammar, number_of, ◌∙◌, ◌∣◌, ◌⇒◌, IsMany, many, only, mark, optional, preceded, listed, braces, parens, cut_off, opens, marked, extensible, rootless, version, addition}

pub record Grows {A : Type 0} (a b : Grammar A) : Type 0 where
  pub is : (x : A) (u : List Lexeme) → a.Is x u → b.Is x u
  pub on : (u : List Lexeme) → a.IsPrefix u → b.IsPrefix u

pub same_grows : {A : Type 0} (a : Grammar A) → Grows a a
same_grows a = record { is = λ x u h. h; on = λ u h. h }

pub number_grows : (fits fits' : ℕ → Bool)
    → ((n : ℕ) → fits n ≡ true → fits' n ≡ true)
    → Grows (number_of fits) (number_of fits')
number_grows fits fits' grows = record { is = λ n u h. (grows n h.0, h.1); on = on }
  where
    on : (u : List Lexeme) → (number_of fits).IsPrefix u → (number_of fits').IsPrefix u
    on u (inl e) = inl e
    on u (inr (n, f, e)) = inr (n, grows n f, e)

pub seq_grows : {A B : Type 0} (a a' : Grammar A) (b b' : Grammar B) → Grows a a' → Grows b b' → Grows (a ∙ b) (a' ∙ b')
seq_grows {A} {B} a a' b b' ga gb =
    record { is = λ x u h. (h.0, h.1, h.2, ga.is x.0 h.0 h.3, gb.is x.1 h.1 h.4); on = on }
  where
    on : (u : List Lexeme) → (a ∙ b).IsPrefix u → (a' ∙ b').IsPrefix u
    on u (inl h) = inl (ga.on u h)
    on u (inr (x, v, w, e, ha, hb)) = inr (x, v, w, e, ga.is x v ha, gb.on w hb)

pub made_grows : {A B : Type 0} (a a' : Grammar A) (f : A → B) → Grows a a' → Grows (a ⇒ f) (a' ⇒ f)
made_grows a a' f g = record { is = λ y u h. (h.0, h.1, g.is h.0 u h.2); on = g.on }

pub either_grows : {A : Type 0} (a a' b b' : Grammar A) → Grows a a' → Grows b b' → Grows (a ∣ b) (a' ∣ b')
either_grows {A} a a' b b' ga gb = record { is = is; on = on }
  where
    is : (x : A) (u : List Lexeme) → (a ∣ b).Is x u → (a' ∣ b').Is x u
    is x u (inl h) = inl (ga.is x u h)
    is x u (inr h) = inr (gb.is x u h)

    on : (u : List Lexeme) → (a ∣ b).IsPrefix u → (a' ∣ b').IsPrefix u
    on u (inl h) = inl (ga.on u h)
    on u (inr h) = inr (gb.on u h)

many_are : {A : Type 0} (a a' : Grammar A)
    → Grows a a'
    → (xs : List A) (u : List Lexeme)
    → IsMany a xs u
    → IsMany a' xs u
many_are a a' g [] u h = h
many_are a a' g (x ∷ xs) u (v, w, e, hv, hw) = (v, w, e, g.is x v hv, many_are a a' g xs w hw)

pub many_grows : {A : Type 0} (a a' : Grammar A) → Grows a a' → Grows (many a) (many a')
many_grows a a' g = record {
  is = many_are a a' g;
  on =
      λ u h. (h.0, h.1, h.2, h.3, many_are a a' g h.0 h.1 h.4, g.on h.2 h.5);
}

pub preceded_grows : {A : Type 0} (t : Lexeme) (a a' : Grammar A) → Grows a a' → Grows (preceded t a) (preceded t a')
preceded_grows t a a' g = made_grows (only t ∙ a) (only t ∙ a') (λ p. p.1)
    (seq_grows (only t) (only t) a a' (same_grows (only t)) g)

pub listed_grows : {A : Type 0} (a a' : Grammar A) → Grows a a' → Grows (listed a) (listed a')
listed_grows a a' g =
    made_grows (a ∙ many (preceded (Mark Comma) a)) (a' ∙ many (preceded (Mark Comma) a')) (λ p. p.0 ∷ p.1)
    (seq_grows a a' (many (preceded (Mark Comma) a)) (many (preceded (Mark Comma) a')) g
    (many_grows (preceded (Mark Comma) a) (preceded (Mark Comma) a') (preceded_grows (Mark Comma) a a' g)))

pub braces_grows : {A : Type 0} (a a' : Grammar A) → Grows a a' → Grows (braces a) (braces a')
braces_grows a a' g =
    made_grows (mark OpenBrace ∙ (a ∙ mark CloseBrace)) (mark OpenBrace ∙ (a' ∙ mark CloseBrace)) (λ p. p.1.0)
    (seq_grows (mark OpenBrace) (mark OpenBrace) (a ∙ mark CloseBrace) (a' ∙ mark CloseBrace)
    (same_grows (mark OpenBrace)) (seq_grows a a' (mark CloseBrace) (mark CloseBrace) g
    (same_grows (mark CloseBrace))))

pub optional_grows : {A : Type 0} (a a' : Grammar A) → Grows a a' → Grows (optional a) (optional a')
optional_grows {A} a a' g = record { is = is; on = on }
  where
    is : (o : Option A) (u : List Lexeme) → (optional a).Is o u → (optional a').Is o u
    is None u h = h
    is (Some x) u h = g.is x u h

    on : (u : List Lexeme) → (optional a).IsPrefix u → (optional a').IsPrefix u
    on u (inl e) = inl e
    on u (inr h) = inr (g.on u h)

pub parens_grows : {A : Type 0} (a a' : Grammar A) → Grows a a' → Grows (parens a) (parens a')
parens_grows a a' g =
    made_grows (mark OpenParenthesis ∙ (a ∙ mark CloseParenthesis))
    (mark OpenParenthesis ∙ (a' ∙ mark CloseParenthesis)) (λ p. p.1.0)
    (seq_grows (mark OpenParenthesis) (mark OpenParenthesis) (a ∙ mark CloseParenthesis) (a' ∙ mark CloseParenthesis)
    (same_grows (mark OpenParenthesis))
    (seq_grows a a' (mark CloseParenthesis) (mark CloseParenthesis) g (same_grows (mark CloseParenthesis))))

pub opens_grows : {A : Type 0} (n : ℕ) (a a' : Grammar A) → Grows a a' → Grows (opens n a) (opens n a')
opens_grows zero a a' g = same_grows cut_off
opens_grows (suc n) a a' g = g

-- ---- lists with an extension marker

pub marked_grows : {B : Type 0} (b b' : Grammar B) → Grows b b' → Grows (marked b) (marked b')
marked_grows b b' g = preceded_grows (Mark Ellipsis) (many (preceded (Mark Comma) b)) (many (preceded (Mark Comma) b'))
    (many_grows (preceded (Mark Comma) b) (preceded (Mark Comma) b') (preceded_grows (Mark Comma) b b' g))

pub extensible_grows : {A B : Type 0} (a a' : Grammar A) (b b' : Grammar B)
    → Grows a a'
    → Grows b b'
    → Grows (extensible a b) (extensible a' b')
extensible_grows a a' b b' ga gb =
    seq_grows (listed a) (listed a') (optional (preceded (Mark Comma) (marked b)))
    (optional (preceded (Mark Comma) (marked b'))) (listed_grows a a' ga)
    (optional_grows (preceded (Mark Comma) (marked b)) (preceded (Mark Comma) (marked b'))
    (preceded_grows (Mark Comma) (marked b) (marked b') (marked_grows b b' gb)))

pub rootless_grows : {A B : Type 0} (a a' : Grammar A) (b b' : Grammar B)
    → Grows a a'
    → Grows b b'
    → Grows (rootless a b) (rootless a' b')
rootless_grows {A} a a' b b' ga gb = either_grows (marked b ⇒ (λ ys. ([], Some ys))) (marked b' ⇒ (λ ys. ([], Some ys)))
    (extensible a b) (extensible a' b') (made_grows (marked b) (marked b') (λ ys. ([], Some ys)) (marked_grows b b' gb))
    (extensible_grows a a' b b' ga gb)

pub version_grows : (fits fits' : ℕ → Bool)
    → ((n : ℕ) → fits n ≡ true → fits' n ≡ true)
    → Grows (version fits) (version fits')
version_grows fits fits' grows = optional_grows (number_of fits ∙ mark Colon) (number_of fits' ∙ mark Colon)
    (seq_grows (number_of fits) (number_of fits') (mark Colon) (mark Colon) (number_grows fits fits' grows)
    (same_grows (mark Colon)))

pub addition_grows : {A : Type 0} (fits fits' : ℕ → Bool)
    → ((n : ℕ) → fits n ≡ true → fits' n ≡ true)
    → (a a' : Grammar A)
    → Grows a a'
    → Grows (addition fits a) (addition fits' a')
addition_grows fits fits' grows a a' g =
    either_grows (a ⇒ inl) (a' ⇒ inl)
    (preceded (Mark OpenVersion) (version fits ∙ (listed a ∙ mark CloseVersion)) ⇒ (λ p. inr p.1.0))
    (preceded (Mark OpenVersion) (version fits' ∙ (listed a' ∙ mark CloseVersion)) ⇒ (λ p. inr p.1.0))
    (made_grows a a' inl g)
    (made_grows (preceded (Mark OpenVersion) (version fits ∙ (listed a ∙ mark CloseVersion)))
    (preceded (Mark OpenVersion) (version fits' ∙ (listed a' ∙ mark CloseVersion))) (λ p. inr p.1.0)
    (preceded_grows (Mark OpenVersion) (version fits ∙ (listed a ∙ mark CloseVersion))
    (version fits' ∙ (listed a' ∙ mark CloseVersion))
    (seq_grows (version fits) (version fits') (listed a ∙ mark CloseVersion) (listed a' ∙ mark CloseVersion)
    (version_grows fits fits' grows)
    (seq_grows (listed a) (listed a') (mark CloseVersion) (mark CloseVersion) (listed_grows a a' g)
    (same_grows (mark CloseVersion))))))
