-- A grammar: which lexemes are a whole, with which tree, and which lexemes are a prefix that can continue. The
-- productions of X.680, clause 5, are written in this form.
use Rattle.std.specs.Prelude.{◌≡◌, ℕ, zero, suc, List, [], ◌∷◌, ◌++◌, ◌⊎◌, IsTrue, Bool, Option, Some, None}
use Rattle.std.proofs.Common.{inl, inr}
use Rattle.text.specs.declared.token.Mark.{Mark as Mark'}
use Rattle.text.specs.declared.token.Mark.TheVariants.{Colon, Comma, Ellipsis, OpenBrace, CloseBrace, OpenParenthesis, CloseParenthesis, OpenVersion, CloseVersion}
use Rattle.text.specs.declared.reserved.Word.{Word as Word'}
use Rattle.grammar.specs.Lexeme.{Lexeme, Number, Word, Mark}

-- a production, or a part of one, with trees of type A
pub record Grammar (A : Type 0) : Type 1 where
  -- the lexemes, all of them, are this tree
  pub Is : A → List Lexeme → Type 0
  -- the lexemes can begin such a part; they may also be a whole one
  pub IsPrefix : List Lexeme → Type 0

-- a lexeme of one kind
abbrev pub token : {A : Type 0} → (A → Lexeme) → Grammar A
token {A} kind = record {
  Is = λ x ts. ts ≡ kind x ∷ [];
  IsPrefix = λ ts. (ts ≡ []) ⊎ ((x : A) × (ts ≡ kind x ∷ []));
}

-- one given lexeme, which leaves nothing in the tree
abbrev pub only : Lexeme → Grammar (Unit {0})
only t = token (λ _. t)

-- one given mark, as `::=`
abbrev pub mark : Mark' → Grammar (Unit {0})
mark m = only (Mark m)

-- one given reserved word
abbrev pub word : Word' → Grammar (Unit {0})
word w = only (Word w)

-- a number for which a test is true
abbrev pub number_of : (ℕ → Bool) → Grammar ℕ
number_of fits = record {
  Is = λ n ts. IsTrue (fits n) × (ts ≡ Number n ∷ []);
  IsPrefix = λ ts. (ts ≡ []) ⊎ ((n : ℕ) × IsTrue (fits n) × (ts ≡ Number n ∷ []));
}

-- a part, and then another: a prefix is one of the first, or the whole first and a prefix of the second
infixr 50 ◌∙◌
abbrev pub ◌∙◌ : {A B : Type 0} → Grammar A → Grammar B → Grammar (A × B)
◌∙◌ {A} {B} a b = record {
  Is = λ xy ts. (u v : List Lexeme) × (ts ≡ u ++ v) × a.Is xy.0 u × b.Is xy.1 v;
  IsPrefix = λ ts. a.IsPrefix ts ⊎ ((x : A) × (u v : List Lexeme) × (ts ≡ u ++ v) × a.Is x u × b.IsPrefix v);
}

-- one production or the other
infixr 30 ◌∣◌
abbrev pub ◌∣◌ : {A : Type 0} → Grammar A → Grammar A → Grammar A
a ∣ b = record {
  Is = λ x ts. a.Is x ts ⊎ b.Is x ts;
  IsPrefix = λ ts. a.IsPrefix ts ⊎ b.IsPrefix ts;
}

-- the tree that a production makes of its parts
infixr 40 ◌⇒◌
abbrev pub ◌⇒◌ : {A B : Type 0} → Grammar A → (A → B) → Grammar B
◌⇒◌ {A} {B} a f = record {
  Is = λ y ts. (x : A) × (y ≡ f x) × a.Is x ts;
  IsPrefix = a.IsPrefix;
}

-- the lexemes are these parts, one after the other
abbrev pub IsMany : {A : Type 0} → Grammar A → List A → List Lexeme → Type 0
IsMany a [] ts = ts ≡ []
IsMany a (x ∷ xs) ts = (u v : List Lexeme) × (ts ≡ u ++ v) × a.Is x u × IsMany a xs v

-- any number of parts, one after the other, with a list of their trees
abbrev pub many : {A : Type 0} → Grammar A → Grammar (List A)
many {A} a = record {
  Is = IsMany a;
  IsPrefix = λ ts. (xs : List A) × (u v : List Lexeme) × (ts ≡ u ++ v) × IsMany a xs u × a.IsPrefix v;
}

-- a part after a given lexeme, with the tree of the part alone
abbrev pub preceded : {A : Type 0} → Lexeme → Grammar A → Grammar A
preceded t a = (only t ∙ a) ⇒ λ p. p.1

-- at least one part, with commas between parts
abbrev pub listed : {A : Type 0} → Grammar A → Grammar (List A)
listed a = (a ∙ many (preceded (Mark Comma) a)) ⇒ λ p. p.0 ∷ p.1

-- a part in braces
abbrev pub braces : {A : Type 0} → Grammar A → Grammar A
braces a = (mark OpenBrace ∙ (a ∙ mark CloseBrace)) ⇒ λ p. p.1.0

-- a part in parentheses
abbrev pub parens : {A : Type 0} → Grammar A → Grammar A
parens a = (mark OpenParenthesis ∙ (a ∙ mark CloseParenthesis)) ⇒ λ p. p.1.0

-- a grammar that can begin but never be whole, for a lexeme that would open one part too many
abbrev pub cut_off : {A : Type 0} → Grammar A
cut_off = record { Is = λ x ts. ⊥; IsPrefix = λ ts. ts ≡ [] }

-- the lexemes are the part, or there are none where the part is left out
abbrev pub IsOptional : {A : Type 0} → Grammar A → Option A → List Lexeme → Type 0
IsOptional a None ts = ts ≡ []
IsOptional a (Some x) ts = a.Is x ts

-- a part, or nothing, for which the tree is None
abbrev pub optional : {A : Type 0} → Grammar A → Grammar (Option A)
optional {A} a = record { Is = IsOptional a; IsPrefix = λ ts. (ts ≡ []) ⊎ a.IsPrefix ts }

-- a part that opens one level of nesting, where n more levels may be open: with none left it can begin, but never be
-- whole (own rule)
abbrev pub opens : {A : Type 0} → ℕ → Grammar A → Grammar A
opens zero a = cut_off
opens (suc n) a = a

-- ---- lists with an extension marker

-- the extension marker, and the parts after it, each after a comma
abbrev pub marked : {B : Type 0} → Grammar B → Grammar (List B)
marked b = preceded (Mark Ellipsis) (many (preceded (Mark Comma) b))

-- At least one part, and after the parts possibly the extension marker. The tree has the parts before the marker, and
-- those after it if it is there.
abbrev pub extensible : {A B : Type 0} → Grammar A → Grammar B → Grammar (List A × Option (List B))
extensible a b = listed a ∙ optional (preceded (Mark Comma) (marked b))

-- the same, but the marker may also be at the start
abbrev pub rootless : {A B : Type 0} → Grammar A → Grammar B → Grammar (List A × Option (List B))
rootless a b = marked b ⇒ (λ ys. ([], Some ys)) ∣ extensible a b

-- The number before the parts in version brackets, which has no meaning. A test says which numbers a limit allows.
abbrev pub version : (ℕ → Bool) → Grammar (Option (ℕ × Unit {0}))
version fits = optional (number_of fits ∙ mark Colon)

-- a part, or one or more parts in version brackets
abbrev pub addition : {A : Type 0} → (ℕ → Bool) → Grammar A → Grammar (A ⊎ List A)
addition fits a = a ⇒ inl ∣ preceded (Mark OpenVersion) (version fits ∙ (listed a ∙ mark CloseVersion)) ⇒
    (λ p. inr p.1.0)
