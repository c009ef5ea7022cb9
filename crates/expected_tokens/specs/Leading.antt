-- The tokens that can come next in a text, by the rules of the notation.
use Rattle.std.specs.Prelude.{◌≡◌, ◌⊎◌, List, [], ◌∷◌, ◌++◌, map}
use Rattle.text.specs.declared.token.Token.{Token}
use Rattle.text.specs.declared.token.TokenKind.{TokenKind}
use Rattle.expected_tokens.specs.declared.rules.Term.{Term}
use Rattle.expected_tokens.specs.declared.rules.Term.TheVariants.{Is, Of}
use Rattle.expected_tokens.specs.declared.rules.Symbol.{Symbol}
use Rattle.expected_tokens.specs.declared.rules.Symbol.TheVariants as symbols
use Rattle.expected_tokens.specs.Rules.{nothing, begins, rules}

-- x is an element of the list
abbrev pub IsOne : {X : Type 0} → List X → X → Type 0
IsOne [] x = ⊥
IsOne (y ∷ ys) x = (y ≡ x) ⊎ IsOne ys x

-- Some parts stand for a text that begins with these tokens; after these tokens, other parts stand for what follows. A
-- part is a token, or anything that a rule of its symbol allows.
pub data Derives : List Term → List TokenKind → List Term → Type 0 where
  here : {is : List Term} → Derives is [] is
  token : {is js : List Term} {ts : List TokenKind} (k : TokenKind) → Derives is ts js → Derives (Is k ∷ is) (k ∷ ts) js
  begun : {is js : List Term} {ts : List TokenKind} (s : Symbol) (k : TokenKind) (ps : List Term)
      → IsOne (rules s) (begins k ps)
      → Derives (ps ++ is) ts js
      → Derives (Of s ∷ is) (k ∷ ts) js
  absent : {is js : List Term} {ts : List TokenKind} (s : Symbol) (k : TokenKind)
      → IsOne (rules s) nothing
      → Derives is (k ∷ ts) js
      → Derives (Of s ∷ is) (k ∷ ts) js

-- the parts of a module's text: one symbol
abbrev pub start_symbol : List Term
start_symbol = Of symbols.Module ∷ []

-- A module can begin with these tokens.
abbrev pub IsPrefix : List TokenKind → Type 0
IsPrefix ts = (js : List Term) × Derives start_symbol ts js

-- After these tokens, a token of this kind can come next.
abbrev pub CanFollow : List TokenKind → TokenKind → Type 0
CanFollow ts k = IsPrefix (ts ++ k ∷ [])

abbrev pub kinds_of : List Token → List TokenKind
kinds_of = map (λ t. t.kind)
