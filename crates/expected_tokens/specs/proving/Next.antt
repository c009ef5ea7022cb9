-- What one more token leaves: the parts that stand for what follows it.
use Rattle.std.specs.Prelude.{◌≡◌, ◌⊎◌, List, [], ◌∷◌, ◌++◌, map, Vec}
use Rattle.std.specs.Global.{Global}
use Rattle.text.specs.declared.token.TokenKind.{TokenKind}
use Rattle.expected_tokens.specs.declared.rules.Term.{Term}
use Rattle.expected_tokens.specs.declared.rules.Term.TheVariants.{Is, Of}
use Rattle.expected_tokens.specs.Rules.{Rule, nothing, begins, rules}
use Rattle.expected_tokens.specs.Leading.{IsOne, Derives}

-- by this rule, a token of kind k leaves the parts js
abbrev pub ByRule : Rule → TokenKind → List Term → List Term → Type 0
ByRule nothing k is js = ⊥
ByRule (begins l ps) k is js = (l ≡ k) × (js ≡ ps ++ is)

-- by one of these rules, a token of kind k leaves the parts js
abbrev pub ByAnyRule : List Rule → TokenKind → List Term → List Term → Type 0
ByAnyRule [] k is js = ⊥
ByAnyRule (r ∷ rs) k is js = ByRule r k is js ⊎ ByAnyRule rs k is js

abbrev pub Next : List Term → TokenKind → List Term → Type 0
Next [] k js = ⊥
Next (Is l ∷ is) k js = (l ≡ k) × (js ≡ is)
Next (Of s ∷ is) k js = ByAnyRule (rules s) k is js ⊎ (IsOne (rules s) nothing × Next is k js)

-- a token of kind k leaves the parts js of one of these lists of parts
abbrev pub AnyNext : List (List Term) → TokenKind → List Term → Type 0
AnyNext [] k js = ⊥
AnyNext (is ∷ iss) k js = Next is k js ⊎ AnyNext iss k js

-- a token of kind k can come next
abbrev pub GoesOn : List (List Term) → TokenKind → Type 0
GoesOn iss k = (js : List Term) × AnyNext iss k js

-- k is an element of the list, and a token of kind k can come next
abbrev pub AnyGoesOn : List (List Term) → List TokenKind → TokenKind → Type 0
AnyGoesOn iss [] k = ⊥
AnyGoesOn iss (l ∷ ls) k = ((l ≡ k) × GoesOn iss l) ⊎ AnyGoesOn iss ls k

-- one of these lists of parts stands for a text that begins with these tokens, and leaves the parts js
abbrev pub DerivesAny : List (List Term) → List TokenKind → List Term → Type 0
DerivesAny [] ts js = ⊥
DerivesAny (is ∷ iss) ts js = Derives is ts js ⊎ DerivesAny iss ts js

abbrev pub parts_of : Vec (Vec Term Global) Global → List (List Term)
parts_of v = map (λ s. s.items) v.items
