-- From tokens to lexemes, and from what is read to what is answered.
use Rattle.std.proofs.Common.{ℕ, zero, suc, ◌-◌, List, [], ◌∷◌, length, take, drop, sym, subst, arith}
use Rattle.std.specs.List.{All, AllByRecursion}
use Rattle.text.specs.declared.token.Token.{Token}
use Rattle.text.specs.Items.{IsToken}
use Rattle.text.specs.Text.{IsText, IsNoGreatNumber, IsSpanWithin, HoldsTokens, holds_none, holds_gap, holds_token}
use Rattle.grammar.specs.Texts.{from_slice}
use Rattle.parser_combinators.specs.Given.{AreTokens, IsLexed}

holds_tokens : (x : List ℕ) (i j : ℕ) (ts : List Token) → HoldsTokens x i j ts → AllByRecursion (IsToken x) ts
holds_tokens x i j ts (holds_none e) = tt
holds_tokens x i j ts (holds_gap k g h) = holds_tokens x k j ts h
holds_tokens x i j (t ∷ ts) (holds_token t' e p h) = (p, holds_tokens x t.span.end j ts h)

all_tokens : (x : List ℕ) (ts : List Token)
    → AllByRecursion (IsToken x) ts
    → All (IsSpanWithin (length x)) ts
    → AllByRecursion (IsNoGreatNumber x) ts
    → AreTokens x ts
all_tokens x [] h s m = tt
all_tokens x (t ∷ ts) h s m = (record { token = h.0; within = s 0 t (omega arith); small = m.0 }, all_tokens x ts h.1 (λ k d lt. s (suc k) d (omega arith)) m.1)

pub are_tokens : ((x : List ℕ) (ts : List Token) → IsText x ts → All (IsSpanWithin (length x)) ts)
    → (x : List ℕ) (ts : List Token)
    → IsLexed x ts
    → AreTokens x ts
are_tokens spans x ts h = all_tokens x ts (holds_tokens x 0 (length x) ts h.text.whole) (spans x ts h.text) h.limits.numbers

drop_tokens : (x : List ℕ) (n : ℕ) (ts : List Token) → AreTokens x ts → AreTokens x (drop n ts)
drop_tokens x zero ts h = h
drop_tokens x (suc n) [] h = tt
drop_tokens x (suc n) (t ∷ ts) h = drop_tokens x n ts h.1

pub slice_tokens : (x : List ℕ) (place : ℕ) (ts : List Token)
    → AreTokens x ts
    → AreTokens x (take (length ts - place) (drop place ts))
slice_tokens x place ts h = subst (AreTokens x) (sym (from_slice place ts)) (drop_tokens x place ts h)
