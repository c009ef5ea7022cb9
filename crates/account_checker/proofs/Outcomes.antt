-- Answers that are handed on.
use Rattle.std.proofs.Common.{◌≡◌, refl}
use Rattle.std.specs.Prelude.{◌↔◌, Option, MatchOption, None, Some, is_some, true}

-- what is known of an answer gives what is to be known of it
pub handed_on : {X P Q : Type 0} {S T : X → Type 0} (o : Option X) → MatchOption o P S → (P → Q)
    → ((x : X) → S x → T x) → MatchOption o Q T
handed_on None h f g = f h
handed_on (Some x) h f g = g x h

-- there is no answer
pub no_answer : {X P : Type 0} (S : X → Type 0) {o : Option X} → o ≡ None → P → MatchOption o P S
no_answer S {o = None} e h = h
no_answer S {o = Some x} e h = absurd cc

-- there is an answer exactly if a condition holds
pub answer_exactly : {X C : Type 0} (E : X → Type 0) (o : Option X) → MatchOption o (C → ⊥) (λ x. C × E x)
    → (is_some o ≡ true) ↔ C
answer_exactly E None h = (λ e. absurd cc, λ d. absurd (h d))
answer_exactly E (Some x) h = (λ e. h.0, λ d. refl)
