-- What is built stays faithful to the tokens, token by token.
use Rattle.std.proofs.Common.{arith, ◌≡◌, ℕ, ◌+◌, false, List, [], ◌∷◌, ◌++◌, sym, ap, subst, ◌∙◌, append_assoc}
use Rattle.std.proofs.lemmas.List.{append-nil}
use Rattle.asn_base.specs.Abstract.{AbstractValue}
use Rattle.asn_base.specs.Types.{Resolved}
use Rattle.octet_answers.specs.States.{Token, component, chosen, begun, ended, held, passed}
use Rattle.views.specs.Building.{begun as begun'}
use Rattle.ber_source.specs.declared.build.Build.{Build}
use Rattle.ber_source.specs.Log.{passes}
use Rattle.ber_source.specs.ViewSink.{IsFaithful}
use Rattle.ber_source.specs.Wants.{Reading, IsBefore, Wants}

-- one token more, which is built
pub faithful_more : (s r : List Resolved) (emitted all : List Token) (t : Token) (b c : Build)
    → r ≡ s
    → all ≡ emitted ++ t ∷ []
    → ((m : Reading) (w : AbstractValue) (ts : List Token) → IsBefore r m w (t ∷ ts) b → IsBefore r m w ts c)
    → IsFaithful s emitted b
    → IsFaithful s all c
faithful_more s r emitted all t b c i e step f m w ts q =
    subst (λ z. IsBefore z m w ts c) i (step m w ts (subst (λ z. IsBefore z m w (t ∷ ts) b) (sym i)
    (f m w (t ∷ ts) (subst (λ z. Wants s m w z 0 false begun') (ap (λ z. z ++ ts) e ∙ append_assoc emitted (t ∷ []) ts) q))))

-- there are no tokens yet
pub faithful_first : (s : List Resolved) (emitted : List Token) (b : Build)
    → emitted ≡ []
    → ((m : Reading) (w : AbstractValue) (ts : List Token) → Wants s m w ts 0 false begun' → IsBefore s m w ts b)
    → IsFaithful s emitted b
faithful_first s emitted b e f m w ts q = f m w ts (subst (λ z. Wants s m w (z ++ ts) 0 false begun') e q)

pub all_emitted : (s : List Resolved) (emitted : List Token) (b : Build) (m : Reading) (w : AbstractValue)
    → IsFaithful s emitted b
    → Wants s m w emitted 0 false begun'
    → IsBefore s m w [] b
all_emitted s emitted b m w f q = f m w [] (subst (λ z. Wants s m w z 0 false begun') (sym (append-nil emitted)) q)

passes_last : (ts : List Token) (t : Token) → passes (ts ++ t ∷ []) ≡ passes ts + passes (t ∷ [])
passes_last [] t = let e : passes (t ∷ []) ≡ 0 + passes (t ∷ []) = omega arith in e
passes_last (passed ∷ ts) t = let r = passes_last ts t in omega arith
passes_last (component i ∷ ts) t = passes_last ts t
passes_last (chosen i ∷ ts) t = passes_last ts t
passes_last (begun i ∷ ts) t = passes_last ts t
passes_last (ended ∷ ts) t = passes_last ts t
passes_last (held k c x at ∷ ts) t = passes_last ts t

-- additions that were skipped are counted on
pub counted_more : (n o k : ℕ) (emitted all : List Token) (t : Token)
    → k ≡ passes (t ∷ [])
    → n ≡ o + k
    → all ≡ emitted ++ t ∷ []
    → o ≡ passes emitted
    → n ≡ passes all
counted_more n o k emitted all t a b e f =
    let g = ap passes e ∙ passes_last emitted t in
    omega (arith, a, b, f, g)
