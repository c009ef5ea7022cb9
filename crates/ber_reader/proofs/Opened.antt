-- Values that are open, token by token.
use Rattle.std.proofs.Common.{arith, ◌≡◌, ℕ, suc, ◌<◌, ◌≤◌, List, [], ◌∷◌, ◌++◌, refl, sym, ap, subst, ◌∙◌}
use Rattle.std.specs.List.{AllByRecursion}
use Rattle.ber_reader.specs.declared.open.OpenValue.{OpenValue}
use Rattle.ber_reader.specs.Opened.{on_last, but_last}

pub on_last_one : (f : OpenValue → OpenValue) (os : List OpenValue) (o : OpenValue) → on_last f (os ++ o ∷ []) ≡ os ++ f o ∷ []
on_last_one f [] o = refl
on_last_one f (p ∷ []) o = refl
on_last_one f (p ∷ q ∷ os) o = ap (λ z. p ∷ z) (on_last_one f (q ∷ os) o)

pub but_last_one : (os : List OpenValue) (o : OpenValue) → but_last (os ++ o ∷ []) ≡ os
but_last_one [] o = refl
but_last_one (p ∷ []) o = refl
but_last_one (p ∷ q ∷ os) o = ap (λ z. p ∷ z) (but_last_one (q ∷ os) o)

-- the last one is put back changed
pub changed : (f : OpenValue → OpenValue) (all os : List OpenValue) (o : OpenValue) → all ≡ os ++ o ∷ [] → os ++ f o ∷ [] ≡ on_last f all
changed f all os o e = sym (on_last_one f os o) ∙ ap (on_last f) (sym e)

pub left_over : (all os : List OpenValue) (o : OpenValue) → all ≡ os ++ o ∷ [] → os ≡ but_last all
left_over all os o e = sym (but_last_one os o) ∙ ap but_last (sym e)

-- ---- no more parts were read than there are tokens

abbrev pub Few : ℕ → List OpenValue → Type 0
Few n os = AllByRecursion (λ o. o.read ≤ n) os

pub few_last : (f : OpenValue → OpenValue) (n : ℕ) (os : List OpenValue) → ((o : OpenValue) → o.read ≤ n → (f o).read ≤ suc n) → Few n os → Few (suc n) (on_last f os)
few_last f n [] g h = tt
few_last f n (o ∷ []) g h = (g o h.0, tt)
few_last f n (o ∷ p ∷ os) g h = (let a = h.0 in omega arith, few_last f n (p ∷ os) g h.1)

pub few_but : (n : ℕ) (os : List OpenValue) → Few n os → Few n (but_last os)
few_but n [] h = tt
few_but n (o ∷ []) h = tt
few_but n (o ∷ p ∷ os) h = (h.0, few_but n (p ∷ os) h.1)

pub few_both : (n : ℕ) (os ps : List OpenValue) → Few n os → Few n ps → Few n (os ++ ps)
few_both n [] ps h k = k
few_both n (o ∷ os) ps h k = (h.0, few_both n os ps h.1 k)

pub below_all : (n m : ℕ) (os : List OpenValue) → n < m → Few n os → AllByRecursion (λ o. o.read < m) os
below_all n m [] l h = tt
below_all n m (o ∷ os) l h = (let a = h.0 in omega arith, below_all n m os l h.1)

pub last_below : (m : ℕ) (all os : List OpenValue) (o : OpenValue) → all ≡ os ++ o ∷ [] → AllByRecursion (λ q. q.read < m) all → o.read < m
last_below m all os o e h = last_in os (subst (AllByRecursion (λ q. q.read < m)) e h)
  where
    last_in : (ps : List OpenValue) → AllByRecursion (λ q. q.read < m) (ps ++ o ∷ []) → o.read < m
    last_in [] h = h.0
    last_in (p ∷ ps) h = last_in ps h.1

pub front_below : (m : ℕ) (all os : List OpenValue) (o : OpenValue) → all ≡ os ++ o ∷ [] → AllByRecursion (λ q. q.read < m) all → AllByRecursion (λ q. q.read < m) os
front_below m all os o e h = front_in os (subst (AllByRecursion (λ q. q.read < m)) e h)
  where
    front_in : (ps : List OpenValue) → AllByRecursion (λ q. q.read < m) (ps ++ o ∷ []) → AllByRecursion (λ q. q.read < m) ps
    front_in [] h = tt
    front_in (p ∷ ps) h = (h.0, front_in ps h.1)
