-- What stacks lead to, one token after the other.
use Rattle.std.proofs.Common.{◌≡◌, ◌⊎◌, ◌↔◌, inl, inr, ℕ, zero, suc, Bool, true, false, Option, Some, None, List, [], ◌∷◌, ◌++◌, refl, sym, ap, subst}
use Rattle.text.specs.declared.token.TokenKind.{TokenKind}
use Rattle.expected_tokens.specs.declared.rules.Term.{Term}
use Rattle.expected_tokens.specs.declared.rules.Term.TheVariants.{Is, Of}
use Rattle.expected_tokens.specs.Rules.{Rule, nothing, begins, rules}
use Rattle.expected_tokens.specs.Leading.{CanFollow, IsOne, Derives, here, token, begun, absent, start_symbol}
use Rattle.expected_tokens.specs.proving.Next.{AnyGoesOn, AnyNext, ByAnyRule, ByRule, GoesOn, DerivesAny, Next}

pub begun_by : (rs : List Rule) (k : TokenKind) (is js : List Term)
    → ByAnyRule rs k is js
    → (ps : List Term) × IsOne rs (begins k ps) × (js ≡ ps ++ is)
begun_by [] k is js b = absurd b
begun_by (nothing ∷ rs) k is js (inl f) = absurd f
begun_by (begins l ps ∷ rs) k is js (inl p) = (ps, inl (ap (λ (x : TokenKind). begins x ps) p.0), p.1)
begun_by (r ∷ rs) k is js (inr b) = let q = begun_by rs k is js b in (q.0, inr q.1, q.2)

begins_by : (r : Rule) (k : TokenKind) (ps is : List Term) → r ≡ begins k ps → ByRule r k is (ps ++ is)
begins_by nothing k ps is e = absurd cc
begins_by (begins l qs) k ps is e = (cc, cc)

pub begins_at : (rs : List Rule) (k : TokenKind) (ps is : List Term)
    → IsOne rs (begins k ps)
    → ByAnyRule rs k is (ps ++ is)
begins_at [] k ps is o = absurd o
begins_at (r ∷ rs) k ps is (inl e) = inl (begins_by r k ps is e)
begins_at (r ∷ rs) k ps is (inr o) = inr (begins_at rs k ps is o)

pub leads_next : {is js : List Term} {k : TokenKind} {ts : List TokenKind}
    → Derives is (k ∷ ts) js
    → (hs : List Term) × Next is k hs × Derives hs ts js
leads_next (token k d) = (_, (refl, refl), d)
leads_next (begun s k ps o d) = (_, inl (begins_at (rules s) k ps _ o), d)
leads_next (absent s k o d) = let r = leads_next d in (r.0, inr (o, r.1), r.2)

pub next_leads : (is : List Term) (k : TokenKind) (hs : List Term) (ts : List TokenKind) (js : List Term)
    → Next is k hs
    → Derives hs ts js
    → Derives is (k ∷ ts) js
next_leads [] k hs ts js n d = absurd n
next_leads (Is l ∷ is) k hs ts js n d =
    let P : TokenKind → Type 0 = λ x. Derives (Is l ∷ is) (x ∷ ts) js in
    let Q : List Term → Type 0 = λ h. Derives h ts js in
    subst P n.0 (token l (subst Q n.1 d))
next_leads (Of s ∷ is) k hs ts js (inl b) d =
    let r = begun_by (rules s) k is hs b in
    let Q : List Term → Type 0 = λ h. Derives h ts js in
    begun s k r.0 r.1 (subst Q r.2 d)
next_leads (Of s ∷ is) k hs ts js (inr p) d = absent s k p.0 (next_leads is k hs ts js p.1 d)

any_leads : (iss : List (List Term)) (k : TokenKind) (ts : List TokenKind) (js : List Term)
    → DerivesAny iss (k ∷ ts) js
    → (hs : List Term) × AnyNext iss k hs × Derives hs ts js
any_leads [] k ts js a = absurd a
any_leads (is ∷ iss) k ts js (inl d) = let r = leads_next d in (r.0, inl r.1, r.2)
any_leads (is ∷ iss) k ts js (inr a) = let r = any_leads iss k ts js a in (r.0, inr r.1, r.2)

any_next : (iss : List (List Term)) (k : TokenKind) (hs : List Term) (ts : List TokenKind) (js : List Term)
    → AnyNext iss k hs
    → Derives hs ts js
    → DerivesAny iss (k ∷ ts) js
any_next [] k hs ts js n d = absurd n
any_next (is ∷ iss) k hs ts js (inl n) d = inl (next_leads is k hs ts js n d)
any_next (is ∷ iss) k hs ts js (inr n) d = inr (any_next iss k hs ts js n d)

in_leads : (iss : List (List Term)) (hs : List Term) (ts : List TokenKind) (js : List Term)
    → IsOne iss hs
    → Derives hs ts js
    → DerivesAny iss ts js
in_leads [] hs ts js i d = absurd i
in_leads (is ∷ iss) hs ts js (inl e) d = let Q : List Term → Type 0 = λ h. Derives h ts js in inl (subst Q (sym e) d)
in_leads (is ∷ iss) hs ts js (inr i) d = inr (in_leads iss hs ts js i d)

leads_in : (iss : List (List Term)) (ts : List TokenKind) (js : List Term)
    → DerivesAny iss ts js
    → (hs : List Term) × IsOne iss hs × Derives hs ts js
leads_in [] ts js a = absurd a
leads_in (is ∷ iss) ts js (inl d) = (is, inl refl, d)
leads_in (is ∷ iss) ts js (inr a) = let r = leads_in iss ts js a in (r.0, inr r.1, r.2)

-- one token more
pub stepped : (iss jss : List (List Term)) (k : TokenKind)
    → ((hs : List Term) → IsOne jss hs ↔ AnyNext iss k hs)
    → (ts : List TokenKind) (js : List Term)
    → DerivesAny iss (k ∷ ts) js ↔ DerivesAny jss ts js
stepped iss jss k same ts js = (forth, back)
  where
    forth : DerivesAny iss (k ∷ ts) js → DerivesAny jss ts js
    forth a = let r = any_leads iss k ts js a in in_leads jss r.0 ts js ((same r.0).1 r.1) r.2

    back : DerivesAny jss ts js → DerivesAny iss (k ∷ ts) js
    back a = let r = leads_in jss ts js a in any_next iss k r.0 ts js ((same r.0).0 r.1) r.2

-- the last token
pub last_token : (iss : List (List Term)) (k : TokenKind)
    → ((js : List Term) × DerivesAny iss (k ∷ []) js) ↔ ((hs : List Term) × AnyNext iss k hs)
last_token iss k = (forth, back)
  where
    forth : (js : List Term) × DerivesAny iss (k ∷ []) js → (hs : List Term) × AnyNext iss k hs
    forth p = let r = any_leads iss k [] p.0 p.1 in (r.0, r.1)

    back : (hs : List Term) × AnyNext iss k hs → (js : List Term) × DerivesAny iss (k ∷ []) js
    back p = (p.0, any_next iss k p.0 [] p.0 p.1 here)

-- a pushed item
pushed_more : {X : Type 0} (ys more : List X) (y x z : X)
    → IsOne more z ↔ (IsOne ys z ⊎ (x ≡ z))
    → IsOne (y ∷ more) z ↔ (IsOne (y ∷ ys) z ⊎ (x ≡ z))
pushed_more {X} ys more y x z same = (forth, back)
  where
    at_end : IsOne ys z ⊎ (x ≡ z) → IsOne (y ∷ ys) z ⊎ (x ≡ z)
    at_end (inl j) = inl (inr j)
    at_end (inr e) = inr e

    forth : IsOne (y ∷ more) z → IsOne (y ∷ ys) z ⊎ (x ≡ z)
    forth (inl e) = inl (inl e)
    forth (inr i) = at_end (same.0 i)

    back : IsOne (y ∷ ys) z ⊎ (x ≡ z) → IsOne (y ∷ more) z
    back (inl (inl e)) = inl e
    back (inl (inr i)) = inr (same.1 (inl i))
    back (inr e) = inr (same.1 (inr e))

pushed_one : {X : Type 0} (x z : X) → IsOne (x ∷ []) z ↔ (⊥ ⊎ (x ≡ z))
pushed_one {X} x z = (forth, back)
  where
    forth : IsOne (x ∷ []) z → ⊥ ⊎ (x ≡ z)
    forth (inl e) = inr e
    forth (inr f) = absurd f

    back : ⊥ ⊎ (x ≡ z) → IsOne (x ∷ []) z
    back (inl f) = absurd f
    back (inr e) = inl e

pub pushed : {X : Type 0} (ys : List X) (x z : X) → IsOne (ys ++ x ∷ []) z ↔ (IsOne ys z ⊎ (x ≡ z))
pushed [] x z = pushed_one x z
pushed (y ∷ ys) x z = pushed_more ys (ys ++ x ∷ []) y x z (pushed ys x z)

-- an item that is pushed if a fact holds, and the fact about what is there then
pub put_there : {X : Type 0} (ys more : List X) (x z : X) (P : X → Type 0)
    → more ≡ ys ++ x ∷ []
    → (x ≡ z → P z)
    → (P z → x ≡ z)
    → IsOne more z ↔ (IsOne ys z ⊎ P z)
put_there {X} ys more x z P e there only = (forth, back)
  where
    whole_list : IsOne more z ↔ (IsOne ys z ⊎ (x ≡ z))
    whole_list = let Q : List X → Type 0 = λ m. IsOne m z ↔ (IsOne ys z ⊎ (x ≡ z)) in subst Q (sym e) (pushed ys x z)

    moved : IsOne ys z ⊎ (x ≡ z) → IsOne ys z ⊎ P z
    moved (inl i) = inl i
    moved (inr q) = inr (there q)

    forth : IsOne more z → IsOne ys z ⊎ P z
    forth i = moved (whole_list.0 i)

    back : IsOne ys z ⊎ P z → IsOne more z
    back (inl i) = whole_list.1 (inl i)
    back (inr p) = whole_list.1 (inr (only p))

-- the same if the fact doesn't hold
pub put_nothing : {X : Type 0} (ys : List X) (z : X) (P : Type 0) → (P → ⊥) → IsOne ys z ↔ (IsOne ys z ⊎ P)
put_nothing {X} ys z P never = (λ i. inl i, back)
  where
    back : IsOne ys z ⊎ P → IsOne ys z
    back (inl i) = i
    back (inr p) = absurd (never p)

-- the start
pub one_stack : (iss : List (List Term)) → iss ≡ start_symbol ∷ [] → (ts : List TokenKind) (js : List Term)
    → Derives start_symbol ts js ↔ DerivesAny iss ts js
one_stack iss e ts js = let Q : List (List Term) → Type 0 = λ x. Derives start_symbol ts js ↔ DerivesAny x ts js in
    subst Q (sym e) (λ d. inl d, back)
  where
    back : DerivesAny (start_symbol ∷ []) ts js → Derives start_symbol ts js
    back (inl d) = d
    back (inr f) = absurd f

-- one token more of those that are left
pub advanced : (W : Type 0) (iss jss : List (List Term)) (k : TokenKind) (xs ys ts : List TokenKind) (js : List Term)
    → xs ≡ k ∷ ys
    → ((hs : List Term) → IsOne jss hs ↔ AnyNext iss k hs)
    → W ↔ DerivesAny iss (xs ++ ts) js
    → W ↔ DerivesAny jss (ys ++ ts) js
advanced W iss jss k xs ys ts js e same was =
    let Q : List TokenKind → Type 0 = λ x. W ↔ DerivesAny iss (x ++ ts) js in
    let now = subst Q e was in
    let step = stepped iss jss k same (ys ++ ts) js in
    (λ w. step.0 (now.0 w), λ d. now.1 (step.1 d))

-- the n-th of these
abbrev nth : {X : Type 0} → List X → ℕ → Option X
nth [] n = None
nth (x ∷ xs) zero = Some x
nth (x ∷ xs) (suc n) = nth xs n

pub at_index : (xs : List TokenKind) (n : ℕ) (x : TokenKind) → nth xs n ≡ Some x → IsOne xs x
at_index [] n x e = absurd cc
at_index (y ∷ xs) zero x e = inl cc
at_index (y ∷ xs) (suc n) x e = inr (at_index xs n x e)

goes_by : (iss : List (List Term)) (ls : List TokenKind) (k : TokenKind) → AnyGoesOn iss ls k → GoesOn iss k
goes_by iss [] k a = absurd a
goes_by iss (l ∷ ls) k (inl p) = let Q : TokenKind → Type 0 = λ x. GoesOn iss x in subst Q p.0 p.1
goes_by iss (l ∷ ls) k (inr a) = goes_by iss ls k a

goes_at : (iss : List (List Term)) (ls : List TokenKind) (k : TokenKind) → IsOne ls k → GoesOn iss k → AnyGoesOn iss ls k
goes_at iss [] k i g = absurd i
goes_at iss (l ∷ ls) k (inl e) g = let Q : TokenKind → Type 0 = λ x. GoesOn iss x in inl (e, subst Q (sym e) g)
goes_at iss (l ∷ ls) k (inr i) g = inr (goes_at iss ls k i g)

-- what is listed of all kinds can follow, and the other way round
pub follows : (all vs : List TokenKind) (iss : List (List Term)) (ts : List TokenKind) (k : TokenKind)
    → IsOne all k
    → ((us : List TokenKind) (js : List Term) → Derives start_symbol (ts ++ us) js ↔ DerivesAny iss us js)
    → IsOne vs k ↔ (⊥ ⊎ AnyGoesOn iss all k)
    → IsOne vs k ↔ CanFollow ts k
follows all vs iss ts k there left listed = (forth, back)
  where
    gone : ⊥ ⊎ AnyGoesOn iss all k → GoesOn iss k
    gone (inl f) = absurd f
    gone (inr a) = goes_by iss all k a

    forth : IsOne vs k → CanFollow ts k
    forth i = let p = (last_token iss k).1 (gone (listed.0 i)) in (p.0, (left (k ∷ []) p.0).1 p.1)

    back : CanFollow ts k → IsOne vs k
    back p = listed.1 (inr (goes_at iss all k there ((last_token iss k).0 (p.0, (left (k ∷ []) p.0).0 p.1))))

-- some stack is left exactly if there is one
pub some_left : (iss : List (List Term)) (P : List Term → Type 0)
    → ((js : List Term) → IsOne iss js ↔ P js)
    → (iss ≡ [] → ⊥)
    → (js : List Term) × P js
some_left [] P same there = absurd (there refl)
some_left (is ∷ iss) P same there = (is, (same is).0 (inl refl))

pub none_left : (iss : List (List Term)) (P : List Term → Type 0)
    → ((js : List Term) → IsOne iss js ↔ P js)
    → iss ≡ []
    → ((js : List Term) × P js) → ⊥
none_left iss P same e p = let Q : List (List Term) → Type 0 = λ x. IsOne x p.0 in subst Q e ((same p.0).1 p.1)

pub flag : (b : Bool) → (b ≡ false → ⊥) → b ≡ true
flag true f = refl
flag false f = absurd (f refl)

-- the same, of lists that are only shown to be these
pub follows_from : (all vs none : List TokenKind) (iss jss : List (List Term)) (ts : List TokenKind) (k : TokenKind)
    → none ≡ []
    → jss ≡ iss
    → IsOne all k
    → ((us : List TokenKind) (js : List Term) → Derives start_symbol (ts ++ us) js ↔ DerivesAny iss us js)
    → IsOne vs k ↔ (IsOne none k ⊎ AnyGoesOn jss all k)
    → IsOne vs k ↔ CanFollow ts k
follows_from all vs none iss jss ts k n e there left listed =
    let Q : List TokenKind → Type 0 = λ x. IsOne vs k ↔ (IsOne x k ⊎ AnyGoesOn jss all k) in
    let R : List (List Term) → Type 0 = λ x. IsOne vs k ↔ (⊥ ⊎ AnyGoesOn x all k) in
    follows all vs iss ts k there left (subst R e (subst Q n listed))

pub advanced_from : (W : Type 0) (iss mss jss : List (List Term)) (k : TokenKind) (xs ys ts : List TokenKind) (js : List Term)
    → mss ≡ iss
    → xs ≡ k ∷ ys
    → ((hs : List Term) → IsOne jss hs ↔ AnyNext mss k hs)
    → W ↔ DerivesAny iss (xs ++ ts) js
    → W ↔ DerivesAny jss (ys ++ ts) js
advanced_from W iss mss jss k xs ys ts js m e same was =
    let Q : List (List Term) → Type 0 = λ x. (hs : List Term) → IsOne jss hs ↔ AnyNext x k hs in
    advanced W iss jss k xs ys ts js e (subst Q m same) was
