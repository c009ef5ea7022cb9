-- What trees keep that a grammar makes of lexemes whose identifiers are identifiers: a production at a time.
use Rattle.std.proofs.Common.{◌⊎◌, ◌≤◌, arith, ℕ, zero, suc, Bool, List, [], ◌∷◌, ◌++◌, length, map, Option, Some, None, inl, inr, sym, subst}
use Rattle.std.specs.List.{AllByRecursion}
use Rattle.text.specs.declared.token.Mark.{Mark as Mark'}
use Rattle.text.specs.declared.token.Mark.TheVariants.{Comma, Ellipsis, OpenVersion}
use Rattle.asn_base.specs.Names.{IsIdentifier}
use Rattle.grammar.specs.Lexeme.{Lexeme, TypeRef, Ident, Number, BString, HString, CString, Word, Mark}
use Rattle.text.specs.declared.token.Mark.TheVariants.{OpenBrace, CloseBrace, CloseVersion}
use Rattle.grammar.specs.Grammar.{mark, Grammar, token, only, ◌∙◌, ◌∣◌, ◌⇒◌, many, preceded, listed, braces, cut_off, optional, opens, marked, extensible, rootless, version, addition}

-- the name of an identifier lexeme is one
abbrev pub IsGood : Lexeme → Type 0
IsGood (Ident x) = IsIdentifier x
IsGood (TypeRef x) = Unit {0}
IsGood (Number n) = Unit {0}
IsGood (BString x) = Unit {0}
IsGood (HString x) = Unit {0}
IsGood (CString x) = Unit {0}
IsGood (Word w) = Unit {0}
IsGood (Mark m) = Unit {0}

abbrev pub AreGood : List Lexeme → Type 0
AreGood = AllByRecursion IsGood

-- ---- lists

pub all_front : {A : Type 0} (P : A → Type 0) (xs ys : List A) → AllByRecursion P (xs ++ ys) → AllByRecursion P xs
all_front P [] ys h = tt
all_front P (x ∷ xs) ys h = (h.0, all_front P xs ys h.1)

pub all_rest : {A : Type 0} (P : A → Type 0) (xs ys : List A) → AllByRecursion P (xs ++ ys) → AllByRecursion P ys
all_rest P [] ys h = h
all_rest P (x ∷ xs) ys h = all_rest P xs ys h.1

pub all_joined : {A : Type 0} (P : A → Type 0) (xs ys : List A)
    → AllByRecursion P xs
    → AllByRecursion P ys
    → AllByRecursion P (xs ++ ys)
all_joined P [] ys h g = g
all_joined P (x ∷ xs) ys h g = (h.0, all_joined P xs ys h.1 g)

pub all_mapped : {A B : Type 0} (P : A → Type 0) (Q : B → Type 0) (f : A → B)
    → ((x : A) → P x → Q (f x))
    → (xs : List A)
    → AllByRecursion P xs
    → AllByRecursion Q (map f xs)
all_mapped P Q f k [] h = tt
all_mapped P Q f k (x ∷ xs) h = (k x h.0, all_mapped P Q f k xs h.1)

-- ---- productions

-- P holds of each tree that the grammar makes of such lexemes
abbrev pub Keeps : {A : Type 0} → Grammar A → (A → Type 0) → Type 0
Keeps {A} g P = (x : A) (ts : List Lexeme) → AreGood ts → g.Is x ts → P x

-- of each tree
abbrev pub Nothing : {A : Type 0} → A → Type 0
Nothing x = Unit {0}

pub keeps_nothing : {A : Type 0} (g : Grammar A) → Keeps g Nothing
keeps_nothing g x ts h i = tt

pub keeps_name : Keeps (token Ident) IsIdentifier
keeps_name x ts h e = let g : AreGood (Ident x ∷ []) = subst AreGood e h in g.0

pub keeps_pair : {A B : Type 0} (a : Grammar A) (b : Grammar B) (P : A → Type 0) (Q : B → Type 0)
    → Keeps a P
    → Keeps b Q
    → Keeps (a ∙ b) (λ p. P p.0 × Q p.1)
keeps_pair a b P Q f g p ts h (u, v, e, i, j) =
    let k : AreGood (u ++ v) = subst AreGood e h in
    (f p.0 u (all_front IsGood u v k) i, g p.1 v (all_rest IsGood u v k) j)

pub keeps_either : {A : Type 0} (a b : Grammar A) (P : A → Type 0) → Keeps a P → Keeps b P → Keeps (a ∣ b) P
keeps_either a b P f g x ts h (inl i) = f x ts h i
keeps_either a b P f g x ts h (inr i) = g x ts h i

pub keeps_made : {A B : Type 0} (a : Grammar A) (f : A → B) (P : A → Type 0) (Q : B → Type 0)
    → Keeps a P
    → ((x : A) → P x → Q (f x))
    → Keeps (a ⇒ f) Q
keeps_made a f P Q k g y ts h (x, e, i) = subst Q (sym e) (g x (k x ts h i))

pub keeps_many : {A : Type 0} (a : Grammar A) (P : A → Type 0) → Keeps a P → Keeps (many a) (AllByRecursion P)
keeps_many a P k [] ts h i = tt
keeps_many a P k (x ∷ xs) ts h (u, v, e, i, j) =
    let g : AreGood (u ++ v) = subst AreGood e h in
    (k x u (all_front IsGood u v g) i, keeps_many a P k xs v (all_rest IsGood u v g) j)

pub keeps_preceded : {A : Type 0} (t : Lexeme) (a : Grammar A) (P : A → Type 0) → Keeps a P → Keeps (preceded t a) P
keeps_preceded t a P k =
    keeps_made (only t ∙ a) (λ p. p.1) (λ p. Unit {0} × P p.1) P (keeps_pair (only t) a Nothing P (keeps_nothing (only t)) k) (λ p h. h.1)

pub keeps_listed : {A : Type 0} (a : Grammar A) (P : A → Type 0)
    → Keeps a P
    → Keeps (listed a) (λ xs. (1 ≤ length xs) × AllByRecursion P xs)
keeps_listed a P k =
    keeps_made (a ∙ many (preceded (Mark Comma) a)) (λ p. p.0 ∷ p.1) (λ p. P p.0 × AllByRecursion P p.1) (λ xs. (1 ≤ length xs) × AllByRecursion P xs)
    (keeps_pair a (many (preceded (Mark Comma) a)) P (AllByRecursion P) k (keeps_many (preceded (Mark Comma) a) P (keeps_preceded (Mark Comma) a P k)))
    (λ p h. (omega arith, h))

-- a part between two parts without trees
keeps_inside : {A : Type 0} (l r : Mark') (a : Grammar A) (P : A → Type 0)
    → Keeps a P
    → Keeps ((mark l ∙ (a ∙ mark r)) ⇒ (λ p. p.1.0)) P
keeps_inside l r a P k =
    keeps_made (mark l ∙ (a ∙ mark r)) (λ p. p.1.0) (λ p. Unit {0} × (P p.1.0 × Unit {0})) P
    (keeps_pair (mark l) (a ∙ mark r) Nothing (λ p. P p.0 × Unit {0}) (keeps_nothing (mark l)) (keeps_pair a (mark r) P Nothing k (keeps_nothing (mark r))))
    (λ p h. h.1.0)

pub keeps_braces : {A : Type 0} (a : Grammar A) (P : A → Type 0) → Keeps a P → Keeps (braces a) P
keeps_braces = keeps_inside OpenBrace CloseBrace

pub keeps_cut_off : {A : Type 0} (P : A → Type 0) → Keeps (cut_off {A = A}) P
keeps_cut_off P x ts h i = absurd i

pub keeps_opens : {A : Type 0} (n : ℕ) (a : Grammar A) (P : A → Type 0) → Keeps a P → Keeps (opens n a) P
keeps_opens zero a P k = keeps_cut_off P
keeps_opens (suc n) a P k = k

-- it holds of what is there
abbrev pub OfOption : {A : Type 0} → (A → Type 0) → Option A → Type 0
OfOption P None = Unit {0}
OfOption P (Some x) = P x

pub keeps_optional : {A : Type 0} (a : Grammar A) (P : A → Type 0) → Keeps a P → Keeps (optional a) (OfOption P)
keeps_optional a P k None ts h i = tt
keeps_optional a P k (Some x) ts h i = k x ts h i

pub keeps_marked : {B : Type 0} (b : Grammar B) (Q : B → Type 0) → Keeps b Q → Keeps (marked b) (AllByRecursion Q)
keeps_marked b Q k =
    keeps_preceded (Mark Ellipsis) (many (preceded (Mark Comma) b)) (AllByRecursion Q) (keeps_many (preceded (Mark Comma) b) Q (keeps_preceded (Mark Comma) b Q k))

-- the parts before the marker, and those after it
abbrev pub OfListing : {A B : Type 0} → (A → Type 0) → (B → Type 0) → List A × Option (List B) → Type 0
OfListing P Q l = AllByRecursion P l.0 × OfOption (AllByRecursion Q) l.1

pub keeps_extensible : {A B : Type 0} (a : Grammar A) (b : Grammar B) (P : A → Type 0) (Q : B → Type 0)
    → Keeps a P
    → Keeps b Q
    → Keeps (extensible a b) (λ l. (1 ≤ length l.0) × OfListing P Q l)
keeps_extensible a b P Q k q l ts h i =
    let s = keeps_pair (listed a) (optional (preceded (Mark Comma) (marked b))) (λ xs. (1 ≤ length xs) × AllByRecursion P xs) (OfOption (AllByRecursion Q)) (keeps_listed a P k) (keeps_optional (preceded (Mark Comma) (marked b)) (AllByRecursion Q) (keeps_preceded (Mark Comma) (marked b) (AllByRecursion Q) (keeps_marked b Q q))) l ts h i in
    (s.0.0, (s.0.1, s.1))

pub keeps_rootless : {A B : Type 0} (a : Grammar A) (b : Grammar B) (P : A → Type 0) (Q : B → Type 0)
    → Keeps a P
    → Keeps b Q
    → Keeps (rootless a b) (OfListing P Q)
keeps_rootless a b P Q k q =
    keeps_either (marked b ⇒ (λ ys. ([], Some ys))) (extensible a b) (OfListing P Q)
    (keeps_made (marked b) (λ ys. ([], Some ys)) (AllByRecursion Q) (OfListing P Q) (keeps_marked b Q q) (λ ys h. (tt, h)))
    (λ l ts h i. (keeps_extensible a b P Q k q l ts h i).1)

-- a part, or parts in version brackets
abbrev pub OfAddition : {A : Type 0} → (A → Type 0) → A ⊎ List A → Type 0
OfAddition P (inl x) = P x
OfAddition P (inr xs) = AllByRecursion P xs

pub keeps_addition : {A : Type 0} (fits : ℕ → Bool) (a : Grammar A) (P : A → Type 0)
    → Keeps a P
    → Keeps (addition fits a) (OfAddition P)
keeps_addition fits a P k =
    keeps_either (a ⇒ inl) (preceded (Mark OpenVersion) (version fits ∙ (listed a ∙ mark CloseVersion)) ⇒ (λ p. inr p.1.0)) (OfAddition P)
    (keeps_made a inl P (OfAddition P) k (λ x h. h))
    (keeps_made (preceded (Mark OpenVersion) (version fits ∙ (listed a ∙ mark CloseVersion))) (λ p. inr p.1.0) (λ p. Unit {0} × (((1 ≤ length p.1.0) × AllByRecursion P p.1.0) × Unit {0})) (OfAddition P)
    (keeps_preceded (Mark OpenVersion) (version fits ∙ (listed a ∙ mark CloseVersion)) (λ p. Unit {0} × (((1 ≤ length p.1.0) × AllByRecursion P p.1.0) × Unit {0}))
    (keeps_pair (version fits) (listed a ∙ mark CloseVersion) Nothing (λ p. ((1 ≤ length p.0) × AllByRecursion P p.0) × Unit {0}) (keeps_nothing (version fits))
    (keeps_pair (listed a) (mark CloseVersion) (λ xs. (1 ≤ length xs) × AllByRecursion P xs) Nothing (keeps_listed a P k) (keeps_nothing (mark CloseVersion)))))
    (λ p h. h.1.0.1))
