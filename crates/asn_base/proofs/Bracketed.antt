-- Groups of additions, place by place.
use Rattle.std.proofs.Common.{◌≡◌, ℕ, true, List, [], ◌∷◌, drop, inl, inr, sym, subst}
use Rattle.std.specs.Prelude.{◌↔◌, ◌⊎◌, IsTrue, Option, Some, None}
use Rattle.asn_base.specs.Abstract.{AbstractValue, row_of_options}
use Rattle.asn_base.specs.Decided.{IsDue, IsPresentOf}
use Rattle.asn_base.specs.Types.{Component}
use Rattle.asn_base.specs.Typed.{HasOfGroup, LacksOfGroup, GroupsAreWhole}
use Rattle.asn_base.proofs.Leaves.{without, yes}
use Rattle.asn_base.specs.proving.Lists.{onward}

-- ---- one component

pub absent_of : (g : ℕ) (c : Component) {o : Option AbstractValue} → None ≡ o → IsPresentOf g c o → ⊥
absent_of g c e h = subst (IsPresentOf g c) (sym e) h

-- a component that is present isn't missing
pub kept_there : (P : ℕ → Type 0) (c : Component) {o : Option AbstractValue} {v : AbstractValue} → o ≡ Some v → IsTrue true ↔ ((h : ℕ) → IsDue h c o → P h → ⊥)
kept_there P c e = yes (λ h s p. subst (IsDue h c) e s)

-- ---- all components

abbrev pub HasFrom : ℕ → List Component → List (Option AbstractValue) → ℕ → Type 0
HasFrom g cs vs i = HasOfGroup g cs (row_of_options vs) ↔ HasOfGroup g (drop i cs) (row_of_options (drop i vs))

has_first : (g : ℕ) (c : Component) (cs : List Component) (o : Option AbstractValue) (os : List (Option AbstractValue)) → HasOfGroup g (c ∷ cs) (row_of_options (o ∷ os)) ↔ (IsPresentOf g c o ⊎ HasOfGroup g cs (row_of_options os))
has_first g c cs None os = (λ x. inr x, λ x. without (λ y. y) x)
has_first g c cs (Some v) os = (λ x. x, λ x. x)

pub has_at : (g : ℕ) (cs : List Component) (vs : List (Option AbstractValue)) (i : ℕ) {c : Component} {o : Option AbstractValue} {cs' : List Component} {vs' : List (Option AbstractValue)} → drop i cs ≡ c ∷ cs' → drop i vs ≡ o ∷ vs' → HasFrom g cs vs i → HasOfGroup g cs (row_of_options vs) ↔ (IsPresentOf g c o ⊎ HasOfGroup g cs' (row_of_options vs'))
has_at g cs vs i {c = c} {o = o} {cs' = cs'} {vs' = vs'} e f a =
    let b = subst (λ q. HasOfGroup g cs (row_of_options vs) ↔ HasOfGroup g q (row_of_options (drop i vs))) e a in
    let d = subst (λ q. HasOfGroup g cs (row_of_options vs) ↔ HasOfGroup g (c ∷ cs') (row_of_options q)) f b in
    let h = has_first g c cs' o vs' in
    onward d h.0 h.1

pub has_none : (g : ℕ) (cs : List Component) (vs : List (Option AbstractValue)) (i : ℕ) → drop i cs ≡ [] → HasFrom g cs vs i → HasOfGroup g cs (row_of_options vs) → ⊥
has_none g cs vs i e a x = subst (λ q. HasOfGroup g q (row_of_options (drop i vs))) e (a.0 x)

lacks_first : (g : ℕ) (c : Component) (cs : List Component) (o : Option AbstractValue) (os : List (Option AbstractValue)) → LacksOfGroup g (c ∷ cs) (row_of_options (o ∷ os)) ↔ (IsDue g c o ⊎ LacksOfGroup g cs (row_of_options os))
lacks_first g c cs None os = (λ x. x, λ x. x)
lacks_first g c cs (Some v) os = (λ x. inr x, λ x. without (λ y. y) x)

-- all groups are whole exactly if none lacks a component from a place on
abbrev pub GroupsFrom : List Component → List (Option AbstractValue) → ℕ → Type 0
GroupsFrom cs vs i = GroupsAreWhole cs (row_of_options vs) ↔ ((g : ℕ) → HasOfGroup g cs (row_of_options vs) → LacksOfGroup g (drop i cs) (row_of_options (drop i vs)) → ⊥)

pub groups_at : (cs : List Component) (vs : List (Option AbstractValue)) (i : ℕ) {c : Component} {o : Option AbstractValue} {cs' : List Component} {vs' : List (Option AbstractValue)} → drop i cs ≡ c ∷ cs' → drop i vs ≡ o ∷ vs' → GroupsFrom cs vs i → GroupsAreWhole cs (row_of_options vs) ↔ (((g : ℕ) → IsDue g c o → HasOfGroup g cs (row_of_options vs) → ⊥) × ((g : ℕ) → HasOfGroup g cs (row_of_options vs) → LacksOfGroup g cs' (row_of_options vs') → ⊥))
groups_at cs vs i {c = c} {o = o} {cs' = cs'} {vs' = vs'} e f a =
    let b = subst (λ q. GroupsAreWhole cs (row_of_options vs) ↔ ((g : ℕ) → HasOfGroup g cs (row_of_options vs) → LacksOfGroup g q (row_of_options (drop i vs)) → ⊥)) e a in
    let d = subst (λ q. GroupsAreWhole cs (row_of_options vs) ↔ ((g : ℕ) → HasOfGroup g cs (row_of_options vs) → LacksOfGroup g (c ∷ cs') (row_of_options q) → ⊥)) f b in
    onward d
    (λ w. (λ g x h. w g h ((lacks_first g c cs' o vs').1 (inl x)), λ g h x. w g h ((lacks_first g c cs' o vs').1 (inr x))))
    (λ p g h x. elim ((lacks_first g c cs' o vs').0 x) [ inl y ↦ p.0 g y h | inr y ↦ p.1 g h y ])

pub groups_all : (cs : List Component) (vs : List (Option AbstractValue)) (i : ℕ) → drop i cs ≡ [] → GroupsFrom cs vs i → GroupsAreWhole cs (row_of_options vs)
groups_all cs vs i e a = a.1 (λ g h x. absurd (subst (λ q. LacksOfGroup g q (row_of_options (drop i vs))) e x))
