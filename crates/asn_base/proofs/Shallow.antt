-- Values that are known to be of a type, and how many levels they have.
use Rattle.std.proofs.Common.{◌≡◌, ℕ, ◌<◌, Bool, List, ◌∷◌, drop, inl, inr, subst}
use Rattle.std.specs.Prelude.{◌↔◌, IsTrue, Option, Some, None, slice_get}
use Rattle.asn_base.specs.Abstract.{AbstractValue, row_of_list, row_of_options}
use Rattle.asn_base.specs.Decided.{HoldsMembers, IsComponent}
use Rattle.asn_base.specs.Types.{Kind, Component, default, Resolved, Is}
use Rattle.asn_base.specs.Typed.{AreComponents, AreElements, IsPrimitive, MayBeAbsent, ValueIn, value_in, ValueOf}
use Rattle.asn_base.proofs.Leaves.{without}
use Rattle.asn_base.proofs.Parts.{first_and_rest, in_default, in_leaf_yes, split_elements, to_parts}
use Rattle.asn_base.specs.proving.OneKind.{same_kind}
use Rattle.asn_base.specs.proving.Lists.{onward}
use Rattle.asn_base.specs.proving.OneDefault.{value_of_at}

below : {s : List Resolved} {t m : ℕ} {r : Resolved} {v : AbstractValue} → slice_get s t ≡ Some r → ValueIn s m t v → (k : ℕ) × ValueOf s k r.kind v
below {r = r} e (value_in {n = n} i a) = (n, value_of_at (same_kind (at e) i) a)
  where
    at : {s : List Resolved} {t : ℕ} {r : Resolved} → slice_get s t ≡ Some r → Is s t r.tags r.kind
    at e = record { found = e }

-- members of a value of a kind that holds others
pub holder_known : {s : List Resolved} {t : ℕ} {r : Resolved} {v : AbstractValue} → slice_get s t ≡ Some r → (IsPrimitive r.kind v → ⊥) → (m : ℕ) × ValueIn s m t v → (m : ℕ) × HoldsMembers s m r.kind v
holder_known e n p = let b = below e p.1 in (b.0, without n (to_parts b.1))

-- a value that holds no others has one level
pub leaf_known : {s : List Resolved} {t : ℕ} {r : Resolved} {v : AbstractValue} (n : ℕ) → 0 < n → slice_get s t ≡ Some r → ((m : ℕ) → HoldsMembers s m r.kind v → ⊥) → (m : ℕ) × ValueIn s m t v → ValueIn s n t v
leaf_known n l e none p = let b = below e p.1 in in_leaf_yes n l e (elim (to_parts b.1) [ inl f ↦ f | inr h ↦ absurd (none b.0 h) ])

-- ---- by kind

pub known_as : (s : List Resolved) {k k' : Kind} {v w : AbstractValue} → k ≡ k' → v ≡ w → (m : ℕ) × HoldsMembers s m k v → (m : ℕ) × HoldsMembers s m k' w
known_as s {k' = k'} {v = v} e f p = (p.0, subst (λ q. HoldsMembers s p.0 k' q) f (subst (λ q. HoldsMembers s p.0 q v) e p.1))

-- groups and sizes stay as they are known to be
pub with_known : {P Q : Type 0} {r : Bool} → Q → IsTrue r ↔ P → IsTrue r ↔ (P × Q)
with_known q h = onward h (λ p. (p, q)) (λ b. b.0)

-- ---- components

pub first_known : {s : List Resolved} {c : Component} {o : Option AbstractValue} (cs : List Component) (vs : List (Option AbstractValue)) (i : ℕ) {cs' : List Component} {vs' : List (Option AbstractValue)} → drop i cs ≡ c ∷ cs' → drop i vs ≡ o ∷ vs'
    → (m : ℕ) × AreComponents s m (drop i cs) (row_of_options (drop i vs)) → (m : ℕ) × (IsComponent s m c o × AreComponents s m cs' (row_of_options vs'))
first_known {s} {c} {o} cs vs i {cs' = cs'} {vs' = vs'} e f p =
    let b = subst (λ q. AreComponents s p.0 q (row_of_options (drop i vs))) e p.1 in
    let d = subst (λ q. AreComponents s p.0 (c ∷ cs') (row_of_options q)) f b in
    (p.0, (first_and_rest {s = s} {n = p.0} {c = c} {cs = cs'} o vs').0 d)

pub default_known : {s : List Resolved} (c : Component) {o : Option AbstractValue} {d : AbstractValue} → o ≡ None → c.presence ≡ default d → (m : ℕ) × IsComponent s m c o → (m : ℕ) × ValueIn s m c.type d
default_known {s} c {d = d} e f p = (p.0, in_default (subst (MayBeAbsent s p.0 c.type) f (subst (IsComponent s p.0 c) e p.1)))

pub present_known : {s : List Resolved} (c : Component) {o : Option AbstractValue} {v : AbstractValue} → o ≡ Some v → (m : ℕ) × IsComponent s m c o → (m : ℕ) × ValueIn s m c.type v
present_known {s} c e p = (p.0, subst (IsComponent s p.0 c) e p.1)

-- ---- elements

pub element_known : {s : List Resolved} {u : ℕ} {v : AbstractValue} (vs : List AbstractValue) (i : ℕ) {vs' : List AbstractValue} → drop i vs ≡ v ∷ vs'
    → (m : ℕ) × AreElements s m u (row_of_list (drop i vs)) → (m : ℕ) × (ValueIn s m u v × AreElements s m u (row_of_list vs'))
element_known {s} {u} vs i e p = (p.0, split_elements (subst (λ q. AreElements s p.0 u (row_of_list q)) e p.1))
