-- A component has one default, and an alternative has one type; values of a type that is known by an equation.
use Rattle.std.proofs.Common.{◌≡◌, ◌⊎◌, inl, inr, ℕ, List, refl, sym, ap, subst, ◌∙◌}
use Rattle.std.specs.Prelude.{Option, Some, None}
use Rattle.asn_base.specs.Abstract.{AbstractValue, null}
use Rattle.asn_base.specs.Types.{Alternative, Kind, Presence, mandatory, optional, default, addition, Resolved}
use Rattle.asn_base.specs.Typed.{ValueIn, ValueOf}

-- the default of a component, or NULL if there is none
abbrev pub default_in : Presence → AbstractValue
default_in mandatory = null
default_in optional = null
default_in (default d) = d
default_in (addition o g) = null

pub same_default : {p : Presence} {d e : AbstractValue} → p ≡ default d → p ≡ default e → d ≡ e
same_default a b = ap default_in (sym a ∙ b)

pub default_or_not : (p : Presence)
    → ((d : AbstractValue) × (p ≡ default d)) ⊎ ((d : AbstractValue) → p ≡ default d → ⊥)
default_or_not mandatory = inr (λ d e. cc)
default_or_not optional = inr (λ d e. cc)
default_or_not (default d) = inl (d, refl)
default_or_not (addition o g) = inr (λ d e. cc)

pub same_alternative : {o : Option Alternative} {a b : Alternative} → o ≡ Some a → o ≡ Some b → b.type ≡ a.type
same_alternative e f = ap type_in (sym f ∙ e)
  where
    type_in : Option Alternative → ℕ
    type_in None = 0
    type_in (Some a) = a.type

pub value_of_at : {s : List Resolved} {n : ℕ} {k k' : Kind} {v : AbstractValue} → k' ≡ k
    → ValueOf s n k' v → ValueOf s n k v
value_of_at {s} {n} {v = v} e a = subst (λ q. ValueOf s n q v) e a

pub value_at : {s : List Resolved} {n t u : ℕ} {v : AbstractValue} → u ≡ t → ValueIn s n u v → ValueIn s n t v
value_at {s} {n} {v = v} e a = subst (λ q. ValueIn s n q v) e a
