-- A component that is present, or left out, in the events of a routine.
use Rattle.std.proofs.Common.{◌≡◌, ℕ, Bool, true, List, ◌∷◌, ◌++◌, sym, ap, subst, ◌∙◌}
use Rattle.std.specs.Prelude.{Option, Some, None, slice_get}
use Rattle.std.proofs.lemmas.Option.{same_Some}
use Rattle.asn_base.specs.declared.tag.Tag.{Tag}
use Rattle.asn_base.specs.Abstract.{AbstractValue, fields, Row}
use Rattle.asn_base.specs.Types.{Kind, Presence, default, Component, Resolved, Is}
use Rattle.asn_base.specs.Schemas.{components}
use Rattle.asn_base.specs.proving.OneKind.{same_kind}
use Rattle.codec_code.specs.declared.step.Step.{Step}
use Rattle.codec_code.specs.Events.{Event, leaves_out}
use Rattle.codec_code.specs.Routines.{routine_at, need_of, field_of}
use Rattle.codec_code.specs.Steps.{Steps, IsDefaultAt, IsTheDefault, is_absent, is_default, component_at, has_default}
use Rattle.codec_code.specs.proving.Inversion.{Held, not_held, held}

-- c is the component of type t at a place
pub record Placed (s : List Resolved) (t i : ℕ) (c : Component) : Type 0 where
  pub tags : List Tag
  pub kind : Kind
  pub is : Is s t tags kind
  pub at : slice_get (components kind) i ≡ Some c

placed_once : {s : List Resolved} {t i : ℕ} {c : Component} {w : AbstractValue}
    → Placed s t i c
    → (a : IsDefaultAt s t i w)
    → a.component ≡ c
placed_once {i = i} {c = c} p a =
    same_Some a.component c (sym a.is_at ∙ ap (λ q. slice_get (components q) i) (same_kind p.is a.is) ∙ p.at)

pub default_in : {s : List Resolved} {t i : ℕ} {c : Component} {w : AbstractValue}
    → Placed s t i c
    → IsDefaultAt s t i w
    → IsTheDefault s c w
default_in {s} {w = w} p a = subst (λ q. IsTheDefault s q w) (placed_once p a) a.is_the_default

abbrev default_needed : Presence → Bool
default_needed p = has_default (need_of p)

pub needs_default : {p : Presence} {d : AbstractValue} → p ≡ default d → has_default (need_of p) ≡ true
needs_default e = ap default_needed e

-- the events of a component with value v, which is left out or present, and of the steps after it
pub data Present (s : List Resolved) (t i : ℕ) (c : Component) (v : AbstractValue) (mark : List Event) (ss : List Step)
    (ws : Row) (es : List Event) : Type 0 where
  omitted : (fs : List Event)
      → IsTheDefault s c v
      → Steps s t ss (fields ws) fs
      → es ≡ leaves_out (has_default (need_of c.presence)) ∷ fs
      → Present s t i c v mark ss ws es
  written : (xs fs : List Event)
      → (IsTheDefault s c v → ⊥)
      → Steps s c.type (routine_at s c.type) v xs
      → Steps s t ss (fields ws) fs
      → es ≡ xs ++ (mark ++ fs)
      → Present s t i c v mark ss ws es

nothing_there : (o : Option (Option AbstractValue)) (w : AbstractValue) → o ≡ Some None → o ≡ Some (Some w) → ⊥
nothing_there o w e f =
    let g : Some None ≡ Some (Some w) = sym e ∙ f in
    let h : None ≡ Some w = cc in cc

some_some : {A : Type 0} {v w : A} → Some (Some v) ≡ Some (Some w) → v ≡ w
some_some e = cc

pub present_in : {s : List Resolved} {t i : ℕ} {c : Component} {v : AbstractValue} {mark : List Event}
    {ss : List Step} {ws : Row} {es : List Event}
    → Placed s t i c
    → component_at ws i ≡ Some (Some v)
    → Held s t (field_of i c) mark ss ws es
    → Present s t i c v mark ss ws es
present_in {v = v} p at (not_held fs (is_absent m e) d f) = absurd (nothing_there _ v e at)
present_in {s = s} {t = t} {i = i} p at (not_held fs (is_default n e a) d f) =
    omitted fs (default_in p (subst (IsDefaultAt s t i) (some_some (sym e ∙ at)) a)) d f
present_in {s = s} {c = c} p at (held w xs fs a b d f) =
    let e = some_some (sym a.is_at ∙ at) in
    written xs fs
    (λ q. subst (λ z. IsTheDefault s c z → ⊥) e
    (λ z. a.no_default (needs_default z.has_default) (record {
      tags = p.tags;
      kind = p.kind;
      is = p.is;
      component = c;
      is_at = p.at;
      is_the_default = z;
    })) q)
    (subst (λ z. Steps s c.type (routine_at s c.type) z xs) e b) d f

pub absent_in : {s : List Resolved} {t i : ℕ} (c : Component) {mark : List Event} {ss : List Step} {ws : Row}
    {es : List Event}
    → component_at ws i ≡ Some None
    → Held s t (field_of i c) mark ss ws es
    → (fs : List Event) × Steps s t ss (fields ws) fs × (es ≡ leaves_out (has_default (need_of c.presence)) ∷ fs)
absent_in c at (not_held fs a d f) = (fs, d, f)
absent_in c at (held w xs fs a b d f) = absurd (nothing_there _ w at a.is_at)
