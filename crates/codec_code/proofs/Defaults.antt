-- Whether a value is the same as a component's DEFAULT.
use Rattle.std.proofs.Common.{◌≡◌, ℕ, zero, suc, Bool, false, List, [], ◌∷◌, refl, sym, ap, subst, ◌∙◌}
use Rattle.std.specs.List.{AllByRecursion}
use Rattle.std.specs.Prelude.{◌↔◌, IsTrue, Option, Some, None, slice_get}
use Rattle.asn_base.specs.Abstract.{AbstractValue, null}
use Rattle.asn_base.specs.Types.{Presence, mandatory, optional, default, addition, Component, Resolved, Kind, a_sequence, a_set}
use Rattle.asn_base.specs.Same.{Same, IsLeaf, Alike, alike, AlikeBy, equal, zeros, alike_sequence, alike_set, alike_sequence_of, alike_set_of, alike_choice}
use Rattle.asn_base.specs.Schemas.{HasValue, IsSchema, IsSound, components}
use Rattle.asn_base.specs.Typed.{IsValueWithoutNodes, IsPrimitive, fits_boolean, fits_integer, ValueIn, value_in as in_type, ValueOf, of_leaf, of_sequence, of_set, of_sequence_of, of_set_of, of_choice}
use Rattle.codec_code.specs.Plain.{IsPlain}
use Rattle.codec_code.specs.Routines.{component_in}
use Rattle.codec_code.specs.Steps.{IsDefaultAt, IsTheDefault}

abbrev value_in : Presence → AbstractValue
value_in mandatory = null
value_in optional = null
value_in (default d) = d
value_in (addition o g) = null

abbrev of_type : ℕ → Option Resolved → Option Component
of_type i None = None
of_type i (Some r) = slice_get (components r.kind) i

some_same : {A : Type 0} {x y : A} → Some x ≡ Some y → x ≡ y
some_same e = cc

none_some : {A : Type 0} {x : A} → None ≡ Some x → ⊥
none_some e = cc

never : IsTrue false → ⊥
never e = cc

component_is : {s : List Resolved} {t i : ℕ} {w : AbstractValue} → (a : IsDefaultAt s t i w) → component_in s t i ≡ Some a.component
component_is {i = i} a = ap (of_type i) a.is.found ∙ a.is_at

pub of_none : (s : List Resolved) (t i : ℕ) (w : AbstractValue) → component_in s t i ≡ None → IsTrue false ↔ IsDefaultAt s t i w
of_none s t i w e = ((λ z. absurd (never z)), λ a. absurd (none_some (sym e ∙ component_is a)))

-- the type whose component it is
type_there : (i : ℕ) (o : Option Resolved) (c : Component) → of_type i o ≡ Some c → (r : Resolved) × (o ≡ Some r) × (slice_get (components r.kind) i ≡ Some c)
type_there i None c e = absurd (none_some e)
type_there i (Some r) c e = (r, refl, e)

pub of_component : (b : Bool) (s : List Resolved) (t i : ℕ) (c : Component) (w : AbstractValue) → component_in s t i ≡ Some c → IsTrue b ↔ IsTheDefault s c w → IsTrue b ↔ IsDefaultAt s t i w
of_component b s t i c w e h =
    let r = type_there i (slice_get s t) c e in (
      (λ z. record { tags = r.0.tags; kind = r.0.kind; is = record { found = r.1 }; component = c; is_at = r.2; is_the_default = h.0 z }),
      λ a. h.1 (subst (λ q. IsTheDefault s q w) (some_same (sym (component_is a) ∙ e)) a.is_the_default),
    )

pub of_default : (b : Bool) (s : List Resolved) (c : Component) (w d : AbstractValue) → c.presence ≡ default d → IsTrue b ↔ Same s c.type w d → IsTrue b ↔ IsTheDefault s c w
of_default b s c w d e h = (
  (λ z. record { value = d; has_default = e; same = h.0 z }),
  λ a. h.1 (subst (λ q. Same s c.type w q) (ap value_in (sym a.has_default ∙ e)) a.same),
)

pub of_mandatory : (s : List Resolved) (c : Component) (w : AbstractValue) → c.presence ≡ mandatory → IsTrue false ↔ IsTheDefault s c w
of_mandatory s c w e = ((λ z. absurd (never z)), λ a. absurd (let f : mandatory ≡ default a.value = sym e ∙ a.has_default in cc))

pub of_optional : (s : List Resolved) (c : Component) (w : AbstractValue) → c.presence ≡ optional → IsTrue false ↔ IsTheDefault s c w
of_optional s c w e = ((λ z. absurd (never z)), λ a. absurd (let f : optional ≡ default a.value = sym e ∙ a.has_default in cc))

pub of_addition : (s : List Resolved) (c : Component) (w : AbstractValue) (o : Bool) (g : Option ℕ) → c.presence ≡ addition o g → IsTrue false ↔ IsTheDefault s c w
of_addition s c w o g e = ((λ z. absurd (never z)), λ a. absurd (let f : addition o g ≡ default a.value = sym e ∙ a.has_default in cc))

-- ---- a default is a value of its type

at_place : {A : Type 0} (P : A → Type 0) (xs : List A) (i : ℕ) (x : A) → slice_get xs i ≡ Some x → AllByRecursion P xs → P x
at_place P [] i x e a = absurd (none_some e)
at_place P (y ∷ xs) zero x e a = subst P (some_same e) a.0
at_place P (y ∷ xs) (suc i) x e a = at_place P xs i x e a.1

sound_component : (s : List Resolved) (i : ℕ) (c : Component) (k : Kind) → IsSound s k → slice_get (components k) i ≡ Some c → HasValue s c
sound_component s i c (a_sequence e cs) a f = at_place (HasValue s) cs i c f a.defaults
sound_component s i c (a_set e cs) a f = at_place (HasValue s) cs i c f a.0.defaults
sound_component s i c k a f = absurd cc

pub default_known : (s : List Resolved) (t i : ℕ) (c : Component) → IsSchema s → component_in s t i ≡ Some c → HasValue s c
default_known s t i c a e =
    let r = type_there i (slice_get s t) c e in
    sound_component s i c r.0.kind (a.sound t r.0.tags r.0.kind (record { found = r.1 })) r.2

pub is_known : (s : List Resolved) (c : Component) (d : AbstractValue) → HasValue s c → c.presence ≡ default d → IsValueWithoutNodes s c.type d
is_known s c d h e = (h d e).shaped

pub not_of_type : (b : Bool) (s : List Resolved) (t : ℕ) (v w : AbstractValue) → b ≡ false → IsTrue b ↔ IsValueWithoutNodes s t v → IsTrue false ↔ Same s t v w
not_of_type b s t v w e h = ((λ z. absurd (never z)), λ a. absurd (never (subst IsTrue e (h.1 a.first))))

-- ---- a truth or a number is the same as an equal one alone

plain_leaf : {k : Kind} {w : AbstractValue} → IsPlain w → IsPrimitive k w → IsLeaf k
plain_leaf p fits_boolean = tt
plain_leaf p (fits_integer l a) = tt
plain_leaf p f = absurd p

plain_by : {s : List Resolved} {n : ℕ} {k : Kind} {w : AbstractValue} → IsPlain w → ValueOf s n k w → AlikeBy s k w w
plain_by p (of_leaf f) = equal (plain_leaf p f)
plain_by p (of_sequence a g) = absurd p
plain_by p (of_set a g) = absurd p
plain_by p (of_sequence_of a g) = absurd p
plain_by p (of_set_of a g) = absurd p
plain_by p (of_choice a g) = absurd p

plain_alike : {s : List Resolved} {n t : ℕ} {w : AbstractValue} → IsPlain w → ValueIn s n t w → Alike s t w w
plain_alike p (in_type i a) = alike i (plain_by p a)

equal_by : {s : List Resolved} {k : Kind} {v w : AbstractValue} → IsPlain w → AlikeBy s k v w → v ≡ w
equal_by p (equal l) = refl
equal_by p (zeros m n e) = absurd p
equal_by p (alike_sequence a) = absurd p
equal_by p (alike_set a) = absurd p
equal_by p (alike_sequence_of a) = absurd p
equal_by p (alike_set_of a) = absurd p
equal_by p (alike_choice g a) = absurd p

plain_equal : {s : List Resolved} {t : ℕ} {v w : AbstractValue} → IsPlain w → Alike s t v w → v ≡ w
plain_equal p (alike i a) = equal_by p a

pub plain_same : (b : Bool) (s : List Resolved) (t : ℕ) (v w : AbstractValue) → IsValueWithoutNodes s t w → IsPlain w → IsTrue b ↔ (v ≡ w) → IsTrue b ↔ Same s t v w
plain_same b s t v w k p h = (
  (λ z. subst (λ q. Same s t q w) (sym (h.0 z)) (record { first = k; second = k; are_alike = plain_alike p k })),
  λ a. h.1 (plain_equal p a.are_alike),
)
