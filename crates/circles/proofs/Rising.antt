-- What ranks say of circles.
use Rattle.std.proofs.Common.{◌≡◌, inl, inr, ℕ, ◌+◌, ◌<◌, ◌≤◌, List, length, map, Some, refl, sym, subst, ap, ◌∙◌, get_or, arith}
use Rattle.std.specs.Prelude.{slice_get, slice_index, Bool}
use Rattle.std.proofs.lemmas.Option.{slice_get_within, same_Some}
use Rattle.type_table.specs.declared.table.ListMember.{ListMember}
use Rattle.type_table.specs.trees.declared.types.ListKind.{ListKind}
use Rattle.type_table.specs.names.Modules.{OccursIn}
use Rattle.circles.specs.proving.Ranks.{parts, AreFrom, Rise, DefaultsAbove}
use Rattle.circles.specs.proving.Reach.{HasDefault}
use Rattle.type_table.specs.Seen.{part_of}
use Rattle.circles.specs.Circles.{IsPart, referred, target_tag, member, element, Reaches, itself, onward, IsWrittenDefaultCircle}
use Rattle.type_table.specs.Table.{Part, WrittenKind, simple, reference, tagged, members, elements, Type'}
use Rattle.circles.proofs.Circling.{leads_of_circle}
use Rattle.type_table.specs.names.proving.Distinct.{occurs_map as map_get, item_at}
use Rattle.circles.proofs.Marking.{IsDefaultedBelow, last_or, same_at}

-- what is a part is among the parts
pub among : (j : ℕ) (k : WrittenKind) → IsPart j k → OccursIn (parts k) j
among j (simple p) h = elim h [ ]
among j (reference k) referred = (0, refl)
among j (tagged t w k) target_tag = (0, refl)
among j (members l m cs) (member n c e q) = (n, map_get (λ (c : Part). c.ty) cs n c e ∙ ap Some q)
among j (elements e k) element = (0, refl)

pub from_all : (r : ℕ) (ranks : List ℕ) (k : WrittenKind) →
    ((n j : ℕ) → n < length (parts k) → slice_get (parts k) n ≡ Some j → r ≤ slice_index ranks j) → AreFrom r ranks k
from_all r ranks k all j h = let s = among j k h in all s.0 j (slice_get_within (parts k) s.0 j s.1) s.1

pub type_there : (cs : List ListMember) (n : ℕ) (c : ListMember) → n < length cs → c ≡ get_or cs n c →
    Some c.ty ≡ slice_get (map (λ (p : Part). p.ty) (map part_of cs)) n
type_there cs n c l e = sym (map_get (λ (p : Part). p.ty) (map part_of cs) n (part_of c) (item_at part_of cs n c l e))

pub rise_here : (ts : List Type') (ranks : List ℕ) (i r : ℕ) (u t : Type') → slice_get ts i ≡ Some u →
    r ≡ slice_index ranks i → AreFrom r ranks u.kind → slice_get ts i ≡ Some t →
    AreFrom (slice_index ranks i) ranks t.kind
rise_here ts ranks i r u t e q a f = subst (λ z. AreFrom z ranks t.kind) q (subst (λ (z : Type'). AreFrom r ranks z.kind) (same_Some u t (sym e ∙ f)) a)

-- one component more
pub above_more : (r : ℕ) (ranks : List ℕ) (cs : List Part) (n : ℕ) (c : Part) → slice_get cs n ≡ Some c →
    ((j : ℕ) → IsDefaultedBelow cs n j → r < slice_index ranks j) → (HasDefault c → r < slice_index ranks c.ty) →
    (j : ℕ) → IsDefaultedBelow cs (n + 1) j → r < slice_index ranks j
above_more r ranks cs n c e before here j h =
    elim (last_or h.is.number n h.few) [
      | inl l ↦ before j (record { is = h.is; few = l })
      | inr q ↦ (let s = same_at cs n h.is.component c (ap (λ z. slice_get cs z) (sym q) ∙ h.is.held) e in subst (λ z. r < slice_index ranks z) (sym (ap (λ (z : Part). z.ty) s) ∙ h.is.ty) (here (subst HasDefault s h.is.defaulted)))
    ]

pub above_all : (r : ℕ) (ranks : List ℕ) (cs : List Part) (n : ℕ) → n ≡ length cs →
    ((j : ℕ) → IsDefaultedBelow cs n j → r < slice_index ranks j) → DefaultsAbove r ranks cs
above_all r ranks cs n q all j d = let l = slice_get_within cs d.number d.component d.held in all j (record { is = d; few = omega (arith, l, q) })

reaches_up : (ts : List Type') (ranks : List ℕ) (i j : ℕ) → Rise ts ranks → Reaches ts i j →
    slice_index ranks i ≤ slice_index ranks j
reaches_up ts ranks i j rise itself = omega arith
reaches_up ts ranks i j rise (onward k t e p r) =
    let a = rise i t e k p in
    let b = reaches_up ts ranks k j rise r in
    omega (arith, a, b)

-- a list whose components with a DEFAULT have higher ranks is in no circle
pub no_circle : (ts : List Type') (ranks : List ℕ) (i : ℕ) (t : Type') (l : ListKind) (m : Bool) (cs : List Part) →
    Rise ts ranks → slice_get ts i ≡ Some t → t.kind ≡ members l m cs →
    DefaultsAbove (slice_index ranks i) ranks cs → IsWrittenDefaultCircle ts i → ⊥
no_circle ts ranks i t l m cs rise e k above h =
    let d = leads_of_circle ts i t l m cs e k h in
    let a = above d.from d.defaulted in
    let b = reaches_up ts ranks d.from i rise d.reaches in
    absurd (omega (arith, a, b))
