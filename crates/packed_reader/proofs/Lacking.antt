-- Whether a component may be absent, as the test of its schema says.
use Rattle.std.proofs.Common.{◌≡◌, ℕ, zero, suc, Bool, true, false, List, [], ◌∷◌, refl, sym, subst}
use Rattle.std.specs.Prelude.{◌↔◌, IsTrue, Option, Some, None, slice_get}
use Rattle.std.specs.List.{AllByRecursion}
use Rattle.asn_base.specs.Abstract.{AbstractValue}
use Rattle.asn_base.specs.Decided.{HasComponent as HasComponent'}
use Rattle.asn_base.specs.Schemas.{components, HasValue, IsSchema, IsSound}
use Rattle.asn_base.specs.Typed.{IsValue, MayBeAbsent, ValueIn, where_optional, where_default, where_addition}
use Rattle.asn_base.specs.Types.{Kind, a_null, a_sequence, a_set, mandatory, optional, default, addition, Presence, Component, Resolved}
use Rattle.packed_reader.specs.Levels.{is_within, may_lack}
use Rattle.packed_writer.specs.proving.Values.{HasComponent}
use Rattle.packed_reader.proofs.Within.{within_complete, within_sound}

-- ---- the component at a place

by_type : (s : List Resolved) (t i : ℕ) (c : Component) (o : Option Resolved) → slice_get s t ≡ o → slice_get (components (elim o [ None ↦ a_null | Some r ↦ r.kind ])) i ≡ Some c → HasComponent' s t i c
by_type s t i c None e h = absurd (cc)
by_type s t i c (Some r) e h = record { type = r; found = e; at = h }

pub has_component : (s r : List Resolved) (t i : ℕ) (c : Component) → r ≡ s → HasComponent s t i c → HasComponent' r t i c
has_component s r t i c e h = subst (λ q. HasComponent' q t i c) (sym e) (by_type s t i c (slice_get s t) refl h)

at_place : {X : Type 0} (P : X → Type 0) (xs : List X) (i : ℕ) (x : X) → slice_get xs i ≡ Some x → AllByRecursion P xs → P x
at_place P [] i x e a = absurd (cc)
at_place P (y ∷ xs) zero x e a = subst P (let h : y ≡ x = cc in h) a.0
at_place P (y ∷ xs) (suc i) x e a = at_place P xs i x e a.1

have_values : (s : List Resolved) (k : Kind) → IsSound s k → AllByRecursion (HasValue s) (components k)
have_values s (a_sequence e cs) a = a.defaults
have_values s (a_set e cs) a = a.0.defaults
have_values s k a = tt

-- its DEFAULT is a value of its type
has_value : (s : List Resolved) (t i : ℕ) (c : Component) → IsSchema s → HasComponent' s t i c → HasValue s c
has_value s t i c a h = at_place (HasValue s) (components h.type.kind) i c h.at (have_values s h.type.kind (a.sound t h.type.tags h.type.kind (record { found = h.found })))

-- ---- its absence

of_default : {s : List Resolved} {l t : ℕ} {d : AbstractValue} → MayBeAbsent s l t (default d) → ValueIn s l t d
of_default (where_default v) = v

by_presence : (s : List Resolved) (l t : ℕ) (p : Presence) (b : Bool) → ((d : AbstractValue) → p ≡ default d → IsValue s t d) → IsTrue b ↔ MayBeAbsent s l t p → b ≡ elim p [ mandatory ↦ false | optional ↦ true | default d ↦ is_within s l t d | addition o g ↦ true ]
by_presence s l t mandatory true h a = elim (a.0 refl) [ ]
by_presence s l t mandatory false h a = refl
by_presence s l t optional b h a = a.1 where_optional
by_presence s l t (default d) true h a = sym (within_complete s l t d (of_default (a.0 refl)))
by_presence s l t (default d) false h a = by (is_within s l t d) refl
  where
    by : (q : Bool) → is_within s l t d ≡ q → false ≡ q
    by false e = refl
    by true e = a.1 (where_default (within_sound s l 64 t d (h d refl).shaped e))
by_presence s l t (addition o g) b h a = a.1 where_addition

pub decides_absence : (s r : List Resolved) (t i l : ℕ) (b : Bool) → IsSchema s → r ≡ s → ((c : Component) → HasComponent' r t i c → IsTrue b ↔ MayBeAbsent r l c.type c.presence) → (c : Component) → HasComponent s t i c → b ≡ may_lack (is_within s l) c
decides_absence s r t i l b k e a c h =
    let there = has_component s s t i c refl h in
    by_presence s l c.type c.presence b (has_value s t i c k there) (subst (λ q. IsTrue b ↔ MayBeAbsent q l c.type c.presence) e (a c (has_component s r t i c e h)))
