-- Values that are alike have the same groups whole, and as many levels.
use Rattle.std.proofs.Common.{◌≡◌, ℕ, inl, inr, List, sym, ap, subst, ◌∙◌}
use Rattle.std.specs.Prelude.{Some, None}
use Rattle.asn_base.specs.Abstract.{AbstractValue, Row}
use Rattle.asn_base.specs.Types.{Kind, Presence, mandatory, optional, default, addition, Component, Resolved}
use Rattle.asn_base.specs.Typed.{group_of, HasOfGroup, LacksOfGroup, GroupsAreWhole, fits_named_bits, ValueIn, value_in, ValueOf, of_leaf, of_sequence, of_set, of_sequence_of, of_set_of, of_choice, MayBeAbsent, where_optional, where_default, where_addition, AreComponents, component_absent, component_present, AreElements, no_element, one_element}
use Rattle.asn_base.specs.Same.{Inserted, here, there, Alike, alike, AlikeBy, equal, zeros, alike_sequence, alike_set, alike_sequence_of, alike_set_of, alike_choice, AlikeComponents, no_components, both_absent, both_present, first_default, second_default, AlikeElements, no_elements, alike_element, AlikeInAnyOrder, none_left, pair}
use Rattle.asn_base.specs.proving.OneKind.{same_kind}
use Rattle.asn_base.specs.proving.OneDefault.{value_of_at, value_at, same_alternative, default_in}

no_default : {p : Presence} {d : AbstractValue} {o : _} {g : _} → p ≡ default d → p ≡ addition o g → ⊥
no_default e f = subst IsDefault' (sym e ∙ f) tt
  where
    IsDefault' : Presence → Type 0
    IsDefault' mandatory = ⊥
    IsDefault' optional = ⊥
    IsDefault' (default d) = Unit {0}
    IsDefault' (addition o g) = ⊥

has_back : {s : List Resolved} {cs : List Component} {vs ws : Row} (g : ℕ) → AlikeComponents s cs vs ws → HasOfGroup g cs ws → HasOfGroup g cs vs
has_back g no_components h = h
has_back g (both_absent a) h = has_back g a h
has_back g (both_present e a) (inl h) = inl h
has_back g (both_present e a) (inr h) = inr (has_back g a h)
has_back g (first_default p e a) (inl h) = absurd (let f : None ≡ Some g = sym (ap group_of p) ∙ h in cc)
has_back g (first_default p e a) (inr h) = has_back g a h
has_back g (second_default p e a) h = inr (has_back g a h)

lacks_back : {s : List Resolved} {cs : List Component} {vs ws : Row} (g : ℕ) → AlikeComponents s cs vs ws → LacksOfGroup g cs ws → LacksOfGroup g cs vs
lacks_back g no_components h = h
lacks_back g (both_absent a) (inl h) = inl h
lacks_back g (both_absent a) (inr h) = inr (lacks_back g a h)
lacks_back g (both_present e a) h = lacks_back g a h
lacks_back g (first_default p e a) h = inr (lacks_back g a h)
lacks_back g (second_default p e a) (inl h) = absurd (no_default p h)
lacks_back g (second_default p e a) (inr h) = lacks_back g a h

pub same_groups : (s : List Resolved) (cs : List Component) (vs ws : Row) → AlikeComponents s cs vs ws → GroupsAreWhole cs vs → GroupsAreWhole cs ws
same_groups s cs vs ws a whole = λ g h l. whole g (has_back g a h) (lacks_back g a l)

default_value : {s : List Resolved} {n t : ℕ} {p : Presence} {d : AbstractValue} → p ≡ default d → MayBeAbsent s n t p → ValueIn s n t d
default_value e where_optional = absurd (cc)
default_value {s} {n} {t} e (where_default v) = subst (ValueIn s n t) (ap default_in e) v
default_value e where_addition = absurd (cc)

with_default : {s : List Resolved} {n t : ℕ} {p : Presence} {d : AbstractValue} → p ≡ default d → ValueIn s n t d → MayBeAbsent s n t p
with_default {s} {n} {t} e v = subst (MayBeAbsent s n t) (sym e) (where_default v)

-- the element at some place, and the others
pub record TakenOut (s : List Resolved) (n u : ℕ) (w : AbstractValue) (ws : Row) : Type 0 where
  pub it : ValueIn s n u w
  pub rest : AreElements s n u ws

pub take_out : {s : List Resolved} {n u : ℕ} {w : AbstractValue} {ws xs : Row} → Inserted w ws xs → AreElements s n u xs → TakenOut s n u w ws
take_out here (one_element v a) = record { it = v; rest = a }
take_out (there i) (one_element v a) = let o = take_out i a in record { it = o.it; rest = one_element v o.rest }

pub put_in : {s : List Resolved} {n u : ℕ} {w : AbstractValue} {ws xs : Row} → ValueIn s n u w → AreElements s n u ws → Inserted w ws xs → AreElements s n u xs
put_in v a here = one_element v a
put_in v (one_element x a) (there i) = one_element x (put_in v a i)

mutual
  pub same_levels : {s : List Resolved} {m n t : ℕ} {v w : AbstractValue} → Alike s t v w → ValueIn s n t v → ValueIn s m t w → ValueIn s n t w
  same_levels (alike i a) (value_in j x) (value_in k y) = value_in i (by_levels a (value_of_at (same_kind i j) x) (value_of_at (same_kind i k) y))

  by_levels : {s : List Resolved} {m n : ℕ} {k : Kind} {v w : AbstractValue} → AlikeBy s k v w → ValueOf s n k v → ValueOf s m k w → ValueOf s n k w
  by_levels (equal l) x y = x
  by_levels (zeros m n e) x y = of_leaf fits_named_bits
  by_levels (alike_sequence a) (of_leaf f) y = elim f [ ]
  by_levels (alike_sequence a) (of_sequence x g) (of_leaf f) = elim f [ ]
  by_levels (alike_sequence a) (of_sequence x g) (of_sequence y h) = of_sequence (components_levels a x y) h
  by_levels (alike_set a) (of_leaf f) y = elim f [ ]
  by_levels (alike_set a) (of_set x g) (of_leaf f) = elim f [ ]
  by_levels (alike_set a) (of_set x g) (of_set y h) = of_set (components_levels a x y) h
  by_levels (alike_sequence_of a) (of_leaf f) y = elim f [ ]
  by_levels (alike_sequence_of a) (of_sequence_of x g) (of_leaf f) = elim f [ ]
  by_levels (alike_sequence_of a) (of_sequence_of x g) (of_sequence_of y h) = of_sequence_of (elements_levels a x y) h
  by_levels (alike_set_of a) (of_leaf f) y = elim f [ ]
  by_levels (alike_set_of a) (of_set_of x g) (of_leaf f) = elim f [ ]
  by_levels (alike_set_of a) (of_set_of x g) (of_set_of y h) = of_set_of (any_levels a x y) h
  by_levels (alike_choice g a) (of_leaf f) y = elim f [ ]
  by_levels (alike_choice g a) (of_choice h x) (of_leaf f) = elim f [ ]
  by_levels (alike_choice g a) (of_choice h x) (of_choice k y) = of_choice g (same_levels a (value_at (same_alternative g h) x) (value_at (same_alternative g k) y))

  components_levels : {s : List Resolved} {m n : ℕ} {cs : List Component} {vs ws : Row} → AlikeComponents s cs vs ws → AreComponents s n cs vs → AreComponents s m cs ws → AreComponents s n cs ws
  components_levels no_components x y = x
  components_levels (both_absent a) (component_absent b x) (component_absent c y) = component_absent b (components_levels a x y)
  components_levels (both_present e a) (component_present v x) (component_present w y) = component_present (same_levels e v w) (components_levels a x y)
  components_levels (first_default p e a) (component_absent b x) (component_present w y) = component_present (same_levels e (default_value p b) w) (components_levels a x y)
  components_levels (second_default p e a) (component_present v x) (component_absent b y) = component_absent (with_default p (same_levels e v (default_value p b))) (components_levels a x y)

  elements_levels : {s : List Resolved} {m n u : ℕ} {vs ws : Row} → AlikeElements s u vs ws → AreElements s n u vs → AreElements s m u ws → AreElements s n u ws
  elements_levels no_elements x y = no_element
  elements_levels (alike_element e a) (one_element v x) (one_element w y) = one_element (same_levels e v w) (elements_levels a x y)

  any_levels : {s : List Resolved} {m n u : ℕ} {vs ws : Row} → AlikeInAnyOrder s u vs ws → AreElements s n u vs → AreElements s m u ws → AreElements s n u ws
  any_levels none_left x y = no_element
  any_levels (pair e a i) (one_element v x) y = let o = take_out i y in put_in (same_levels e v o.it) (any_levels a x o.rest) i
