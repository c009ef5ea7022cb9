-- The number of levels of a value, in which those of an absent component's DEFAULT count too.
use Rattle.std.specs.Prelude.{ℕ, zero, suc, Bool, true, false, ◌&&◌, List, [], ◌∷◌}
use Rattle.asn_base.specs.Abstract.{AbstractValue, fields, list, alternative, Row, end, absent, present}
use Rattle.asn_base.specs.Types.{Kind, mandatory, optional, default, addition, TypeNumber, Component, Resolved}
use Rattle.asn_base.specs.Schemas.{components}
use Rattle.packed_encodings.specs.Computed.{kind_at, element_of, alternative_of}

-- the component may be absent, and its DEFAULT, if it has one, passes the test for the limit
abbrev pub may_lack : (TypeNumber → AbstractValue → Bool) → Component → Bool
may_lack within c =
    elim c.presence [ mandatory ↦ false | optional ↦ true | default d ↦ within c.type d | addition o g ↦ true ]

abbrev pub components_within : (TypeNumber → AbstractValue → Bool) → List Component → Row → Bool
components_within within [] ws = true
components_within within (c ∷ cs) end = true
components_within within (c ∷ cs) (absent ws) = may_lack within c && components_within within cs ws
components_within within (c ∷ cs) (present w ws) = within c.type w && components_within within cs ws

abbrev pub elements_within : (AbstractValue → Bool) → Row → Bool
elements_within within end = true
elements_within within (absent ws) = elements_within within ws
elements_within within (present w ws) = within w && elements_within within ws

abbrev pub parts_within : (TypeNumber → AbstractValue → Bool) → Kind → AbstractValue → Bool
parts_within within k (fields ws) = components_within within (components k) ws
parts_within within k (list ws) = elements_within (within (element_of k)) ws
parts_within within k (alternative i w) = within (alternative_of k i) w
parts_within within k v = true

-- a value of type t has at most this number of levels
abbrev pub is_within : List Resolved → ℕ → TypeNumber → AbstractValue → Bool
is_within s zero t v = false
is_within s (suc n) t v = parts_within (is_within s n) (kind_at s t) v
