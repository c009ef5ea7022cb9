-- A value of a SEQUENCE or SET while it is made, component by component.
use Rattle.std.specs.Prelude.{◌≡◌, ℕ, Bool, true, false, List, [], ◌∷◌, length, replicate, Option, Some, None}
use Rattle.std.specs.Prelude.{slice_get, slice_set, if◌then◌else◌}
use Rattle.asn_base.specs.Abstract.{AbstractValue}
use Rattle.asn_base.specs.Types.{Component, mandatory, optional, default, addition}
use Rattle.value_builders.specs.Named.{place_of, component_names}

-- the components of its type, in order of definition, and what each is so far: None if nothing was set
pub record Building : Type 0 where
  pub components : List Component
  pub values : List (Option AbstractValue)

-- nothing is set
abbrev pub begun : List Component → Building
begun cs = record { components = cs; values = replicate (length cs) None }

-- the component with this name was not set, is now set to v, and all others are as they were
pub record IsSet (old : Building) (name : List ℕ) (v : AbstractValue) (new : Building) : Type 0 where
  pub place : ℕ
  pub named : place_of (component_names old.components) name ≡ Some place
  pub was_absent : slice_get old.values place ≡ Some None
  pub values : new.values ≡ slice_set old.values place (Some v)
  pub components : new.components ≡ old.components

-- The component must be there and is not. Only a component of the root that is neither OPTIONAL nor has a DEFAULT must
-- be there (X.680, clause 25).
abbrev pub is_missing : Component → Option AbstractValue → Bool
is_missing c (Some v) = false
is_missing c None = elim c.presence [ mandatory ↦ true | optional ↦ false | default d ↦ false | addition o g ↦ false ]

-- the name of the first component that must be there and is not, None if there is none
abbrev pub missing : List Component → List (Option AbstractValue) → Option (List ℕ)
missing [] vs = None
missing (c ∷ cs) [] = None
missing (c ∷ cs) (v ∷ vs) = if is_missing c v then Some c.name else missing cs vs
