-- What a reading makes of the values that notations stand for.
use Rattle.std.specs.Prelude.{Option, Some, None}
use Rattle.asn_base.specs.Abstract.{AbstractValue}

-- the outcome of a component is one for its value; an absent component has none
abbrev pub ShowsOption : {A : Type 0} → (A → AbstractValue → Type 0) → Option A → Option AbstractValue → Type 0
ShowsOption shows None None = Unit {0}
ShowsOption shows (Some x) (Some v) = shows x v
ShowsOption shows x v = ⊥
