-- Components without those after the extension marker (X.680, clause 25).
use Rattle.std.specs.Prelude.{◌≡◌, ℕ, List, [], ◌∷◌, Some, if◌then◌else◌, slice_get}
use Rattle.asn_base.specs.Abstract.{fields, Row, end, absent, present}
use Rattle.asn_base.specs.Schemas.{components, is_addition}
use Rattle.asn_base.specs.Typed.{IsValueWithoutNodes}
use Rattle.asn_base.specs.Types.{Component, Resolved}

-- the components of a value; those that are additions become absent
abbrev pub without_additions : List Component → Row → Row
without_additions [] vs = vs
without_additions (c ∷ cs) end = end
without_additions (c ∷ cs) (absent vs) = absent (without_additions cs vs)
without_additions (c ∷ cs) (present v vs) =
    if is_addition c then absent (without_additions cs vs) else present v (without_additions cs vs)

-- the components are a value of type t if all additions are made absent, without the limit on nodes
pub record IsValueWithoutAdditions (s : List Resolved) (t : ℕ) (vs : Row) : Type 0 where
  pub type : Resolved
  pub found : slice_get s t ≡ Some type
  pub left : IsValueWithoutNodes s t (fields (without_additions (components type.kind) vs))
