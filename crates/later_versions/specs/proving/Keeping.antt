-- What is kept of a component that may be absent.
use Rattle.std.specs.Prelude.{ℕ, List, Option, Some, None, option_map}
use Rattle.asn_base.specs.Abstract.{AbstractValue}
use Rattle.asn_base.specs.Types.{Resolved}
use Rattle.later_versions.specs.Projected.{projected, left_out}

abbrev pub projected_one : List Resolved → ℕ → Option AbstractValue → Option AbstractValue
projected_one s u v = option_map (projected s u) v

abbrev pub left_out_of_one : List Resolved → ℕ → Option AbstractValue → ℕ
left_out_of_one s u None = 0
left_out_of_one s u (Some v) = left_out s u v
