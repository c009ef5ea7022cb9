-- How many steps a machine can take for a value, if no routine has more than l steps.
use Rattle.std.specs.Prelude.{ℕ, suc, ◌+◌, ◌*◌, List, length}
use Rattle.asn_base.specs.Abstract.{AbstractValue, fields, list, alternative, Row, end, absent, present}
use Rattle.asn_base.specs.Types.{Resolved}
use Rattle.codec_code.specs.Routines.{table_of}

abbrev mutual
  pub weight : ℕ → AbstractValue → ℕ
  weight l (fields ws) = suc (l * (2 + weights l ws))
  weight l (list ws) = suc (l * (2 + weights l ws))
  weight l (alternative i w) = suc (l * (2 + weight l w))
  weight l v = suc (l * 2)

  pub weights : ℕ → Row → ℕ
  weights l end = 0
  weights l (absent ws) = weights l ws
  weights l (present w ws) = suc (suc (weight l w + weights l ws))

-- the weight of the values in a value
abbrev pub inner : ℕ → AbstractValue → ℕ
inner l (fields ws) = weights l ws
inner l (list ws) = weights l ws
inner l (alternative i w) = weight l w
inner l v = 0

-- the number of steps of all routines
abbrev pub total : List Resolved → ℕ
total s = length (table_of s)
