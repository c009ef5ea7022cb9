-- Values that are the same if and only if they are equal, so that their type doesn't matter.
use Rattle.asn_base.specs.Abstract.{AbstractValue, boolean, integer}

-- a BOOLEAN or an INTEGER
abbrev pub IsPlain : AbstractValue → Type 0
IsPlain (boolean b) = Unit {0}
IsPlain (integer z) = Unit {0}
IsPlain v = ⊥
