-- How a value is given: by its name, or by the text of a notation (X.680, clauses 14.1 and 17).
use Rattle.std.specs.Prelude.{ℕ, List}
use Rattle.named_values.specs.declared.given.ValueGiven.{ValueGiven}
use Rattle.named_values.specs.declared.given.ValueGiven.TheVariants.{Named, Written}

-- a value that is given: by its name, or by the text of a notation
pub data Given : Type 0 where
  -- the octets of a name, as Module.name
  named : List ℕ → Given
  -- the octets of a text that is a notation of the value
  written : List ℕ → Given

-- what a caller gives
abbrev pub as_given : ValueGiven → Given
as_given (Named name) = named name.now
as_given (Written text) = written text.now
