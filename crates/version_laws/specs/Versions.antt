-- What is true of readers of two versions of a type (X.680, clauses 7, 25, 27 and 29).
use Rattle.std.specs.Prelude.{ℕ, ◌≤◌, List}
use Rattle.asn_base.specs.Abstract.{AbstractValue}
use Rattle.asn_base.specs.Types.{TypeNumber, Resolved}
use Rattle.asn_base.specs.Typed.{IsValueWithoutNodes}
use Rattle.asn_base.specs.Same.{Same}
use Rattle.encodings.specs.Header.{Octets}
use Rattle.encodings.specs.Rules.{Basic, Distinguished}
use Rattle.encodings.specs.Levels.{levels}
use Rattle.encodings.specs.Encoding.{EncodesTo}
use Rattle.encodings.specs.Reading.{Encodes}
use Rattle.later_versions.specs.Projected.{projected}

-- The earlier type knows the value of a later version: what it keeps of the value, without the additions that it lacks,
-- is a value of it. That is false if the value has an alternative, or an item of an ENUMERATED, that only the later
-- version has.
abbrev pub IsKnown : List Resolved → TypeNumber → AbstractValue → Type 0
IsKnown s t v = IsValueWithoutNodes s t (projected s t v)

-- the octets encode, by the basic rules, a value that is the same as v, with k unknown additions and at most 400 levels
-- of headers
pub record IsReadAs (s : List Resolved) (t : TypeNumber) (v : AbstractValue) (k : ℕ) (o : Octets) : Type 0 where
  pub value : AbstractValue
  pub same : Same s t v value
  pub encodes : Encodes s Basic t value k o
  pub few : levels encodes.says_it ≤ 400

-- the same by the distinguished rules, too
pub record IsStrictlyReadAs (s : List Resolved) (t : ℕ) (v : AbstractValue) (k : ℕ) (o : Octets) : Type 0 where
  pub is : IsReadAs s t v k o
  pub strict : EncodesTo s Distinguished t is.value k o
