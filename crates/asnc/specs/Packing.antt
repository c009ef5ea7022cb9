-- The octets of a value that is given under a named type of a program in canonical PER, unaligned, and why there are
-- none (X.691, clause 11.1).
use Rattle.std.specs.Prelude.{◌≡◌, ◌⊎◌, ℕ, List}
use Rattle.asn_base.specs.Abstract.{AbstractValue}
use Rattle.asn_base.specs.Types.{Resolved}
use Rattle.packed_writer.specs.Message.{IsMessage, IsTooLong}
use Rattle.resolve.specs.Program.{Program}
use Rattle.judging.specs.messages.declared.fault.Fault.{Fault}
use Rattle.judging.specs.messages.declared.fault.Fault.TheVariants as faults
use Rattle.judging.specs.named_values.Meant.{IsMeant, IsNotMeant}
use Rattle.judging.specs.named_values.Given.{Given}

-- The name is that of a type, and a value is given. The octets are the bits of the value that its notation stands for
-- under the type, filled to octets, and no others are (X.691, 11.1).
pub record IsPacked (p : Program) (s : List Resolved) (first : List ℕ) (second : Given) (o : List ℕ) : Type 0 where
  pub type : ℕ
  pub value : AbstractValue
  pub meant : IsMeant p first second type value
  pub message : IsMessage s type value o

-- The name is that of a type, and the value that the given notation stands for has no message within the limits: it is
-- too heavy, or its octets are too many.
pub record HasLongBits (p : Program) (s : List Resolved) (first : List ℕ) (second : Given) : Type 0 where
  pub type : ℕ
  pub value : AbstractValue
  pub meant : IsMeant p first second type value
  pub longer : IsTooLong s type value

-- Why a value is not packed: the texts mean no value, or it has no message within the limits.
abbrev pub IsNotPacked : Program → List Resolved → (first : List ℕ) → (second : Given) → Fault → Type 0
IsNotPacked p s first second fault =
    IsNotMeant p first second fault ⊎ ((fault ≡ faults.TooLong) × HasLongBits p s first second)
