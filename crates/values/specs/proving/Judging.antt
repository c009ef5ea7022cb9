-- What the checks of constraints return for values that hold no others.
use Rattle.std.specs.Prelude.{ℕ, ℤ, Bool, List, Option, Some, None, IsTrue}
use Rattle.asn_base.specs.Abstract.{AbstractValue, integer, bits, octets, text}
use Rattle.trees.specs.Types.{Plain}
use Rattle.type_table.specs.Table.{simple}
use Rattle.resolve.specs.Program.{Program}
use Rattle.range_ends.specs.Ends.{IsTypeOfKind}
use Rattle.value_notations.specs.Values.{IsPlainValue}
use Rattle.value_notations.specs.Faults.{IsUnconstrained}
use Rattle.value_notations.specs.Outside.{IsLeftOut}
use Rattle.values.specs.Allowing.{Allows, AllowsCode}

abbrev pub integer_in : AbstractValue → Option ℤ
integer_in (integer z) = Some z
integer_in v = None

abbrev pub bits_in : AbstractValue → Option (List Bool)
bits_in (bits s) = Some s
bits_in v = None

abbrev pub octets_in : AbstractValue → Option (List ℕ)
octets_in (octets o) = Some o
octets_in v = None

abbrev pub text_in : AbstractValue → Option (List ℕ)
text_in (text o) = Some o
text_in v = None

-- b is true if the constraints of type i allow the value, and false if they exclude it
pub record IsJudged (p : Program) (i : ℕ) (k : Plain) (v : AbstractValue) (b : Bool) : Type 0 where
  pub allowed : IsTrue b → IsPlainValue (Allows p) (AllowsCode p) i k v
  pub left_out : (IsTrue b → ⊥) → IsLeftOut (Allows p) (AllowsCode p) i (simple k) v

-- the same for a value of type i, which is of kind k
abbrev pub Judges : Program → ℕ → Plain → AbstractValue → Bool → Type 0
Judges p i k v b = IsTypeOfKind p.types i (simple k) → IsUnconstrained k v → IsJudged p i k v b
