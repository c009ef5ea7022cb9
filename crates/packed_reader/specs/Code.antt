-- The results of the calls of the reader's code as definitions see them, without their places in memory.
use Rattle.std.specs.Prelude.{ℕ, ◌≤◌, Bool, true, false, List, [], ◌∷◌, Option, Some, None}
use Rattle.asn_base.specs.Abstract.{AbstractValue, boolean, integer, enumerated}
use Rattle.packed_code.specs.declared.step.PackedStep.{PackedStep}
use Rattle.packed_code.specs.declared.step.PackedStep.TheVariants as steps
use Rattle.packed_reader.specs.declared.call.Call.{Call}
use Rattle.packed_reader.specs.declared.scalar.Scalar.{Scalar}
use Rattle.packed_reader.specs.declared.scalar.Scalar.TheVariants as scalars
use Rattle.packed_reader.specs.Values.{Chosen, in_root, added}

-- an alternative, which is an open type if it is after the marker
abbrev pub chosen_by : (open_type : Bool) → (number type : ℕ) → Chosen
chosen_by true i t = added i t
chosen_by false i t = in_root i t

abbrev pub chosen_of : Call → Chosen
chosen_of c = chosen_by c.open c.number c.ty.index

abbrev pub call_or : Option Call → Option Chosen
call_or None = None
call_or (Some c) = Some (chosen_of c)

-- the index of an alternative of the root has at most 64 bits
abbrev pub HaveWidth : List PackedStep → Type 0
HaveWidth [] = Unit {0}
HaveWidth (steps.Root c ∷ ss) = c.width ≤ 64
HaveWidth (st ∷ ss) = Unit {0}

-- a value of few bits
abbrev pub scalar_value : Scalar → AbstractValue
scalar_value (scalars.Truth x) = boolean x
scalar_value (scalars.Number z) = integer z
scalar_value (scalars.Item z) = enumerated z
