-- The meaning of a kit, and why texts have none.
use Rattle.std.specs.Prelude.{◌≡◌, ℕ, List}
use Rattle.asn_base.specs.Types.{Resolved}
use Rattle.resolve.specs.Program.{Program}
use Rattle.judging.specs.front_end.Faults.{IsRightCompileError}
use Rattle.judging.specs.front_end.declared.fault.CompileError.TheVariants as texts
use Rattle.judging.specs.messages.declared.fault.Fault.{Fault}
use Rattle.judging.specs.messages.declared.fault.Fault.TheVariants as faults

-- the program of accepted texts and its types; a type has the same number in both
pub record Opened : Type 0 where
  pub program : Program
  pub types : List Resolved

-- The refusal of texts is true: the fault is the first one in reading order. `Memory` says nothing about the texts.
abbrev pub IsNotOpened : List (List ℕ) → Fault → Type 0
IsNotOpened xs faults.Memory = Unit {0}
IsNotOpened xs (faults.Front f) = (f ≡ texts.Memory → ⊥) × IsRightCompileError xs f
IsNotOpened xs fault = ⊥
