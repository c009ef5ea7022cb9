-- Proved rows: what the first fault of additions says, a row for each field.
use Rattle.std.proofs.Common.{◌≡◌, ◌<◌, ℕ, Some}
use Rattle.std.specs.Prelude.{slice_get}
use Rattle.trees.specs.declared.location.SourceLocation.{SourceLocation}
use Rattle.names.specs.Faults.{fault_module, fault_name}
use Rattle.type_table.specs.declared.table.TypeNode.{TypeNode}
use Rattle.resolve.specs.Program.{WrittenProgram}
use Rattle.tagging.specs.Faults.{IsWrittenIn}
use Rattle.additions.specs.declared.check.Rule.{Rule}
use Rattle.additions.specs.Additions.{Breaks, KeepsAt}
use Rattle.additions.specs.First.{IsFirstAdditionAt}
use Rattle.additions.specs.proving.Checks.{IsNamedAt}

module _ (w : WrittenProgram) (r : Rule) (s : SourceLocation) (h : IsFirstAdditionAt w r s) where
  -- the member or item that breaks the rule
  abbrev number : ℕ
  number = h.first.first.number

  breaks : Breaks w.program.types r h.ty number
  breaks = h.first.first.breaks

  places_before : (n : ℕ) → n < number → KeepsAt w.program.types h.ty n
  places_before = h.first.first.places_before

  types_before : (j n : ℕ) → j < h.ty → KeepsAt w.program.types j n
  types_before = h.first.first.types_before

  -- its name is written at the offset, in the text of these modules
  offset : (t : TypeNode) × (slice_get w.types h.ty ≡ Some t) × IsNamedAt t.shape number s.at
  offset = (h.first.written, h.first.there, h.first.named)

  assignment : IsWrittenIn w.program h.ty (fault_module s) (fault_name s)
  assignment = h.is_so
