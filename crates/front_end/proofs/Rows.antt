-- Proved rows: what the fields say of programs with one text, and of modules with a fault.
use Rattle.std.proofs.Common.{◌≡◌, List, map}
use Rattle.trees.specs.declared.module.Module.{Module as ModuleSyntax}
use Rattle.names.specs.declared.sources.AssignedAt.{AssignedAt}
use Rattle.names.specs.Written.{written_places, written_types, written_values}
use Rattle.names.specs.declared.sources.ValueAt.{ValueAt}
use Rattle.type_table.specs.Written.{AreWrittenTypes, text_kept}
use Rattle.resolve.specs.First.{trees_of}
use Rattle.resolve.specs.Links.{Links}
use Rattle.resolve.specs.Program.{WrittenProgram}
use Rattle.front_end.specs.Faults.{HaveProgram}
use Rattle.front_end.specs.OneText.{HaveOneText}

module _ (v w : WrittenProgram) (h : HaveOneText v w) where
  same_program : v.program ≡ w.program
  same_program = h.program

  same_types : map text_kept v.types ≡ map text_kept w.types
  same_types = h.types

  same_values : v.values ≡ w.values
  same_values = h.values

  same_names : map (λ (a : AssignedAt). a.name.at) v.assignments ≡ map (λ (a : AssignedAt). a.name.at) w.assignments
  same_names = h.names

module _ (ws : List ModuleSyntax) (P : WrittenProgram → Type 0) (h : HaveProgram ws P) where
  linked : Links (trees_of ws) h.program.program
  linked = h.links

  types_of_modules : AreWrittenTypes (written_types ws) h.program.types
  types_of_modules = h.text.types

  values_of_modules : map (λ (v : ValueAt). v.syntax) h.program.values ≡ written_values ws
  values_of_modules = h.text.values

  names_of_modules : map (λ (a : AssignedAt). a.name.at) h.program.assignments ≡ written_places ws
  names_of_modules = h.text.names

  has : P h.program
  has = h.such
