-- Modules are written in one way: the types, values and assignments of their program have one text.
use Rattle.std.proofs.Common.{◌≡◌, List, map, sym, ◌∙◌}
use Rattle.trees.specs.declared.module.Module.{Module as ModuleSyntax}
use Rattle.type_table.specs.Written.{text_kept}
use Rattle.resolve.specs.First.{IsTextOf}
use Rattle.resolve.specs.Program.{WrittenProgram}
use Rattle.front_end.specs.OneText.{HaveOneText}

abbrev pub OneTypes : Type 0
OneTypes = (ws : List ModuleSyntax) (v w : WrittenProgram) → IsTextOf ws v → IsTextOf ws w →
    map text_kept v.types ≡ map text_kept w.types

abbrev pub OneValues : Type 0
OneValues = (ws : List ModuleSyntax) (v w : WrittenProgram) → v.program ≡ w.program → IsTextOf ws v → IsTextOf ws w →
    v.values ≡ w.values

pub one_text : OneTypes → OneValues → (ws : List ModuleSyntax) (v w : WrittenProgram) → v.program ≡ w.program →
    IsTextOf ws v → IsTextOf ws w → HaveOneText v w
one_text types values ws v w e a b = record {
  program = e;
  types = types ws v w a b;
  values = values ws v w e a b;
  names = a.names ∙ sym b.names;
}
