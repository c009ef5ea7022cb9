-- When linked modules are written in the same way: they have the same offsets in the text (X.680, clause 16). A program
-- as it is written also has addresses in memory, which say nothing.
use Rattle.std.specs.Prelude.{◌≡◌, map}
use Rattle.names.specs.declared.sources.AssignedAt.{AssignedAt}
use Rattle.type_table.specs.Written.{text_kept}
use Rattle.resolve.specs.Program.{WrittenProgram}

-- two programs have the same types, values and names, at the same offsets of the text
pub record HaveOneText (v w : WrittenProgram) : Type 0 where
  pub program : v.program ≡ w.program
  -- the offsets of types, and of names and constraints in them
  pub types : map text_kept v.types ≡ map text_kept w.types
  -- the notations of values, with their offsets
  pub values : v.values ≡ w.values
  -- the offsets of the names that are assigned
  pub names : map (λ (a : AssignedAt). a.name.at) v.assignments ≡ map (λ (a : AssignedAt). a.name.at) w.assignments
