-- The cores of the types of a table, which are found one after another.
use Rattle.std.specs.Prelude.{List, ℕ, length}
use Rattle.type_table.specs.proving.Notes.{AreRight, AreNoted}
use Rattle.type_table.specs.Table.{Type', IsUnderlying}

-- the cores that are noted are right
abbrev pub AreKnown : List Type' → List ℕ → Type 0
AreKnown ts cores = AreRight (length ts) (IsUnderlying ts) cores

-- these are the cores of all types, in order
abbrev pub AreCores : List Type' → List ℕ → Type 0
AreCores ts cores = AreNoted (length ts) (IsUnderlying ts) cores
