-- Tables of the names of a module: what they are assigned, and where they are imported from, without their addresses in
-- memory (X.680, clause 13).
use Rattle.std.specs.Prelude.{ℕ, List, Option, map, option_map, string_bytes, String}
use Rattle.std.specs.Global.{Global}
use Rattle.trees.specs.declared.location.At.{At}
use Rattle.trees.specs.Values.{Name, name_at}
use Rattle.names.specs.declared.scope.Assigned.{Assigned}
use Rattle.names.specs.declared.scope.Origin.{Origin}
use Rattle.names.specs.declared.scope.Scope.{Scope}
use Rattle.names.specs.Names.{Module, names_of}

-- a table whose keys are texts, with what f sees of each value
abbrev pub seen : {X Y : Type 0} → (X → Y) → List (String Global × X) → List (Name × Y)
seen f es = map (λ e. (string_bytes e.0, f e.1)) es

-- the module that a name is imported from
abbrev pub origin_of : Origin → Name
origin_of o = name_at o.module.value

-- what names are assigned
abbrev pub meanings : List (String Global × At Assigned) → List (Name × Assigned)
meanings = seen (λ a. a.it)

-- the modules that names are imported from
abbrev pub origins : List (String Global × Origin) → List (Name × Name)
origins = seen origin_of

-- what a table of names says of a module: its assignments, imports and exports
abbrev pub module_of : Scope → Module
module_of s = record {
  assigned = meanings s.assigned.entries;
  imports = origins s.imports.entries;
  exports = option_map names_of s.exports;
}

-- the names of modules
abbrev pub scopes : List (String Global × Scope) → List (Name × Module)
scopes = seen module_of

-- where a name is imported: its offset, and the name of the module that it is from, with the offset of that name
pub record ImportSpot : Type 0 where
  pub own : ℕ
  pub other : Name
  pub from : ℕ

-- The names that a module exports, each with its offset, or None if it has no list of exports. The names that it
-- imports, with their offsets and modules.
pub record Spots : Type 0 where
  pub exports : Option (List (Name × ℕ))
  pub imports : List (Name × ImportSpot)

-- where a name of a table is imported
abbrev pub origin_spot : Origin → ImportSpot
origin_spot o = record { own = o.at; other = name_at o.module.value; from = o.module.value.at }

-- the imported names of a table, with their offsets and modules
abbrev pub origin_spots : List (String Global × Origin) → List (Name × ImportSpot)
origin_spots = seen origin_spot

-- the exports and imports of a table, with their offsets
abbrev pub spots_of : Scope → Spots
spots_of s = record { exports = s.exports; imports = origin_spots s.imports.entries }

-- the names of modules, with the offsets of their exports and imports
abbrev pub all_spots : List (String Global × Scope) → List (Name × Spots)
all_spots = seen spots_of
