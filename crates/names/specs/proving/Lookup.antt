-- Meanings, as the look-up finds them.
use Rattle.std.specs.Prelude.{List, Option, Some, None}
use Rattle.trees.specs.Values.{Name}
use Rattle.names.specs.declared.scope.Assigned.{Assigned}
use Rattle.names.specs.Names.{Module, under}

abbrev pub assigned_in : Name → Option Module → Option Assigned
assigned_in x None = None
assigned_in x (Some m) = under x m.assigned

abbrev pub assigned_from : List (Name × Module) → Name → Option Name → Option Assigned
assigned_from ms x None = None
assigned_from ms x (Some N) = assigned_in x (under N ms)

abbrev pub found_or : Option Assigned → Option Assigned → Option Assigned
found_or (Some i) o = Some i
found_or None o = o

abbrev pub found_in : List (Name × Module) → Name → Option Module → Option Assigned
found_in ms x None = None
found_in ms x (Some m) = found_or (under x m.assigned) (assigned_from ms x (under x m.imports))

unfoldable pub found : List (Name × Module) → Name → Name → Option Assigned
found ms M x = found_in ms x (under M ms)

abbrev pub imported_in : Name → Option Module → Option Name
imported_in x None = None
imported_in x (Some m) = under x m.imports
