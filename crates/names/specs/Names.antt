-- What names mean in modules (X.680, clauses 13 and 14).
use Rattle.std.specs.Prelude.{◌≡◌, List, Option, Some, None, bytes_eq, map}
use Rattle.std.specs.Map.{lookup}
use Rattle.trees.specs.Values.{Name}
use Rattle.names.specs.declared.scope.Assigned.{Assigned}

-- a module: its assignments, each a type or a value by its number, and its imports, each with the module that it comes
-- from. Its exports are None if it has no list of exports: then all that it assigns is exported.
pub record Module : Type 0 where
  pub assigned : List (Name × Assigned)
  pub imports : List (Name × Name)
  pub exports : Option (List Name)

-- the names of a table
abbrev pub names_of : {X : Type 0} → List (Name × X) → List Name
names_of es = map (λ e. e.0) es

-- the entry of a name in a table of names
abbrev pub under : {X : Type 0} → Name → List (Name × X) → Option X
under x es = lookup (bytes_eq x) es

-- name x, read in module M, means a: the assignment there, or that of the module which it is imported from
pub data Meaning (ms : List (Name × Module)) (M x : Name) : Assigned → Type 0 where
  -- x is assigned in module M
  own : {a : Assigned} (m : Module) →
      under M ms ≡ Some m →
      under x m.assigned ≡ Some a →
      Meaning ms M x a
  -- M imports x from module N, in which x is assigned
  imported : {a : Assigned} (m n : Module) (N : Name) →
      under M ms ≡ Some m →
      under x m.imports ≡ Some N →
      under N ms ≡ Some n →
      under x n.assigned ≡ Some a →
      Meaning ms M x a

-- name x, read in module M alone or after a module's name, means a: that module is M itself or the one that x is
-- imported from (X.680, clause 14)
pub data Refers (ms : List (Name × Module)) (M : Name) : Option Name → Name → Assigned → Type 0 where
  -- the name alone
  bare : {x : Name} {a : Assigned} → Meaning ms M x a → Refers ms M None x a
  -- the name after M's own name
  within : {x : Name} {a : Assigned} → Meaning ms M x a → Refers ms M (Some M) x a
  -- the name after the name of the module that it is imported from
  across : {x : Name} {a : Assigned} (m : Module) (N : Name) →
      under M ms ≡ Some m →
      under x m.imports ≡ Some N →
      Meaning ms M x a →
      Refers ms M (Some N) x a

-- no module imports a name that it assigns
abbrev pub IsApart : List (Name × Module) → Type 0
IsApart ms = (M x N : Name) (m : Module) →
    under M ms ≡ Some m →
    under x m.imports ≡ Some N →
    under x m.assigned ≡ None
