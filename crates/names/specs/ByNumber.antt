-- The names of modules (X.680, clause 13), and the types and values that they assign (clause 16), numbered in the order
-- of the texts. A program refers to them by these numbers.
use Rattle.std.specs.Prelude.{ℕ, suc, ◌+◌, List, [], ◌∷◌, ◌++◌, None, map, length}
use Rattle.trees.specs.declared.module.TagDefault.{TagDefault}
use Rattle.trees.specs.Values.{Name}
use Rattle.trees.specs.Modules.{AssignmentTree, assigns_type, assigns_value, ModuleTree}
use Rattle.names.specs.declared.scope.Assigned.{Assigned}
use Rattle.names.specs.declared.scope.Assigned.TheVariants as assigned
use Rattle.names.specs.Names.{Module}
use Rattle.names.specs.Modules.{name_of, imports_of, value_count, all_assignments}
use Rattle.names.specs.Sources.{Source, Value}

-- the type that assignment n contains, which is no member of a list: the type that is assigned, or that of the value
abbrev pub root_of : ℕ → AssignmentTree → Source
root_of n (assigns_type x t) = record { tree = t; assignment = n; place = None }
root_of n (assigns_value x t v) = record { tree = t; assignment = n; place = None }

-- the names that are assigned, each as a type or value with its number; the first assignment has number n and the first
-- value number v
abbrev pub named_from : ℕ → ℕ → List AssignmentTree → List (Name × Assigned)
named_from n v [] = []
named_from n v (assigns_type x t ∷ gs) = (x, assigned.Type n) ∷ named_from (suc n) v gs
named_from n v (assigns_value x t w ∷ gs) = (x, assigned.Value v) ∷ named_from (suc n) (suc v) gs

-- the types of these assignments, one of each, in order: that of the first is the type of assignment n
abbrev pub roots_from : ℕ → List AssignmentTree → List Source
roots_from n [] = []
roots_from n (g ∷ gs) = root_of n g ∷ roots_from (suc n) gs

-- the value assignments, each with its number, that of its type, which is the same, and its notation; the first of all
-- assignments has number n
abbrev pub values_from : ℕ → List AssignmentTree → List Value
values_from n [] = []
values_from n (assigns_type x t ∷ gs) = values_from (suc n) gs
values_from n (assigns_value x t w ∷ gs) = record { assignment = n; ty = n; notation = w } ∷ values_from (suc n) gs

-- the names that are assigned, each with the number of the module, m
abbrev pub owned_by : ℕ → List AssignmentTree → List (ℕ × Name)
owned_by m gs = map (λ g. (m, name_of g)) gs

-- the names of a module, if the first assignment has number n and the first value number v
abbrev pub scope_of : ℕ → ℕ → ModuleTree → Module
scope_of n v m = record { assigned = named_from n v m.assignments; imports = imports_of m.imports; exports = m.exports }

-- the names of modules, if the first assignment has number n and the first value number v
abbrev pub scopes_from : ℕ → ℕ → List ModuleTree → List (Name × Module)
scopes_from n v [] = []
scopes_from n v (m ∷ ms) =
    (m.name, scope_of n v m) ∷ scopes_from (n + length m.assignments) (v + value_count m.assignments) ms

-- the names of modules, each with its tag default, in order
abbrev pub headers_of : List ModuleTree → List (Name × TagDefault)
headers_of = map (λ m. (m.name, m.tag_default))

-- the names that are assigned, each with the number of its module; the first module has number k
abbrev pub owned_from : ℕ → List ModuleTree → List (ℕ × Name)
owned_from k [] = []
owned_from k (m ∷ ms) = owned_by k m.assignments ++ owned_from (suc k) ms

-- the types of all assignments of these modules, in order; that of assignment n is type n
abbrev pub roots_of : List ModuleTree → List Source
roots_of ms = roots_from 0 (all_assignments ms)

-- the value assignments of all these modules, in order
abbrev pub values_of : List ModuleTree → List Value
values_of ms = values_from 0 (all_assignments ms)
