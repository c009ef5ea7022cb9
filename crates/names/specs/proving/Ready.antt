-- What modules give refers only to types, values, assignments and modules that are there.
use Rattle.std.specs.Prelude.{◌≡◌, ◌<◌, slice_get, ℕ, Some, List, length}
use Rattle.trees.specs.Modules.{ModuleTree}
use Rattle.trees.specs.Values.{Name}
use Rattle.names.specs.declared.gather.ModuleTables.{ModuleTables}
use Rattle.names.specs.declared.scope.Assigned.{Assigned}
use Rattle.names.specs.declared.scope.Assigned.TheVariants as assigned
use Rattle.names.specs.declared.sources.AssignedAt.{AssignedAt}
use Rattle.names.specs.declared.sources.ValueAt.{ValueAt}
use Rattle.names.specs.ByNumber.{headers_of, owned_from, roots_of, scopes_from, values_of}
use Rattle.names.specs.Names.{Meaning, IsApart}
use Rattle.names.specs.Scopes.{scopes}
use Rattle.names.specs.Sources.{AllAssigned, HaveNoPlace, Value, sources_of}

-- the type or value that a name is assigned is among these numbers of types and values
abbrev pub IsGiven : (types values : ℕ) → Assigned → Type 0
IsGiven n m (assigned.Type i) = i < n
IsGiven n m (assigned.Value i) = i < m

-- the tables refer only to types, values, assignments and modules that are in them
pub record IsReady (g : ModuleTables) : Type 0 where
  pub apart : IsApart (scopes g.modules.entries)
  pub pairs : length g.tables.roots.items ≡ length g.tables.assignments.items
  pub assigned : AllAssigned (length g.tables.assignments.items) (sources_of g.tables.roots.items)
  pub unplaced : HaveNoPlace (sources_of g.tables.roots.items)
  pub placed : (k : ℕ) (a : AssignedAt) →
      slice_get g.tables.assignments.items k ≡ Some a →
      a.module < length g.headers.items
  pub named : (M x : Name) (a : Assigned) →
      Meaning (scopes g.modules.entries) M x a →
      IsGiven (length g.tables.roots.items) (length g.tables.values.items) a
  pub valued : (k : ℕ) (v : ValueAt) →
      slice_get g.tables.values.items k ≡ Some v →
      (v.ty < length g.tables.roots.items) × (v.assignment < length g.tables.assignments.items)

-- modules refer only to types, values, assignments and modules that are there, by the numbers of these
pub record AreThere (ms : List ModuleTree) : Type 0 where
  pub unplaced : HaveNoPlace (roots_of ms)
  pub placed : (k : ℕ) (a : ℕ × Name) → slice_get (owned_from 0 ms) k ≡ Some a → a.0 < length (headers_of ms)
  pub named : (M x : Name) (a : Assigned) →
      Meaning (scopes_from 0 0 ms) M x a →
      IsGiven (length (roots_of ms)) (length (values_of ms)) a
  pub valued : (k : ℕ) (v : Value) →
      slice_get (values_of ms) k ≡ Some v →
      (v.ty < length (roots_of ms)) × (v.assignment < length (owned_from 0 ms))
