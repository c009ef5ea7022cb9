-- What one reference leads to.
use Rattle.std.specs.Prelude.{◌≡◌, ◌<◌, ℕ, List, Option, length}
use Rattle.trees.specs.Values.{Name, Tree, reference}
use Rattle.names.specs.declared.scope.Assigned.TheVariants as assigned
use Rattle.names.specs.Modules.{OccursIn}
use Rattle.names.specs.Names.{Refers}
use Rattle.type_table.specs.Table.{WrittenKind}
use Rattle.resolve.specs.Program.{Program}
use Rattle.value_notations.specs.References.{IsNamed, IsOwn}
use Rattle.value_notations.specs.declared.references.Next.{Next}
use Rattle.value_notations.specs.declared.references.Next.TheVariants as next

-- the notation, read in module M, is a name that the type doesn't have, and means value i
pub record IsNameOf (p : Program) (k : WrittenKind) (M : Name) (n : Tree) (i : ℕ) : Type 0 where
  pub prefix : Option Name
  pub name : Name
  pub notation : n ≡ reference prefix name
  pub none : IsNamed k prefix name → ⊥
  pub refers : Refers p.modules M prefix name (assigned.Value i)

-- the notation is a name that the type doesn't have, and means no value
pub record IsNoName (p : Program) (k : WrittenKind) (M : Name) (n : Tree) : Type 0 where
  pub prefix : Option Name
  pub name : Name
  pub notation : n ≡ reference prefix name
  pub none : IsNamed k prefix name → ⊥
  pub no_value : (i : ℕ) → Refers p.modules M prefix name (assigned.Value i) → ⊥

abbrev pub ReportsNext : Program → WrittenKind → List ℕ → Name → Tree → Next → Type 0
ReportsNext p k os M n next.Itself = IsOwn k n
ReportsNext p k os M n (next.Referred i) = IsNameOf p k M n i × (OccursIn os i → ⊥) × (i < length p.values)
ReportsNext p k os M n next.Nothing = IsNoName p k M n
ReportsNext p k os M n (next.Again i) = IsNameOf p k M n i × OccursIn os i
