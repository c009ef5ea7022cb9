-- The kind of a type that is itself no reference and no tag.
use Rattle.std.specs.Prelude.{◌≡◌, ℕ, List, Some, slice_get}
use Rattle.type_table.specs.Table.{Type', WrittenKind}

-- type i of the table is itself of this kind
pub record HasKind (ts : List Type') (i : ℕ) (k : WrittenKind) : Type 0 where
  pub type : Type'
  pub there : slice_get ts i ≡ Some type
  pub kind : type.kind ≡ k
