-- The notation to which the references of a notation lead (X.680, clauses 14, 17.11, 19.10 and 20.8). A value reference
-- stands for the notation in its assignment, read in the module of the assignment, under the type that the reference is
-- given for (own rule; by X.680 it has its value under the type of its assignment). A name of the governing type takes
-- precedence over a value reference.
use Rattle.std.specs.Prelude.{ℕ, List, [], ◌∷◌, ◌++◌, Option, Some, None}
use Rattle.trees.specs.Values.{Name, Tree, reference}
use Rattle.trees.specs.Types.{an_integer, an_enumerated}
use Rattle.names.specs.declared.scope.Assigned.TheVariants as assigned
use Rattle.names.specs.Modules.{OccursIn}
use Rattle.names.specs.Names.{Refers, names_of}
use Rattle.type_table.specs.Items.{additions_of}
use Rattle.type_table.specs.Table.{WrittenKind, simple}
use Rattle.resolve.specs.Program.{Program}
use Rattle.range_ends.specs.Ends.{IsValueAt}

-- the names of the numbers of an INTEGER or of the items of an enumeration, and none for another kind
abbrev pub own_names : WrittenKind → List Name
own_names (simple (an_integer ns)) = names_of ns
own_names (simple (an_enumerated root more)) = names_of (root ++ additions_of more)
own_names k = []

-- name x, with no module's name before it, is that of a number or an item of kind k
abbrev pub IsNamed : WrittenKind → Option Name → Name → Type 0
IsNamed k None x = OccursIn (own_names k) x
IsNamed k (Some q) x = ⊥

-- notation n is no name, or it is the name of a number or an item of kind k (X.680, clauses 19.10 and 20.8): no
-- reference to a value
abbrev pub IsOwn : WrittenKind → Tree → Type 0
IsOwn k (reference q x) = IsNamed k q x
IsOwn k n = Unit {0}

-- The references of notation n, read in module M under a type of kind k, lead to notation l, read in module K (X.680,
-- clause 17.11). `os` are the values whose notations are being read already, and `ps` those being read after the
-- references. No reference may lead to one of `os`, even under another type (own rule).
pub data IsLast (p : Program) (k : WrittenKind)
    : (os : List ℕ) (M : Name) (n : Tree) (ps : List ℕ) (K : Name) (l : Tree) → Type 0 where
  -- the notation is no reference: it leads to itself
  own : {os : List ℕ} {M : Name} {n : Tree} →
      IsOwn k n →
      IsLast p k os M n os M n
  -- the notation is a reference to value i, whose notation m is read in its own module N
  referred : {os ps : List ℕ} {M N K : Name} {q : Option Name} {x : Name} {m l : Tree} (i : ℕ) →
      (IsNamed k q x → ⊥) →
      Refers p.modules M q x (assigned.Value i) →
      (OccursIn os i → ⊥) →
      IsValueAt p i N m →
      IsLast p k (i ∷ os) N m ps K l →
      IsLast p k os M (reference q x) ps K l
