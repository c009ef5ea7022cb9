-- The results of a search for a name (X.680, clauses 13 and 14).
use Rattle.std.specs.Prelude.{◌≡◌, ℕ, Option, Some, None, slice_get}
use Rattle.trees.specs.Values.{Name, tree_of}
use Rattle.names.specs.declared.scope.Assigned.{Assigned}
use Rattle.names.specs.declared.scope.Assigned.TheVariants as assigned
use Rattle.names.specs.Names.{Meaning}
use Rattle.names.specs.Sources.{Value}
use Rattle.resolve.specs.declared.linked.Referent.{Referent}
use Rattle.resolve.specs.declared.linked.Referent.TheVariants.{TypeNamed, ValueNamed}
use Rattle.resolve.specs.Program.{Program}

-- None if name x has no meaning in module M; otherwise the number of the type, or the value in its notation
abbrev pub Finds : Program → Name → Name → Option Referent → Type 0
Finds p M x None = (a : Assigned) → Meaning p.modules M x a → ⊥
Finds p M x (Some (TypeNamed t)) = Meaning p.modules M x (assigned.Type t.index)
Finds p M x (Some (ValueNamed v)) =
    (i : ℕ) × Meaning p.modules M x (assigned.Value i)
    × (value : Value) × (slice_get p.values i ≡ Some value) × (value.notation ≡ tree_of v.now)
