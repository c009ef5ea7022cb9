-- The values of the DEFAULTs of a list, as they are written (X.680, clauses 25.1 and 25.9).
use Rattle.std.specs.Prelude.{◌≡◌, ℕ, Bool, List, Option, Some, None, length, slice_get}
use Rattle.asn_base.specs.Abstract.{AbstractValue}
use Rattle.trees.specs.declared.types.ListKind.{ListKind}
use Rattle.trees.specs.Values.{Name, Tree}
use Rattle.trees.specs.Types.{default}
use Rattle.type_table.specs.Table.{Part, Type', members, IsUnderlying}
use Rattle.resolve.specs.Program.{Program, IsAssignment}
use Rattle.value_notations.specs.Values.{IsTyped}
use Rattle.settled.specs.values.Allowing.{Allows, AllowsCode}

-- the value of the DEFAULT of component c in module M, or None if the component has no DEFAULT
abbrev pub IsDefaultOf : Program → Name → Part → Option AbstractValue → Type 0
IsDefaultOf p M c None = (n : Tree) → c.presence ≡ default n → ⊥
IsDefaultOf p M c (Some v) = (n : Tree) × (c.presence ≡ default n) × IsTyped p (Allows p) (AllowsCode p) M c.ty n v

-- these are the values of the DEFAULTs of the components, in order
pub record AreDefaultsOf (p : Program) (M : Name) (cs : List Part) (vs : List (Option AbstractValue)) : Type 0 where
  pub as_many : length vs ≡ length cs
  pub each : (n : ℕ) (c : Part) (v : Option AbstractValue) →
      slice_get cs n ≡ Some c →
      slice_get vs n ≡ Some v →
      IsDefaultOf p M c v

-- after its references and tags type i isn't a list of components, or these are the values of its DEFAULTs
abbrev pub HasDefaults : Program → ℕ → List (Option AbstractValue) → Type 0
HasDefaults p i vs = (core : ℕ) (t : Type') (M x : Name) (l : ListKind) (m : Bool) (cs : List Part) →
    IsUnderlying p.types i core →
    slice_get p.types core ≡ Some t →
    IsAssignment p t.assignment M x →
    t.kind ≡ members l m cs →
    AreDefaultsOf p M cs vs
