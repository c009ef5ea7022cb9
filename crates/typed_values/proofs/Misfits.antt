-- A notation of a type's form, and one of another form.
use Rattle.std.proofs.Common.{◌≡◌, ℕ, refl, subst, Some, Bool}
use Rattle.std.specs.Prelude.{List}
use Rattle.trees.specs.declared.types.ListKind.{ListKind}
use Rattle.trees.specs.declared.types.ListKind.TheVariants.{Sequence, Set, Choice}
use Rattle.trees.specs.Values.{Name, Tree}
use Rattle.names.specs.Names.{IsApart}
use Rattle.type_table.specs.Table.{WrittenKind, Part}
use Rattle.type_table.specs.Table as table
use Rattle.resolve.specs.Program.{Program}
use Rattle.range_ends.specs.Ends.{IsTypeOfKind}
use Rattle.value_notations.specs.References.{IsLast}
use Rattle.value_notations.specs.Notations.{fields_in}
use Rattle.value_notations.specs.Wrong.{NotationTrouble, IsMisfit, IsWrongHere, IsDisarranged, not_of_type}
use Rattle.value_notations.specs.Wrong as wrong
use Rattle.value_notations.specs.proving.Places.{some_none}
use Rattle.value_notations.specs.proving.Following.{one_kind, one_last}

no_trouble : {k : ListKind} {cs : List Part} {fs : List Name} {t : NotationTrouble} → IsDisarranged k cs fs t → t ≡ not_of_type → ⊥
no_trouble (wrong.strange s none) e = absurd cc
no_trouble (wrong.twice i s) e = absurd cc
no_trouble (wrong.lacking i d m) e = absurd cc
no_trouble (wrong.lacking_in_group i d m) e = absurd cc
no_trouble (wrong.jumbled i d m g none before after) e = absurd cc

-- the notation to which references lead isn't of the type's form
pub record HasMisfit (p : Program) (os : List ℕ) (M : Name) (i : ℕ) (n : Tree) : Type 0 where
  pub opened : List ℕ
  pub kind : WrittenKind
  pub within : Name
  pub notation : Tree
  pub is : IsTypeOfKind p.types i kind
  pub last : IsLast p kind os M n opened within notation
  pub misfit : IsMisfit kind notation

pub of_misfit : {p : Program} {os : List ℕ} {M : Name} {i : ℕ} {n : Tree} → IsWrongHere p os M i n not_of_type → HasMisfit p os M i n
of_misfit (wrong.misfit {ps = ps} {k = k} {K = K} {l = l} a b m) =
    record { opened = ps; kind = k; within = K; notation = l; is = a; last = b; misfit = m }
of_misfit (wrong.names a none l f d) = absurd (no_trouble d refl)

-- a notation of the type's form isn't of another
pub fits : {p : Program} {os ps : List ℕ} {M K : Name} {i : ℕ} {n l : Tree} {k : WrittenKind} → IsApart p.modules →
    IsWrongHere p os M i n not_of_type → IsTypeOfKind p.types i k → IsLast p k os M n ps K l → IsMisfit k l
fits {p} {os} {ps} {M} {K} {i} {n} {l} {k} apart h a d =
    let m = of_misfit h in
    let kinds = one_kind p.types i m.kind k m.is a in
    let ends = one_last apart (subst (λ (z : WrittenKind). IsLast p z os M n m.opened m.within m.notation) kinds m.last) d in
    subst (λ (z : Tree). IsMisfit k z) ends.notation (subst (λ (z : WrittenKind). IsMisfit z m.notation) kinds m.misfit)

pub misfit_fields : (k : ListKind) (e : Bool) (cs : List Part) (l : Tree) (fs : List (Name × Tree)) → (k ≡ Choice → ⊥) → fields_in l ≡ Some fs →
    IsMisfit (table.members k e cs) l → ⊥
misfit_fields Sequence e cs l fs none f m = some_none (fields_in l) fs f m
misfit_fields Set e cs l fs none f m = some_none (fields_in l) fs f m
misfit_fields Choice e cs l fs none f m = none refl
