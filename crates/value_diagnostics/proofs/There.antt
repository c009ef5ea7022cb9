-- The type at which something is wrong is one of the table.
use Rattle.std.proofs.Common.{◌≡◌, ℕ, zero, suc, ◌<◌, List, [], ◌∷◌, ◌++◌, length, Some, refl, sym, subst, arith}
use Rattle.std.specs.Prelude.{Bool, slice_get}
use Rattle.std.specs.List.{All}
use Rattle.trees.specs.declared.types.ElementsKind.{ElementsKind}
use Rattle.trees.specs.declared.types.ListKind.{ListKind}
use Rattle.trees.specs.declared.value.Named.{Named}
use Rattle.trees.specs.declared.value.ValueSyntax.{ValueSyntax}
use Rattle.trees.specs.Values.{Name}
use Rattle.names.specs.Modules.{OccursIn}
use Rattle.names.specs.proving.Distinct.{occurs_map}
use Rattle.type_table.specs.declared.table.ListMember.{ListMember}
use Rattle.type_table.specs.Seen.{part_of}
use Rattle.type_table.specs.Table.{IsWrittenType, IsLinked, WrittenKind, Part, Type', elements, members}
use Rattle.resolve.specs.Program.{Program, WrittenProgram}
use Rattle.range_ends.specs.Ends.{IsTypeOfKind}
use Rattle.typed_values.specs.Faults.{AreReadTo, HasKindIn, IsRightValueFault}
use Rattle.typed_values.specs.Faults as is_so
use Rattle.typed_values.specs.declared.fault.Cause.TheVariants as cause
use Rattle.typed_values.specs.declared.fault.ValueFault.{ValueFault}

one_below : (n : ℕ) (cs : List Part) (j : ℕ) (c : Part) → All (λ x. x.ty < n) cs → slice_get cs j ≡ Some c → c.ty < n
one_below n [] j c a e = absurd cc
one_below n (x ∷ cs) zero c a e = let s : x ≡ c = cc in subst (λ z. z.ty < n) s (a zero x (omega arith))
one_below n (x ∷ cs) (suc j) c a e = one_below n cs j c (λ m d l. a (suc m) d (omega arith)) e

in_core : {ts : List Type'} {i : ℕ} {k : WrittenKind} (w : IsTypeOfKind ts i k) →
    IsWrittenType ts w.core k w.type.default w.type.place
in_core {ts} w =
    subst (λ (x : WrittenKind). IsWrittenType ts w.core x w.type.default w.type.place) w.kind
    (record { constraints = w.type.constraints; assignment = w.type.assignment; found = w.there })

element_there : {ts : List Type'} {i j : ℕ} {k : ElementsKind} →
    IsLinked ts → IsTypeOfKind ts i (elements k j) → j < length ts
element_there {ts} {i} {j} {k} l w = l.inner w.core j k w.type.default w.type.place (in_core w)

member_there : {ts : List Type'} {i : ℕ} {k : ListKind} {e : Bool} {cs : List Part} (c : Part) →
    IsLinked ts → IsTypeOfKind ts i (members k e cs) → OccursIn cs c → c.ty < length ts
member_there {ts} {i} {k} {e} {cs} c l w s =
    one_below (length ts) cs s.0 c (l.parts w.core k e cs w.type.default w.type.place (in_core w)) s.1

of_written : {p : Program} {i : ℕ} {k : WrittenKind} {N : Name} → HasKindIn p i k N → IsTypeOfKind p.types i k
of_written w = record { core = w.core; type = w.type; chain = w.chain; there = w.there; kind = w.kind }

middle : {A : Type 0} (cs : List A) (c : A) (ds : List A) → OccursIn (cs ++ c ∷ ds) c
middle [] c ds = (zero, refl)
middle (b ∷ cs) c ds = let m = middle cs c ds in (suc m.0, m.1)

part_there : {w : WrittenProgram} {levels left rest : ℕ} {os ps : List ℕ} {M K N : Name} {i : ℕ} {n : ValueSyntax}
    {fs : List (Named ValueSyntax)} (c : ListMember) → IsLinked w.program.types →
    AreReadTo w levels left rest os M i n ps K N fs c → c.ty < length w.program.types
part_there c l a =
    let at = subst (λ (cs : List ListMember). OccursIn cs c) (sym a.split) (middle a.before c a.after) in
    member_there (part_of c) l (of_written a.list.written) (at.0, occurs_map part_of a.members at.0 c at.1)

pub there : (w : WrittenProgram) → IsLinked w.program.types → {levels left : ℕ} {os : List ℕ} {M : Name} {i : ℕ}
    {n : ValueSyntax} {f : ValueFault} → i < length w.program.types → IsRightValueFault w levels left os M i n f →
    (f.cause ≡ cause.Memory → ⊥) → f.at.ty.index < length w.program.types
there w l b (is_so.no_memory e) m = absurd (m e)
there w l b (is_so.itself x t n r h) m = subst (λ j. j < length w.program.types) (sym t) b
there w l b (is_so.in_element before after k e v r a q s) m = there w l (element_there l k) s m
there w l b (is_so.in_alternative c k e q a x s) m = there w l (member_there c l k a) s m
there w l b (is_so.in_field c g a q e s) m = there w l (part_there c l a) s m
there w l b (is_so.in_default c a o r q s) m = there w l (part_there c l a) s m
