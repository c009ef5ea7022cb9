-- A fault of names, or of linked modules, is one of the texts; and the place of a fault of a value.
use Rattle.std.proofs.Common.{◌≡◌, ℕ, zero, suc, ◌<◌, List, [], ◌∷◌, length, map, Some, subst, arith}
use Rattle.std.specs.Prelude.{slice_get}
use Rattle.std.specs.List.{All, AllZip}
use Rattle.trees.specs.declared.module.Module.{Module as ModuleSyntax}
use Rattle.trees.specs.declared.value.ValueSyntax.{ValueSyntax}
use Rattle.trees.specs.Values.{Name}
use Rattle.names.specs.proving.Distinct.{occurs_map}
use Rattle.type_table.specs.Seen.{part_of}
use Rattle.type_table.specs.Table.{IsWrittenType, IsLinked, Part, members}
use Rattle.resolve.specs.First.{IsTextOf, trees_of}
use Rattle.resolve.specs.Links.{Links}
use Rattle.resolve.specs.Program.{IsWhole, WrittenProgram}
use Rattle.value_diagnostics.specs.typed_values.declared.fault.Cause.TheVariants as causes
use Rattle.value_diagnostics.specs.typed_values.declared.fault.ValueFault.{ValueFault}
use Rattle.value_diagnostics.specs.typed_values.Faults as typed
use Rattle.extensions.specs.Faults.{IsFirstDefault}
use Rattle.front_end.specs.Accepted.{IsModule}
use Rattle.front_end.specs.Faults.{IsLinkedFault, IsRightCompileError}
use Rattle.front_end.specs.declared.fault.CompileError.{CompileError}
use Rattle.front_end.specs.declared.fault.CompileError.TheVariants as faults
use Rattle.front_end.specs.proving.Steps.{IsNamesFault}

pub names_stand : (xs : List (List ℕ)) (ws : List ModuleSyntax) (e : CompileError) → AllZip IsModule xs (trees_of ws) →
    IsNamesFault ws e → IsRightCompileError xs e
names_stand xs ws faults.Memory z h = tt
names_stand xs ws (faults.Name f) z h = record { modules = ws; are = z; is_so = h }
names_stand xs ws (faults.Text k f) z h = absurd h
names_stand xs ws (faults.Tree k f) z h = absurd h
names_stand xs ws (faults.Tag f) z h = absurd h
names_stand xs ws (faults.Bound f) z h = absurd h
names_stand xs ws (faults.Additions f) z h = absurd h
names_stand xs ws (faults.Default t) z h = absurd h
names_stand xs ws (faults.Assigned t) z h = absurd h

pub linked_stand : (xs : List (List ℕ)) (ws : List ModuleSyntax) (w : WrittenProgram) (e : CompileError) →
    AllZip IsModule xs (trees_of ws) →
    Links (trees_of ws) w.program → IsTextOf ws w → IsLinkedFault w e → IsRightCompileError xs e
linked_stand xs ws w faults.Memory z l t h = tt
linked_stand xs ws w (faults.Tag f) z l t h =
    record { modules = ws; are = z; is_so = record { program = w; links = l; text = t; such = h } }
linked_stand xs ws w (faults.Bound f) z l t h =
    record { modules = ws; are = z; is_so = record { program = w; links = l; text = t; such = h } }
linked_stand xs ws w (faults.Additions f) z l t h =
    record { modules = ws; are = z; is_so = record { program = w; links = l; text = t; such = h } }
linked_stand xs ws w (faults.Default v) z l t h =
    record { modules = ws; are = z; is_so = record { program = w; links = l; text = t; such = h } }
linked_stand xs ws w (faults.Assigned v) z l t h =
    record { modules = ws; are = z; is_so = record { program = w; links = l; text = t; such = h } }
linked_stand xs ws w (faults.Text k f) z l t h = absurd h
linked_stand xs ws w (faults.Tree k f) z l t h = absurd h
linked_stand xs ws w (faults.Name f) z l t h = absurd h

-- ---- the type at which a value is wrong is there

abbrev pub AreThere : Type 0
AreThere = (w : WrittenProgram) (levels left i : ℕ) (os : List ℕ) (M : Name) (n : ValueSyntax) (f : ValueFault)
    → IsLinked w.program.types
    → i < length w.program.types
    → typed.IsRightValueFault w levels left os M i n f
    → (f.cause ≡ causes.Memory → ⊥)
    → f.at.ty.index < length w.program.types

one_below : (n : ℕ) (cs : List Part) (j : ℕ) (c : Part) → All (λ x. x.ty < n) cs → slice_get cs j ≡ Some c → c.ty < n
one_below n [] j c a e = absurd cc
one_below n (x ∷ cs) zero c a e = let s : x ≡ c = cc in subst (λ z. z.ty < n) s (a zero x (omega arith))
one_below n (x ∷ cs) (suc j) c a e = one_below n cs j c (λ m d l. a (suc m) d (omega arith)) e

pub default_there : AreThere → (t : WrittenProgram) (f : ValueFault) → IsWhole t.program → IsFirstDefault t f →
    f.at.ty.index < length t.program.types
default_there law t f w d =
    let p = t.program in
    let l = d.list in
    let cs = map part_of d.parts in
    let c = d.first.part in
    let i : IsWrittenType p.types d.number (members l.list l.marked cs) l.type.default l.type.place =
    subst (λ k. IsWrittenType p.types d.number k l.type.default l.type.place) l.is
    (record { constraints = l.type.constraints; assignment = l.type.assignment; found = l.there }) in
    let a = w.linked.parts d.number l.list l.marked cs l.type.default l.type.place i in
    let b = one_below (length p.types) cs d.first.number (part_of c) a
    (occurs_map part_of d.parts d.first.number c d.first.there) in
    let h = d.first.wrong in
    law t 64 16777216 c.ty [] d.within h.0 f w.linked b h.2.is_so h.2.caused
