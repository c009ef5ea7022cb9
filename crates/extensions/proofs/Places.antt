-- A fault has only one place.
use Rattle.std.proofs.Common.{◌≡◌, ◌<◌, ⊎_elim, ℕ, sym, ap, subst, ◌∙◌}
use Rattle.std.proofs.lemmas.Bool.{cases_order}
use Rattle.std.specs.Prelude.{List, [], Some, map, slice_get}
use Rattle.trees.specs.declared.types.PresenceSyntax.{PresenceSyntax}
use Rattle.trees.specs.declared.types.PresenceSyntax.TheVariants as presences
use Rattle.trees.specs.declared.value.ValueSyntax.{ValueSyntax}
use Rattle.trees.specs.Values.{Name, tree_of}
use Rattle.names.specs.declared.sources.ValueAt.{ValueAt}
use Rattle.names.specs.Names.{IsApart}
use Rattle.names.specs.Sources.{value_seen}
use Rattle.names.specs.proving.Distinct.{occurs_map}
use Rattle.type_table.specs.declared.table.ListMember.{ListMember}
use Rattle.type_table.specs.declared.table.TypeNode.{TypeNode}
use Rattle.type_table.specs.Lists.{AreSound}
use Rattle.type_table.specs.Seen.{part_of}
use Rattle.resolve.specs.Program.{WrittenProgram, IsAssignment}
use Rattle.value_notations.specs.Written.{IsWrittenWith, list_members}
use Rattle.value_notations.specs.proving.Following.{one_header}
use Rattle.value_notations.specs.proving.Places.{one_some}
use Rattle.typed_values.specs.declared.fault.Cause.TheVariants as causes
use Rattle.typed_values.specs.declared.fault.ValueFault.{ValueFault}
use Rattle.typed_values.specs.Faults as typed
use Rattle.typed_values.specs.Laws.{ReportOneNotation}
use Rattle.settled.specs.Settled.{IsTypedDefault}
use Rattle.extensions.specs.SchemaOfModules.{IsLinkedProgram}
use Rattle.extensions.specs.Faults.{IsFirstDefault, IsFirstValue, IsList, IsRightExtensionFault, IsWrong}
use Rattle.extensions.specs.declared.fault.ExtFault.TheVariants.{Default, Assigned}
use Rattle.extensions.proofs.Each.{same_list}
use Rattle.extensions.proofs.Faults.{Exclude, default_tree, none}

one_number : (a b : ℕ) → (a < b → ⊥) → (b < a → ⊥) → a ≡ b
one_number a b f g = ⊎_elim (λ e. e) (⊎_elim (λ l. absurd (f l)) (λ l. absurd (g l))) (cases_order a b)

-- ---- DEFAULTs

no_earlier_list : Exclude → (t : WrittenProgram) (e f : ValueFault)
    → IsLinkedProgram t.program
    → (d : IsFirstDefault t e)
    → (g : IsFirstDefault t f)
    → d.number < g.number
    → ⊥
no_earlier_list exclude t e f r d g l =
    let w = d.first.wrong in
    let c = d.first.part in
    none exclude t d.within c.ty w.0 e r w.2
    (g.before d.number l d.within (map part_of d.parts) d.first.number (part_of c) d.list
    (occurs_map part_of d.parts d.first.number c d.first.there) (tree_of w.0) (default_tree c.presence w.0 w.1))

no_earlier_part : Exclude → (t : WrittenProgram) (e f : ValueFault)
    → IsLinkedProgram t.program
    → (d : IsFirstDefault t e)
    → (g : IsFirstDefault t f)
    → d.number ≡ g.number
    → d.first.number < g.first.number
    → ⊥
no_earlier_part exclude t e f r d g same l =
    let p = t.program in
    let cs = map part_of d.parts in
    let both = same_list p g.number d.within g.within cs (map part_of g.parts) (subst (λ i. IsList p i d.within cs) same d.list) g.list in
    let c = d.first.part in
    let w = d.first.wrong in
    let there = occurs_map part_of d.parts d.first.number c d.first.there in
    let typed : IsTypedDefault p g.within (part_of c) =
    g.first.before d.first.number (part_of c) l (ap (λ cs. slice_get cs d.first.number) (sym both.1) ∙ there) in
    none exclude t d.within c.ty w.0 e r w.2
    (subst (λ M. IsTypedDefault p M (part_of c)) (sym both.0) typed (tree_of w.0) (default_tree c.presence w.0 w.1))

pub one_default : Exclude → (t : WrittenProgram) (e f : ValueFault)
    → IsLinkedProgram t.program
    → (d : IsFirstDefault t e)
    → (g : IsFirstDefault t f)
    → (d.number ≡ g.number) × (d.first.number ≡ g.first.number)
one_default exclude t e f r d g =
    let same = one_number d.number g.number (no_earlier_list exclude t e f r d g) (no_earlier_list exclude t f e r g d) in (
      same,
      one_number d.first.number g.first.number (no_earlier_part exclude t e f r d g same)
          (no_earlier_part exclude t f e r g d (sym same)),
    )

-- ---- value assignments

no_earlier_value : Exclude → (t : WrittenProgram) (e f : ValueFault)
    → IsLinkedProgram t.program
    → (d : IsFirstValue t e)
    → (g : IsFirstValue t f)
    → d.number < g.number
    → ⊥
no_earlier_value exclude t e f r d g l =
    none exclude t d.within d.value.ty d.value.syntax e r d.wrong
    (g.before d.number l (value_seen d.value) d.within d.assigns d.there d.is_so)

pub one_assigned : Exclude → (t : WrittenProgram) (e f : ValueFault)
    → IsLinkedProgram t.program
    → (d : IsFirstValue t e)
    → (g : IsFirstValue t f)
    → d.number ≡ g.number
one_assigned exclude t e f r d g =
    one_number d.number g.number (no_earlier_value exclude t e f r d g) (no_earlier_value exclude t f e r g d)

-- ---- notations

abbrev pub OnePlace : Type 0
OnePlace = (w : WrittenProgram) (levels left i : ℕ) (os : List ℕ) (M : Name) (n : ValueSyntax) (f g : ValueFault)
    → IsApart w.program.modules
    → AreSound w.program.types
    → typed.IsRightValueFault w levels left os M i n f
    → typed.IsRightValueFault w levels left os M i n g
    → (f.cause ≡ causes.Memory → ⊥)
    → (g.cause ≡ causes.Memory → ⊥)
    → ReportOneNotation f g

alike : OnePlace → (t : WrittenProgram) (M N : Name) (i j : ℕ) (n m : ValueSyntax) (e f : ValueFault)
    → IsLinkedProgram t.program
    → M ≡ N
    → i ≡ j
    → n ≡ m
    → IsWrong t M i n e
    → IsWrong t N j m f
    → ReportOneNotation e f
alike place t M N i j n m e f r a b c x y =
    let z = subst (λ (M : Name). IsWrong t M i n f) (sym a)
    (subst (λ (i : ℕ). IsWrong t N i n f) (sym b) (subst (λ (n : ValueSyntax). IsWrong t N j n f) (sym c) y)) in
    place t 64 16777216 i [] M n e f r.apart r.sound.lists x.is_so z.is_so x.caused z.caused

one_written : (q : PresenceSyntax) (d e : ValueSyntax) → typed.IsWrittenDefault q d → typed.IsWrittenDefault q e → d ≡ e
one_written (presences.Default b) d e f g = sym f ∙ g
one_written presences.Mandatory d e f g = absurd f
one_written presences.Optional d e f g = absurd f

one_list : (t : WrittenProgram) (i j : ℕ) (cs bs : List ListMember) → i ≡ j → IsWrittenWith t i cs → IsWrittenWith t j bs → cs ≡ bs
one_list t i j cs bs e x y =
    let nodes = one_some (slice_get t.types i) x.node y.node x.there
    (subst (λ (z : ℕ). slice_get t.types z ≡ Some y.node) (sym e) y.there) in
    sym x.members ∙ ap (λ (n : TypeNode). list_members n.shape) nodes ∙ y.members

pub alike_default : Exclude → OnePlace → (t : WrittenProgram) (e f : ValueFault)
    → IsLinkedProgram t.program
    → IsRightExtensionFault t (Default e)
    → IsRightExtensionFault t (Default f)
    → ReportOneNotation e f
alike_default exclude place t e f r a b =
    let d = a.1 in
    let g = b.1 in
    let same = one_default exclude t e f r d g in
    let cs = map part_of d.parts in
    let homes = same_list t.program g.number d.within g.within cs (map part_of g.parts)
    (subst (λ (i : ℕ). IsList t.program i d.within cs) same.0 d.list) g.list in
    let parts = one_list t d.number g.number d.parts g.parts same.0 d.text g.text in
    let there = subst (λ (xs : List ListMember). slice_get xs d.first.number ≡ Some g.first.part) (sym parts)
    (subst (λ (i : ℕ). slice_get g.parts i ≡ Some g.first.part) (sym same.1) g.first.there) in
    let part = one_some (slice_get d.parts d.first.number) d.first.part g.first.part d.first.there there in
    let x = d.first.wrong in
    let y = g.first.wrong in
    let notation = one_written d.first.part.presence x.0 y.0 x.1
    (subst (λ (c : ListMember). typed.IsWrittenDefault c.presence y.0) (sym part) y.1) in
    alike place t d.within g.within d.first.part.ty g.first.part.ty x.0 y.0 e f r homes.0
    (ap (λ (c : ListMember). c.ty) part) notation x.2 y.2

pub alike_assigned : Exclude → OnePlace → (t : WrittenProgram) (e f : ValueFault)
    → IsLinkedProgram t.program
    → IsRightExtensionFault t (Assigned e)
    → IsRightExtensionFault t (Assigned f)
    → ReportOneNotation e f
alike_assigned exclude place t e f r a b =
    let d = a.2 in
    let g = b.2 in
    let same = one_assigned exclude t e f r d g in
    let values = one_some (slice_get t.values d.number) d.value g.value d.text
    (subst (λ (i : ℕ). slice_get t.values i ≡ Some g.value) (sym same) g.text) in
    let homes = one_header t.program d.value.assignment d.within g.within d.assigns g.assigns d.is_so
    (subst (λ (v : ValueAt). IsAssignment t.program v.assignment g.within g.assigns) (sym values) g.is_so) in
    alike place t d.within g.within d.value.ty g.value.ty d.value.syntax g.value.syntax e f r homes
    (ap (λ (v : ValueAt). v.ty) values) (ap (λ (v : ValueAt). v.syntax) values) d.wrong g.wrong
