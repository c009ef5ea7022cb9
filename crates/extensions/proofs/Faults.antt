-- A true fault excludes that all rules are kept.
use Rattle.std.proofs.Common.{◌≡◌, ◌≤◌, ℕ, refl, ap}
use Rattle.std.specs.Prelude.{List, [], map}
use Rattle.asn_base.specs.Abstract.{AbstractValue}
use Rattle.asn_base.specs.Typed.{nodes}
use Rattle.trees.specs.declared.value.ValueSyntax.{ValueSyntax}
use Rattle.trees.specs.Values.{Name, tree_of}
use Rattle.trees.specs.Types.{default, presence_tree}
use Rattle.trees.specs.declared.types.PresenceSyntax.{PresenceSyntax}
use Rattle.trees.specs.declared.types.PresenceSyntax.TheVariants as presences
use Rattle.typed_values.specs.Faults.{IsWrittenDefault}
use Rattle.type_table.specs.Seen.{part_of}
use Rattle.names.specs.Names.{IsApart}
use Rattle.names.specs.Sources.{value_seen}
use Rattle.names.specs.proving.Distinct.{occurs_map}
use Rattle.type_table.specs.Lists.{AreSound}
use Rattle.resolve.specs.Program.{WrittenProgram}
use Rattle.value_notations.specs.Notations.{Notation}
use Rattle.value_notations.specs.Values.{NotatedValueIn}
use Rattle.settled.specs.values.Allowing.{Allows, AllowsCode}
use Rattle.settled.specs.additions.Additions.{KeepAdditions}
use Rattle.settled.specs.additions.Faults as additions
use Rattle.settled.specs.additions.declared.fault.ExtFault.{ExtFault as AdditionFault}
use Rattle.settled.specs.additions.declared.fault.ExtFault.TheVariants as markers
use Rattle.typed_values.specs.declared.fault.Cause.TheVariants as causes
use Rattle.typed_values.specs.declared.fault.ValueFault.{ValueFault}
use Rattle.typed_values.specs.Faults as typed
use Rattle.settled.specs.Settled.{AreTypedDefaults}
use Rattle.extensions.specs.SchemaOfModules.{IsLinkedProgram, IsWellTyped, HasTypedValue}
use Rattle.extensions.specs.Faults.{IsRightExtensionFault, IsFirstDefault, IsWrong}
use Rattle.extensions.specs.declared.fault.ExtFault.{ExtFault}
use Rattle.extensions.specs.declared.fault.ExtFault.TheVariants.{Memory, Additions, Default, Assigned}

abbrev pub Exclude : Type 0
Exclude = (w : WrittenProgram) (levels left i : ℕ) (os : List ℕ) (M : Name) (n : ValueSyntax) (f : ValueFault)
    (v : AbstractValue)
    → IsApart w.program.modules
    → AreSound w.program.types
    → typed.IsRightValueFault w levels left os M i n f
    → (f.cause ≡ causes.Memory → ⊥)
    → Notation w.program os M i (tree_of n) v
    → NotatedValueIn w.program (Allows w.program) (AllowsCode w.program) levels i v
    → nodes v ≤ left
    → ⊥

abbrev pub NoOther : Type 0
NoOther = (w : WrittenProgram) (e : AdditionFault)
    → (e ≡ markers.Memory → ⊥)
    → additions.IsRightAdditionsFault w e
    → KeepAdditions w.program.types
    → ⊥

pub none : Exclude → (t : WrittenProgram) (M : Name) (i : ℕ) (n : ValueSyntax) (f : ValueFault)
    → IsLinkedProgram t.program
    → IsWrong t M i n f
    → HasTypedValue t.program M i (tree_of n)
    → ⊥
none exclude t M i n f r w v =
    exclude t 64 16777216 i [] M n f v.0 r.apart r.sound.lists w.is_so w.caused v.1.is_so v.1.value.shaped v.1.value.few_nodes

pub default_tree : (q : PresenceSyntax) (d : ValueSyntax) → IsWrittenDefault q d → presence_tree q ≡ default (tree_of d)
default_tree (presences.Default b) d e = ap (λ z. default (tree_of z)) e
default_tree presences.Mandatory d e = absurd e
default_tree presences.Optional d e = absurd e

pub no_wrong_default : Exclude → (t : WrittenProgram) (f : ValueFault) → IsLinkedProgram t.program → AreTypedDefaults t.program → IsFirstDefault t f → ⊥
no_wrong_default exclude t f r a d =
    let w = d.first.wrong in
    let c = d.first.part in
    none exclude t d.within c.ty w.0 f r w.2
    (a d.number d.list.type d.within d.list.assigns d.list.list d.list.marked (map part_of d.parts) (part_of c)
    d.list.there d.list.is_so d.list.is (d.first.number, occurs_map part_of d.parts d.first.number c d.first.there)
    (tree_of w.0) (default_tree c.presence w.0 w.1))

pub no_other_fault : Exclude → NoOther → (w : WrittenProgram) (e : ExtFault)
    → IsLinkedProgram w.program
    → (e ≡ Memory → ⊥)
    → IsRightExtensionFault w e
    → IsWellTyped w.program
    → ⊥
no_other_fault exclude other w Memory r m s a = m refl
no_other_fault exclude other w (Additions f) r m s a = other w f s.0 s.1 a.additions
no_other_fault exclude other w (Default f) r m s a = no_wrong_default exclude w f r a.defaults s.1
no_other_fault exclude other w (Assigned f) r m s a =
    let d = s.2 in
    none exclude w d.within d.value.ty d.value.syntax f r d.wrong
    (a.values d.number (value_seen d.value) d.within d.assigns d.there d.is_so)
