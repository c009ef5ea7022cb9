-- Linked modules, as they are written, have one first fault of each layer, at one offset.
use Rattle.std.proofs.Common.{◌≡◌, List, refl}
use Rattle.trees.specs.declared.module.Module.{Module as ModuleSyntax}
use Rattle.trees.specs.Modules.{ModuleTree}
use Rattle.trees.specs.Values.{Name}
use Rattle.names.specs.declared.scope.Assigned.{Assigned}
use Rattle.names.specs.declared.sources.AssignedAt.{AssignedAt}
use Rattle.names.specs.Names.{Meaning}
use Rattle.names.specs.declared.fault.NameFault.{NameFault}
use Rattle.names.specs.declared.fault.NameFault.TheVariants as linking
use Rattle.names.specs.Faults.{ReportsAlike}
use Rattle.type_table.specs.declared.table.TypeNode.{TypeNode}
use Rattle.type_table.specs.FirstInList.{IsSameLocation}
use Rattle.type_table.specs.Seen.{types_of}
use Rattle.resolve.specs.First.{IsFirstLink, IsFirstOfWritten, IsTextOf, trees_of}
use Rattle.resolve.specs.Links.{Links}
use Rattle.resolve.specs.Program.{Program, WrittenProgram, IsWhole}
use Rattle.tagging.specs.FirstFault.{IsFirstTagFault, ReportOneRule}
use Rattle.tagging.specs.declared.fault.TagFault.{TagFault}
use Rattle.constraints.specs.First.{AreWritten, IsFirst, ReportsSame}
use Rattle.constraints.specs.declared.fault.BoundFault.{BoundFault}
use Rattle.front_end.specs.Faults.{IsLinkedFault, IsModulesFault}
use Rattle.front_end.specs.declared.fault.CompileError.TheVariants as faults

abbrev pub OneTagFault : Type 0
OneTagFault = (p : Program) (ws : List TypeNode) (e f : TagFault) →
    types_of ws ≡ p.types →
    IsFirstTagFault p ws e →
    IsFirstTagFault p ws f →
    ReportOneRule IsSameLocation e f

pub one_of_tags : OneTagFault → (ws : List ModuleSyntax) (w : WrittenProgram) (e f : TagFault) → IsTextOf ws w →
    IsLinkedFault w (faults.Tag e) → IsLinkedFault w (faults.Tag f) → ReportOneRule IsSameLocation e f
one_of_tags law ws w e f t h k = law w.program w.types e f t.same.types h.2 k.2

-- a name has at most one meaning in a module
abbrev pub HasOneMeaning : Program → Type 0
HasOneMeaning p = (M x : Name) (a b : Assigned) → Meaning p.modules M x a → Meaning p.modules M x b → a ≡ b

abbrev pub OneBoundFault : Type 0
OneBoundFault = (p : Program) (ws : List TypeNode) (gs : List AssignedAt) (e f : BoundFault) →
    HasOneMeaning p →
    IsWhole p →
    AreWritten p ws gs →
    IsFirst p ws gs e →
    IsFirst p ws gs f →
    ReportsSame e f

abbrev pub OneMeaning : Type 0
OneMeaning = (ms : List ModuleTree) (p : Program) → Links ms p → HasOneMeaning p

abbrev pub AreWhole : Type 0
AreWhole = (ms : List ModuleTree) (p : Program) → Links ms p → IsWhole p

pub one_of_bounds : OneMeaning → AreWhole → OneBoundFault →
    (ws : List ModuleSyntax) (w : WrittenProgram) (e f : BoundFault) → Links (trees_of ws) w.program → IsTextOf ws w →
    IsLinkedFault w (faults.Bound e) → IsLinkedFault w (faults.Bound f) → ReportsSame e f
one_of_bounds meaning whole law ws w e f l t h k =
    law w.program w.types w.assignments e f (meaning (trees_of ws) w.program l) (whole (trees_of ws) w.program l)
    (record { types = t.same.types; assignments = t.assigned }) h.3 k.3

-- ---- names

abbrev pub OneLinkFault : Type 0
OneLinkFault = (ws : List ModuleSyntax) (e f : NameFault) → IsFirstLink ws e → IsFirstLink ws f → ReportsAlike e f

first_link : (ws : List ModuleSyntax) (e : NameFault) → (e ≡ linking.Memory → ⊥) → IsFirstOfWritten ws e → IsFirstLink ws e
first_link ws linking.Memory n h = absurd (n refl)
first_link ws (linking.Limit l s) n h = h
first_link ws (linking.Twice s) n h = h
first_link ws (linking.UnknownName s) n h = h
first_link ws (linking.NotExported s) n h = h
first_link ws (linking.Circular s) n h = h
first_link ws (linking.UnknownModule s) n h = h

pub one_of_names : OneLinkFault → (ws : List ModuleSyntax) (e f : NameFault) → IsModulesFault ws (faults.Name e) →
    IsModulesFault ws (faults.Name f) → ReportsAlike e f
one_of_names law ws e f h k = law ws e f (first_link ws e h.0 h.2) (first_link ws f k.0 k.2)
