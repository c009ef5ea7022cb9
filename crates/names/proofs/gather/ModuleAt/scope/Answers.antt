use Rattle.std.proofs.Common.{◌≡◌, ◌++◌, [], length, map, refl, sym, subst, ap, ◌∙◌}
use Rattle.trees.specs.Modules.{assignment_tree_of as given_of, import_of}
use Rattle.names.specs.First.{assigned_spots, import_spots}
use Rattle.names.specs.proving.Gathering.{IsAgainIn, IsRepeated}
use Rattle.names.proofs.Offsets.{again_in}
use Rattle.names.specs.Names.{names_of}
use Rattle.names.specs.Modules.{name_of, imports_of, AreDifferent}
use Rattle.names.specs.Scopes.{meanings}
use Rattle.names.proofs.After.{names_named}
use Rattle.names.proofs.Gatherings.{repeated_more}
use Rattle.names.proofs.gather.ModuleAt.scope.Goals as goal

pub returns-in-Err-clause-fault : goal.returns-in-Err-clause-fault
returns-in-Err-clause-fault c =
    repeated_more c.args.self.name.now (map name_of (map given_of c.args.assignments.items)) (names_of (imports_of (map import_of c.args.given.items))) _ c.in-Err.fault refl c.in-Err.ensures.fault

pub import_all-requires-clause-distinct : goal.import_all-requires-clause-distinct
import_all-requires-clause-distinct c =
    let gs = map given_of c.args.assignments.items in
    let same : names_of (meanings c.add_all.new.assigned.entries) ≡ map name_of gs = ap names_of c.in-Ok.ensures.named ∙ names_named (length c.args.tables.now.assignments.items) (length c.args.tables.now.values.items) gs in
    subst AreDifferent (sym same) c.in-Ok.ensures.distinct

pub returns-in-Err-import_all-clause-fault : goal.returns-in-Err-import_all-clause-fault
returns-in-Err-import_all-clause-fault c =
    let gs = map given_of c.args.assignments.items in
    let same : names_of (meanings c.add_all.new.assigned.entries) ≡ map name_of gs = ap names_of c.in-Ok.ensures.named ∙ names_named (length c.args.tables.now.assignments.items) (length c.args.tables.now.values.items) gs in
    subst (λ l. IsRepeated c.args.self.name.now (l ++ names_of (imports_of (map import_of c.args.given.items))) c.in-Err-import_all.fault) same c.in-Err-import_all.ensures.fault

pub returns-in-Ok-exports_of-clause-distinct : goal.returns-in-Ok-exports_of-clause-distinct
returns-in-Ok-exports_of-clause-distinct c =
    let gs = map given_of c.args.assignments.items in
    let same : names_of (meanings c.add_all.new.assigned.entries) ≡ map name_of gs = ap names_of c.in-Ok.ensures.named ∙ names_named (length c.args.tables.now.assignments.items) (length c.args.tables.now.values.items) gs in
    subst (λ l. AreDifferent (l ++ names_of (imports_of (map import_of c.args.given.items)))) same c.in-Ok-import_all.ensures.distinct

pub returns-in-Err-clause-place : goal.returns-in-Err-clause-place
returns-in-Err-clause-place c =
    again_in c.args.self.name.now (assigned_spots c.args.assignments.items) [] (import_spots c.args.given.items) (import_spots c.args.given.items) c.in-Err.fault refl c.in-Err.ensures.place

pub returns-in-Err-import_all-clause-place : goal.returns-in-Err-import_all-clause-place
returns-in-Err-import_all-clause-place c =
    subst (λ l. IsAgainIn c.args.self.name.now l (import_spots c.args.given.items) c.in-Err-import_all.fault) c.in-Ok.ensures.spots c.in-Err-import_all.ensures.place
