use Rattle.std.proofs.lemmas.Grind.{common_steps}
use Rattle.std.proofs.Common.{arith, rules, ◌≡◌, ◌++◌, ◌∷◌, [], map, sym, subst, ap, ◌∙◌, append_assoc}
use Rattle.std.proofs.lemmas.List.{append-nil}
use Rattle.trees.specs.Values.{Name, name_at}
use Rattle.trees.specs.Modules.{import_of}
use Rattle.names.specs.Names.{names_of}
use Rattle.names.specs.Modules.{imports_of, AreDifferent}
use Rattle.names.specs.First.{import_spot, import_spots, name_spot, written_imports}
use Rattle.names.specs.Scopes.{meanings, origin_spots, origins}
use Rattle.names.specs.proving.Gathering.{IsRepeated, named_by, offsets, origin_offsets}
use Rattle.names.proofs.Offsets.{again_in}
use Rattle.names.proofs.Gatherings.{imports_sum, imports_fault}
use Rattle.names.proofs.gather.ModuleAt.import_all.Goals as goal

pub loop-names-init : goal.loop-names-init
loop-names-init c =
    let e : c.into_iter-names-iterator.result.rest.items ≡ c.args.given.items = search rules in
    let as' = names_of (meanings c.args.assigned.now.entries) in
    record {
      sum = ap (λ l. origins l ++ imports_of (map import_of c.into_iter-names-iterator.result.rest.items)) c.requires.empty ∙ ap (λ l. imports_of (map import_of l)) e;
      distinct = subst (λ l. AreDifferent (as' ++ names_of (origins l))) (sym c.requires.empty) (subst AreDifferent (sym (append-nil as')) c.requires.distinct);
      spots = ap (λ l. origin_offsets l ++ import_spots c.into_iter-names-iterator.result.rest.items) c.requires.empty ∙ ap import_spots e;
      written = ap (λ l. origin_spots l ++ written_imports c.into_iter-names-iterator.result.rest.items) c.requires.empty ∙ ap written_imports e;
    }

pub loop-names-preserved : goal.loop-names-preserved
loop-names-preserved c =
    let e : c.loop-names.names-iterator.rest.items ≡ c.in-Some.field-0 ∷ c.next.new.self.rest.items = search rules in
    let i = import_of c.in-Some.field-0 in
    let s = ap (λ l. origins c.loop-names.imports.entries ++ imports_of (map import_of l)) (sym e) ∙ c.loop-names.invariant.sum in
    let shared : c.in_ok-from.from.value ≡ c.in-Some.field-0.module = search rules in
    record {
      sum = imports_sum (origins c.loop-names.imports.entries) (origins c.import_names.new.imports.entries) (map (λ (x : Name). (x, i.from)) i.names) (imports_of (map import_of c.next.new.self.rest.items)) (imports_of (map import_of c.args.given.items)) s (c.in-Ok.ensures.ok ∙ ap (λ m. origins c.loop-names.imports.entries ++ map (λ x. (x, name_at m)) i.names) shared);
      distinct = c.in-Ok.ensures.distinct;
      spots = imports_sum (origin_offsets c.loop-names.imports.entries) (origin_offsets c.import_names.new.imports.entries) (map name_spot c.in-Some.field-0.names.items) (import_spots c.next.new.self.rest.items) (import_spots c.args.given.items)
          (ap (λ l. origin_offsets c.loop-names.imports.entries ++ import_spots l) (sym e) ∙ c.loop-names.invariant.spots) c.in-Ok.ensures.spots;
      written = imports_sum (origin_spots c.loop-names.imports.entries) (origin_spots c.import_names.new.imports.entries) (map (import_spot c.in-Some.field-0.module) c.in-Some.field-0.names.items) (written_imports c.next.new.self.rest.items) (written_imports c.args.given.items)
          (ap (λ l. origin_spots c.loop-names.imports.entries ++ written_imports l) (sym e) ∙ c.loop-names.invariant.written)
          (c.in-Ok.ensures.written ∙ ap (λ m. origin_spots c.loop-names.imports.entries ++ map (import_spot m) c.in-Some.field-0.names.items) shared);
    }

pub returns-in-Err-clause-fault : goal.returns-in-Err-clause-fault
returns-in-Err-clause-fault c =
    let e : c.loop-names.names-iterator.rest.items ≡ c.in-Some.field-0 ∷ c.next.new.self.rest.items = search rules in
    let i = import_of c.in-Some.field-0 in
    let s = ap (λ l. origins c.loop-names.imports.entries ++ imports_of (map import_of l)) (sym e) ∙ c.loop-names.invariant.sum in
    let shared : c.in_ok-from.from.value ≡ c.in-Some.field-0.module = search rules in
    let fault = subst (λ m. IsRepeated c.args.self.name.now (named_by c.args.assigned.now.entries (origins c.loop-names.imports.entries ++ map (λ x. (x, name_at m)) i.names)) c.in-Err.fault) shared c.in-Err.ensures.fault in
    imports_fault c.args.self.name.now (names_of (meanings c.args.assigned.now.entries)) (origins c.loop-names.imports.entries) (map (λ (x : Name). (x, i.from)) i.names) (imports_of (map import_of c.next.new.self.rest.items)) (imports_of (map import_of c.args.given.items)) c.in-Err.fault s fault

pub returns-in-Err-clause-place : goal.returns-in-Err-clause-place
returns-in-Err-clause-place c =
    let e : c.loop-names.names-iterator.rest.items ≡ c.in-Some.field-0 ∷ c.next.new.self.rest.items = search rules in
    let is = origin_offsets c.loop-names.imports.entries in
    let one = map name_spot c.in-Some.field-0.names.items in
    let rest = import_spots c.next.new.self.rest.items in
    let s = ap (λ l. is ++ import_spots l) (sym e) ∙ c.loop-names.invariant.spots in
    again_in c.args.self.name.now (offsets c.args.assigned.now.entries) (is ++ one) rest (import_spots c.args.given.items) c.in-Err.fault (append_assoc is one rest ∙ s) c.in-Err.ensures.place

pub returns-clause-distinct : goal.returns-clause-distinct
returns-clause-distinct c =
    let e : c.loop-names.names-iterator.rest.items ≡ [] = grind (arith, common_steps) in
    let is = origins c.loop-names.imports.entries in
    let s : is ≡ imports_of (map import_of c.args.given.items) = sym (append-nil is) ∙ ap (λ l. is ++ imports_of (map import_of l)) (sym e) ∙ c.loop-names.invariant.sum in
    subst (λ l. AreDifferent (names_of (meanings c.args.assigned.now.entries) ++ names_of l)) s c.loop-names.invariant.distinct

pub returns-clause-written : goal.returns-clause-written
returns-clause-written c =
    let e : c.loop-names.names-iterator.rest.items ≡ [] = grind (arith, common_steps) in
    let is = origin_spots c.loop-names.imports.entries in
    sym (append-nil is) ∙ ap (λ l. is ++ written_imports l) (sym e) ∙ c.loop-names.invariant.written
