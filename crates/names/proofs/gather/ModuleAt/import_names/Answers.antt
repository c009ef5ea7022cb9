use Rattle.std.proofs.Common.{rules, ◌≡◌, ◌++◌, ◌∷◌, map, sym, ap, ◌∙◌}
use Rattle.trees.specs.Values.{name_at}
use Rattle.names.specs.Names.{names_of}
use Rattle.trees.specs.declared.location.At.{At}
use Rattle.names.specs.declared.scope.Assigned.{Assigned}
use Rattle.names.specs.declared.scope.Origin.{Origin}
use Rattle.names.specs.First.{import_spot, name_spot}
use Rattle.names.specs.Scopes.{meanings, origin_of, origin_spots, origins}
use Rattle.names.specs.proving.Gathering.{offsets, origin_offsets}
use Rattle.names.proofs.Offsets.{imported_again, names_seen, none_seen}
use Rattle.names.proofs.Gatherings.{import_sum, import_distinct, import_fault}
use Rattle.names.proofs.gather.ModuleAt.import_names.Goals as goal

pub loop-name-preserved : goal.loop-name-preserved
loop-name-preserved c =
    let e : c.loop-name.name-iterator.rest.items ≡ c.in-Some.name ∷ c.next.new.self.rest.items = search rules in
    let N = name_at c.args.from.now.value in
    let x = name_at c.in-Some.name in
    let is = origins c.loop-name.imports.entries in
    let all = origins c.args.imports.now.entries ++ map (λ x. (x, N)) (map name_at c.args.names.items) in
    let rest = map (λ x. (x, N)) (map name_at c.next.new.self.rest.items) in
    let s : is ++ (x, N) ∷ rest ≡ all = ap (λ l. is ++ map (λ x. (x, N)) (map name_at l)) (sym e) ∙ c.loop-name.invariant.sum in
    record {
      sum = import_sum is (origins c.import_once.new.imports.entries) rest all (x, N) s c.in-Ok.ensures.ok;
      distinct = import_distinct (meanings c.args.assigned.now.entries) is (origins c.import_once.new.imports.entries) x N c.loop-name.invariant.distinct c.in-Ok.ensures.unassigned c.in-Ok.ensures.fresh c.in-Ok.ensures.ok;
      spots = import_sum (origin_offsets c.loop-name.imports.entries) (origin_offsets c.import_once.new.imports.entries) (map name_spot c.next.new.self.rest.items) (origin_offsets c.args.imports.now.entries ++ map name_spot c.args.names.items) (name_spot c.in-Some.name)
          (ap (λ l. origin_offsets c.loop-name.imports.entries ++ map name_spot l) (sym e) ∙ c.loop-name.invariant.spots) c.in-Ok.ensures.spots;
      written = import_sum (origin_spots c.loop-name.imports.entries) (origin_spots c.import_once.new.imports.entries) (map (import_spot c.args.from.now.value) c.next.new.self.rest.items) (origin_spots c.args.imports.now.entries ++ map (import_spot c.args.from.now.value) c.args.names.items) (import_spot c.args.from.now.value c.in-Some.name)
          (ap (λ l. origin_spots c.loop-name.imports.entries ++ map (import_spot c.args.from.now.value) l) (sym e) ∙ c.loop-name.invariant.written) c.in-Ok.ensures.written;
    }

pub returns-in-Err-clause-fault : goal.returns-in-Err-clause-fault
returns-in-Err-clause-fault c =
    let e : c.loop-name.name-iterator.rest.items ≡ c.in-Some.name ∷ c.next.new.self.rest.items = search rules in
    let N = name_at c.args.from.now.value in
    let x = name_at c.in-Some.name in
    let is = origins c.loop-name.imports.entries in
    let all = origins c.args.imports.now.entries ++ map (λ x. (x, N)) (map name_at c.args.names.items) in
    let rest = map (λ x. (x, N)) (map name_at c.next.new.self.rest.items) in
    let s : is ++ (x, N) ∷ rest ≡ all = ap (λ l. is ++ map (λ x. (x, N)) (map name_at l)) (sym e) ∙ c.loop-name.invariant.sum in
    import_fault c.args.self.name.now x N (names_of (meanings c.args.assigned.now.entries)) is rest all c.in-Err.fault s c.loop-name.invariant.distinct c.in-Err.ensures.fault

pub returns-in-Err-clause-place : goal.returns-in-Err-clause-place
returns-in-Err-clause-place c =
    let e : c.loop-name.name-iterator.rest.items ≡ c.in-Some.name ∷ c.next.new.self.rest.items = search rules in
    let as' = c.args.assigned.now.entries in
    let is = c.loop-name.imports.entries in
    let it = λ (a : At Assigned). a.it in
    let at = λ (a : At Assigned). a.at in
    let s = ap (λ l. origin_offsets is ++ map name_spot l) (sym e) ∙ c.loop-name.invariant.spots in
    let n = ap (λ l. l ++ names_of (origins is)) (names_seen it at as') ∙ ap (λ l. names_of (offsets as') ++ l) (names_seen origin_of (λ (o : Origin). o.at) is) in
    imported_again c.args.self.name.now (name_at c.in-Some.name) c.in-Some.name.at (names_of (meanings as') ++ names_of (origins is)) (offsets as') (origin_offsets is) (map name_spot c.next.new.self.rest.items)
    (origin_offsets c.args.imports.now.entries ++ map name_spot c.args.names.items) c.in-Err.fault s n c.loop-name.invariant.distinct c.in-Err.ensures.fault c.in-Err.ensures.assigned_at
    (λ u. c.in-Err.ensures.at (none_seen at it as' (name_at c.in-Some.name) u))
