use Rattle.std.proofs.lemmas.Grind.{common_steps}
use Rattle.std.proofs.lemmas.List.{append-nil}
use Rattle.std.proofs.Common.{arith, rules, ◌≡◌, ◌++◌, map, ap, ◌∷◌, [], subst, sym, ◌∙◌}
use Rattle.trees.specs.declared.location.At.{At}
use Rattle.trees.specs.Modules.{assignment_tree_of as given_of}
use Rattle.names.specs.declared.scope.Assigned.{Assigned}
use Rattle.names.specs.First.{assigned_spots, name_place}
use Rattle.names.specs.Modules.{AreDifferent, name_of}
use Rattle.names.specs.Scopes.{meanings}
use Rattle.names.specs.proving.Gathering.{offsets}
use Rattle.names.proofs.Gatherings.{ArePlaced, import_sum, placed_distinct, placed_start, placed_step, placed_end, placed_fault}
use Rattle.names.proofs.Offsets.{assigned_again, names_seen}
use Rattle.names.proofs.Writings.{AreWritten, written_start, written_step, written_end}
use Rattle.names.proofs.gather.ModuleAt.add_all.Goals as goal

pub loop-given-init : goal.loop-given-init
loop-given-init c =
    let e : c.into_iter-given-iterator.result.rest.items ≡ c.args.givens.items = search rules in
    record {
      placed = subst (λ l. ArePlaced c.args.self.number (map given_of c.args.givens.items) (map given_of l) c.args.tables.now c.args.tables.now (meanings c.args.assigned.now.entries)) (sym e) (placed_start c.args.self.number (map given_of c.args.givens.items) c.args.tables.now (meanings c.args.assigned.now.entries) (ap meanings c.requires.empty));
      spots = ap (λ l. offsets l ++ assigned_spots c.into_iter-given-iterator.result.rest.items) c.requires.empty ∙ ap assigned_spots e;
      written = subst (λ l. AreWritten c.args.givens.items l c.args.tables.now c.args.tables.now) (sym e) (written_start c.args.givens.items c.args.tables.now);
    }

pub loop-given-preserved : goal.loop-given-preserved
loop-given-preserved c =
    let e : c.loop-given.given-iterator.rest.items ≡ c.in-Some.given ∷ c.next.new.self.rest.items = search rules in
    let p = subst (λ l. ArePlaced c.args.self.number (map given_of c.args.givens.items) (map given_of l) c.args.tables.now c.loop-given.tables (meanings c.loop-given.assigned.entries)) e c.loop-given.invariant.placed in
    let s = ap (λ l. offsets c.loop-given.assigned.entries ++ assigned_spots l) (sym e) ∙ c.loop-given.invariant.spots in
    record {
      placed = placed_step c.args.self.number (map given_of c.args.givens.items) (map given_of c.next.new.self.rest.items) (given_of c.in-Some.given) c.args.tables.now c.loop-given.tables c.add.new.tables (meanings c.loop-given.assigned.entries) (meanings c.add.new.assigned.entries) p c.in-Ok.ensures.named c.in-Ok.ensures.fresh c.in-Ok.ensures.adds;
      spots = import_sum (offsets c.loop-given.assigned.entries) (offsets c.add.new.assigned.entries) (assigned_spots c.next.new.self.rest.items) (assigned_spots c.args.givens.items) (name_of (given_of c.in-Some.given), name_place c.in-Some.given) s c.in-Ok.ensures.spots;
      written = written_step c.args.givens.items c.next.new.self.rest.items c.in-Some.given c.args.tables.now c.loop-given.tables c.add.new.tables (subst (λ l. AreWritten c.args.givens.items l c.args.tables.now c.loop-given.tables) e c.loop-given.invariant.written) c.in-Ok.ensures.written;
    }

pub returns-in-Err-clause-fault : goal.returns-in-Err-clause-fault
returns-in-Err-clause-fault c =
    let e : c.loop-given.given-iterator.rest.items ≡ c.in-Some.given ∷ c.next.new.self.rest.items = search rules in
    let p = subst (λ l. ArePlaced c.args.self.number (map given_of c.args.givens.items) (map given_of l) c.args.tables.now c.loop-given.tables (meanings c.loop-given.assigned.entries)) e c.loop-given.invariant.placed in
    placed_fault c.args.self.number (map given_of c.args.givens.items) (map given_of c.next.new.self.rest.items) (given_of c.in-Some.given) c.args.tables.now c.loop-given.tables (meanings c.loop-given.assigned.entries) c.args.self.name.now c.in-Err.fault p c.in-Err.ensures.fault

pub returns-in-Err-clause-place : goal.returns-in-Err-clause-place
returns-in-Err-clause-place c =
    let e : c.loop-given.given-iterator.rest.items ≡ c.in-Some.given ∷ c.next.new.self.rest.items = search rules in
    let es = c.loop-given.assigned.entries in
    let same = names_seen (λ (a : At Assigned). a.it) (λ (a : At Assigned). a.at) es in
    let distinct = placed_distinct c.args.self.number (map given_of c.args.givens.items) (map given_of c.loop-given.given-iterator.rest.items) c.args.tables.now c.loop-given.tables (meanings es) c.loop-given.invariant.placed in
    let s = ap (λ l. offsets es ++ assigned_spots l) (sym e) ∙ c.loop-given.invariant.spots in
    assigned_again c.args.self.name.now (meanings es) (offsets es) (assigned_spots c.next.new.self.rest.items) (name_of (given_of c.in-Some.given)) (name_place c.in-Some.given) (assigned_spots c.args.givens.items) c.in-Err.fault s same
    (subst AreDifferent same distinct) c.in-Err.ensures.fault c.in-Err.ensures.at

pub returns : goal.returns
returns c =
    let e : c.loop-given.given-iterator.rest.items ≡ [] = grind (arith, common_steps) in
    let p = subst (λ l. ArePlaced c.args.self.number (map given_of c.args.givens.items) (map given_of l) c.args.tables.now c.loop-given.tables (meanings c.loop-given.assigned.entries)) e c.loop-given.invariant.placed in
    let r = placed_end c.args.self.number (map given_of c.args.givens.items) c.args.tables.now c.loop-given.tables (meanings c.loop-given.assigned.entries) p in
    record {
      named = r.0;
      spots = sym (append-nil (offsets c.loop-given.assigned.entries)) ∙ ap (λ l. offsets c.loop-given.assigned.entries ++ assigned_spots l) (sym e) ∙ c.loop-given.invariant.spots;
      distinct = r.1;
      adds = r.2;
      written = written_end c.args.givens.items c.args.tables.now c.loop-given.tables (subst (λ l. AreWritten c.args.givens.items l c.args.tables.now c.loop-given.tables) e c.loop-given.invariant.written);
      fault = tt;
      place = tt;
    }
