use Rattle.std.proofs.Common.{rules, ◌≡◌, Some, None, option_map, sym, ap, ◌∙◌}
use Rattle.trees.specs.Values.{name_at}
use Rattle.names.specs.Names.{under}
use Rattle.names.specs.Scopes.{meanings}
use Rattle.trees.specs.declared.location.At.{At}
use Rattle.names.specs.declared.scope.Assigned.{Assigned}
use Rattle.names.proofs.Entries.{inserted}
use Rattle.names.proofs.Offsets.{none_seen}
use Rattle.names.proofs.gather.ModuleAt.name_once.Goals as goal

pub returns-in_ok-source_location-in-Some-clause-fault : goal.returns-in_ok-source_location-in-Some-clause-fault
returns-in_ok-source_location-in-Some-clause-fault c =
    let as' = meanings c.args.assigned.now.entries in
    let e = c.in_ok-source_location-in-Some.ensures in
    let u : under (name_at c.args.name.now) as' ≡ Some c.in-Some.field-0.now.it = ap (λ z. under z as') (sym c.as_str-text.ensures.value) ∙ sym c.given_in.ensures.it ∙ ap (option_map (λ a. a.now.it)) c.in-Some.is in
    (e.within, e.name ∙ c.as_str-text.ensures.value, c.in-Some.field-0.now.it, u)

pub returns-in_ok-insert-in-None-clause-ok : goal.returns-in_ok-insert-in-None-clause-ok
returns-in_ok-insert-in-None-clause-ok c =
    let as' = meanings c.args.assigned.now.entries in
    let u : under (name_at c.args.name.now) as' ≡ None = ap (λ z. under z as') (sym c.as_str-text.ensures.value) ∙ sym c.given_in.ensures.it ∙ ap (option_map (λ a. a.now.it)) c.in-None.is in
    inserted (λ a. a.it) c.args.assigned.now c.in_ok-from_str-in-None.field-0 _ (name_at c.args.name.now) c.insert.new.self.entries (search rules) u c.in_ok-insert-in-None.ensures.entries

pub returns-in_ok-insert-in-None-clause-spots : goal.returns-in_ok-insert-in-None-clause-spots
returns-in_ok-insert-in-None-clause-spots c =
    let x = name_at c.args.name.now in
    let es = c.args.assigned.now.entries in
    let u : under x (meanings es) ≡ None = ap (λ z. under z (meanings es)) (sym c.as_str-text.ensures.value) ∙ sym c.given_in.ensures.it ∙ ap (option_map (λ a. a.now.it)) c.in-None.is in
    inserted (λ (a : At Assigned). a.at) c.args.assigned.now c.in_ok-from_str-in-None.field-0 _ x c.insert.new.self.entries (search rules)
    (none_seen (λ (a : At Assigned). a.it) (λ (a : At Assigned). a.at) es x u) c.in_ok-insert-in-None.ensures.entries
