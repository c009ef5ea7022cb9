use Rattle.std.proofs.Common.{rules, ◌≡◌, ℕ, Option, ◌++◌, ◌∷◌, [], Some, None, refl, sym, ap, ◌∙◌, option_map}
use Rattle.std.specs.Prelude.{String}
use Rattle.std.specs.Global.{Global}
use Rattle.trees.specs.declared.location.At.{At}
use Rattle.trees.specs.Values.{Name, name_at}
use Rattle.names.specs.Names.{names_of, under}
use Rattle.names.specs.Scopes.{ImportSpot, origin_of, meanings, origin_spot, origin_spots, origins}
use Rattle.names.specs.proving.Distinct.{occurs_left, occurs_right, name_under}
use Rattle.names.specs.declared.scope.Origin.{Origin}
use Rattle.names.specs.proving.Gathering.{offsets}
use Rattle.names.proofs.Entries.{inserted}
use Rattle.names.proofs.Offsets.{none_seen}
use Rattle.names.proofs.gather.ModuleAt.import_once.Goals as goal

pub returns-in-Some-clause-fault : goal.returns-in-Some-clause-fault
returns-in-Some-clause-fault c =
    let x = name_at c.args.name in
    let as' = meanings c.args.assigned.now.entries in
    let is = origins c.args.imports.now.entries in
    let u : under x as' ≡ Some c.in-Some.given.now.it = ap (λ z. under z as') (sym c.as_str.ensures.value) ∙ sym c.given_in.ensures.it ∙ ap (option_map (λ a. a.now.it)) c.in-Some.is in
    (c.in_ok-source_location-in-Some.ensures.within, c.in_ok-source_location-in-Some.ensures.name ∙ c.as_str-in-Some.ensures.value, occurs_left (names_of as') (names_of is) x (name_under x as' c.in-Some.given.now.it u))

pub returns-in_ok-source_location-in-Some-origin_in-clause-fault : goal.returns-in_ok-source_location-in-Some-origin_in-clause-fault
returns-in_ok-source_location-in-Some-origin_in-clause-fault c =
    let x = name_at c.args.name in
    let as' = meanings c.args.assigned.now.entries in
    let is = origins c.args.imports.now.entries in
    let o = origin_of c.in-Some-origin_in.field-0.now in
    let u : under x is ≡ Some o = ap (λ z. under z is) (sym c.as_str-2.ensures.value) ∙ sym c.origin_in.ensures ∙ ap (option_map (λ t. origin_of t.now)) c.in-Some-origin_in.is in
    (c.in_ok-source_location-in-Some-origin_in.ensures.within, c.in_ok-source_location-in-Some-origin_in.ensures.name ∙ c.as_str-in-Some-origin_in.ensures.value, occurs_right (names_of as') (names_of is) x (name_under x is o u))

pub returns-in_ok-insert-in-None-origin_in-clause-ok : goal.returns-in_ok-insert-in-None-origin_in-clause-ok
returns-in_ok-insert-in-None-origin_in-clause-ok c =
    let x = name_at c.args.name in
    let is = origins c.args.imports.now.entries in
    let u : under x is ≡ None = ap (λ z. under z is) (sym c.as_str-2.ensures.value) ∙ sym c.origin_in.ensures ∙ ap (option_map (λ t. origin_of t.now)) c.in-None-origin_in.is in
    let from : c.in_ok-clone-in-None-origin_in.field-0.value ≡ c.args.from.now.value = search rules in
    inserted origin_of c.args.imports.now c.args.name.it _ x c.insert.new.self.entries refl u c.in_ok-insert-in-None-origin_in.ensures.entries ∙ ap (λ z. is ++ (x, name_at z) ∷ []) from

pub returns-in_ok-insert-in-None-origin_in-clause-spots : goal.returns-in_ok-insert-in-None-origin_in-clause-spots
returns-in_ok-insert-in-None-origin_in-clause-spots c =
    let x = name_at c.args.name in
    let es = c.args.imports.now.entries in
    let u : under x (origins es) ≡ None = ap (λ z. under z (origins es)) (sym c.as_str-2.ensures.value) ∙ sym c.origin_in.ensures ∙ ap (option_map (λ t. origin_of t.now)) c.in-None-origin_in.is in
    inserted (λ (o : Origin). o.at) c.args.imports.now c.args.name.it _ x c.insert.new.self.entries refl (none_seen origin_of (λ (o : Origin). o.at) es x u) c.in_ok-insert-in-None-origin_in.ensures.entries

found : (n m : ℕ) (o : Option ℕ) → Some n ≡ o → o ≡ Some m → n ≡ m
found n m o e f = let z : Some n ≡ Some m = e ∙ f in cc

pub returns-in-Some-clause-assigned_at : goal.returns-in-Some-clause-assigned_at
returns-in-Some-clause-assigned_at c = λ n e.
    let x = name_at c.args.name in
    let es = c.args.assigned.now.entries in
    let u : Some c.in-Some.given.now.at ≡ under x (offsets es) = sym (ap (option_map (λ a. a.now.at)) c.in-Some.is) ∙ c.given_in.ensures.at ∙ ap (λ z. under z (offsets es)) c.as_str.ensures.value in
    c.in_ok-source_location-in-Some.ensures.at ∙ found c.in-Some.given.now.at n (under x (offsets es)) u e

pub returns-in_ok-source_location-in-Some-origin_in-clause-assigned_at : goal.returns-in_ok-source_location-in-Some-origin_in-clause-assigned_at
returns-in_ok-source_location-in-Some-origin_in-clause-assigned_at c = λ n e.
    let x = name_at c.args.name in
    let es = c.args.assigned.now.entries in
    let u : None ≡ under x (offsets es) = sym (ap (option_map (λ a. a.now.at)) c.in-None.is) ∙ c.given_in.ensures.at ∙ ap (λ z. under z (offsets es)) c.as_str.ensures.value in
    let z : None ≡ Some n = u ∙ e in
    absurd cc

abbrev spot : Name → ℕ → At (String Global) → Name × ImportSpot
spot x own from = (x, record { own = own; other = name_at from; from = from.at })

pub returns-in_ok-insert-in-None-origin_in-clause-written : goal.returns-in_ok-insert-in-None-origin_in-clause-written
returns-in_ok-insert-in-None-origin_in-clause-written c =
    let x = name_at c.args.name in
    let es = c.args.imports.now.entries in
    let u : under x (origins es) ≡ None = ap (λ z. under z (origins es)) (sym c.as_str-2.ensures.value) ∙ sym c.origin_in.ensures ∙ ap (option_map (λ t. origin_of t.now)) c.in-None-origin_in.is in
    let from : c.in_ok-clone-in-None-origin_in.field-0.value ≡ c.args.from.now.value = search rules in
    inserted origin_spot c.args.imports.now c.args.name.it _ x c.insert.new.self.entries refl (none_seen origin_of origin_spot es x u) c.in_ok-insert-in-None-origin_in.ensures.entries
    ∙ ap (λ z. origin_spots es ++ spot x c.args.name.at z ∷ []) from
