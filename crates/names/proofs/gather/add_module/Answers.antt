use Rattle.std.proofs.Common.{rules, arith, ◌≡◌, ◌++◌, ◌∷◌, [], inl, length, map, option_map, Some, None, sym, subst, ap, ◌∙◌, string_bytes}
use Rattle.std.proofs.lemmas.List.{map-append}
use Rattle.trees.specs.Values.{name_at}
use Rattle.trees.specs.Modules.{module_tree_of}
use Rattle.names.specs.declared.fault.NameFault.TheVariants as faults
use Rattle.names.specs.Modules.{OccursTwice}
use Rattle.names.specs.proving.Gathering.{Adds}
use Rattle.names.specs.Names.{under}
use Rattle.names.specs.Scopes.{all_spots, module_of, scopes, spots_of}
use Rattle.names.specs.Sources.{header_of}
use Rattle.names.proofs.Entries.{inserted}
use Rattle.names.proofs.Gatherings.{gathered_more, module_twice, scope_fault}
use Rattle.names.proofs.Gatherings.{module_first, scope_first}
use Rattle.names.proofs.Offsets.{module_spot, none_seen, scope_twice}
use Rattle.names.proofs.Writings.{written_more}
use Rattle.names.proofs.gather.add_module.Goals as goal

pub returns-in-Some-clause-fault : goal.returns-in-Some-clause-fault
returns-in-Some-clause-fault c = λ ms rest h.
    let t = module_tree_of c.args.given in
    let ss = scopes c.args.gathered.now.modules.entries in
    let u : under t.name ss ≡ Some (module_of c.in-Some.field-0.now) = ap (λ z. under z ss) (sym c.as_str.ensures.value) ∙ sym c.scope_of.ensures ∙ ap (option_map (λ s. module_of s.now)) c.in-Some.is in
    let e = c.in_ok-reported-in-Some.ensures in
    inl (e.within ∙ c.as_str-in-Some.ensures.value ∙ sym (e.name ∙ c.as_str-in-Some-2.ensures.value), subst (λ z. OccursTwice (map (λ m. m.name) (ms ++ t ∷ rest)) z) (sym (e.name ∙ c.as_str-in-Some-2.ensures.value)) (module_twice ms rest t c.args.gathered.now (module_of c.in-Some.field-0.now) h u))

pub returns-in_ok-insert-in-Ok-clause-ok : goal.returns-in_ok-insert-in-Ok-clause-ok
returns-in_ok-insert-in-Ok-clause-ok c = λ ms h.
    let t = module_tree_of c.args.given in
    let g = c.args.gathered.now in
    let ss = scopes g.modules.entries in
    let u : under t.name ss ≡ None = ap (λ z. under z ss) (sym c.as_str.ensures.value) ∙ sym c.scope_of.ensures ∙ ap (option_map (λ s. module_of s.now)) c.in-None.is in
    let n : c.len-number.result ≡ length g.headers.items = omega arith in
    let name : string_bytes c.in_ok-text-in-Ok.text ≡ name_at c.args.given.name = search rules in
    let s = inserted module_of g.modules c.in_ok-text-in-Ok.text c.in-Ok.scope t.name c.insert.new.self.entries name u c.in_ok-insert-in-Ok.ensures.entries ∙ ap (λ z. ss ++ (t.name, z) ∷ []) c.in-Ok.ensures.scope in
    let d = ap (map header_of) c.in_ok-push-in-Ok.ensures.items ∙ map-append header_of g.headers.items (_ ∷ []) in
    gathered_more ms t g (record { modules = c.insert.new.self; headers = c.push.new.self; tables = c.scope.new.tables }) h u s d (subst (λ k. Adds k t.assignments g.tables c.scope.new.tables) n c.in-Ok.ensures.adds) c.in-Ok.ensures.distinct

pub returns-in-Err-clause-fault : goal.returns-in-Err-clause-fault
returns-in-Err-clause-fault c = λ ms rest h.
    scope_fault ms rest (module_tree_of c.args.given) c.as_str-2.result.now c.in-Err.fault c.as_str-2.ensures.value c.in-Err.ensures.fault

pub returns-in-Some-clause-first : goal.returns-in-Some-clause-first
returns-in-Some-clause-first c = λ ms rest h.
    let t = module_tree_of c.args.given in
    let ss = scopes c.args.gathered.now.modules.entries in
    let u : under t.name ss ≡ Some (module_of c.in-Some.field-0.now) = ap (λ z. under z ss) (sym c.as_str.ensures.value) ∙ sym c.scope_of.ensures ∙ ap (option_map (λ s. module_of s.now)) c.in-Some.is in
    let e = c.in_ok-reported-in-Some.ensures in
    module_first ms rest t c.args.gathered.now h (faults.Twice c.in_ok-reported-in-Some.reported) (module_of c.in-Some.field-0.now) u (e.within ∙ c.as_str-in-Some.ensures.value, e.name ∙ c.as_str-in-Some-2.ensures.value)

pub returns-in-Err-clause-first : goal.returns-in-Err-clause-first
returns-in-Err-clause-first c = λ ms rest h.
    let t = module_tree_of c.args.given in
    let ss = scopes c.args.gathered.now.modules.entries in
    let u : under t.name ss ≡ None = ap (λ z. under z ss) (sym c.as_str.ensures.value) ∙ sym c.scope_of.ensures ∙ ap (option_map (λ s. module_of s.now)) c.in-None.is in
    scope_first ms rest t c.args.gathered.now h c.as_str-2.result.now c.in-Err.fault c.as_str-2.ensures.value u c.in-Err.ensures.fault

pub returns-in-Some-clause-place : goal.returns-in-Some-clause-place
returns-in-Some-clause-place c = λ ws rest h.
    let m = c.args.given in
    let ss = scopes c.args.gathered.now.modules.entries in
    let u : under (name_at m.name) ss ≡ Some (module_of c.in-Some.field-0.now) = ap (λ z. under z ss) (sym c.as_str.ensures.value) ∙ sym c.scope_of.ensures ∙ ap (option_map (λ s. module_of s.now)) c.in-Some.is in
    let e = c.in_ok-reported-in-Some.ensures in
    module_spot ws rest m c.args.gathered.now h c.in_ok-reported-in-Some.reported (module_of c.in-Some.field-0.now) u (e.within ∙ c.as_str-in-Some.ensures.value) (e.name ∙ c.as_str-in-Some-2.ensures.value) e.at

pub returns-in-Err-clause-place : goal.returns-in-Err-clause-place
returns-in-Err-clause-place c = λ ws rest h.
    let m = c.args.given in
    let ss = scopes c.args.gathered.now.modules.entries in
    let u : under (name_at m.name) ss ≡ None = ap (λ z. under z ss) (sym c.as_str.ensures.value) ∙ sym c.scope_of.ensures ∙ ap (option_map (λ s. module_of s.now)) c.in-None.is in
    scope_twice ws rest m c.args.gathered.now h c.as_str-2.result.now c.in-Err.fault c.as_str-2.ensures.value u c.in-Err.ensures.place

pub returns-in_ok-insert-in-Ok-clause-written : goal.returns-in_ok-insert-in-Ok-clause-written
returns-in_ok-insert-in-Ok-clause-written c = λ ws h.
    let m = c.args.given in
    let g = c.args.gathered.now in
    let x = name_at m.name in
    let ss = scopes g.modules.entries in
    let u : under x ss ≡ None = ap (λ z. under z ss) (sym c.as_str.ensures.value) ∙ sym c.scope_of.ensures ∙ ap (option_map (λ s. module_of s.now)) c.in-None.is in
    let name : string_bytes c.in_ok-text-in-Ok.text ≡ x = search rules in
    let s = inserted spots_of g.modules c.in_ok-text-in-Ok.text c.in-Ok.scope x c.insert.new.self.entries name (none_seen module_of spots_of g.modules.entries x u) c.in_ok-insert-in-Ok.ensures.entries ∙ ap (λ z. all_spots g.modules.entries ++ (x, z) ∷ []) c.in-Ok.ensures.spots in
    written_more ws m g (record { modules = c.insert.new.self; headers = c.push.new.self; tables = c.scope.new.tables }) h s c.in-Ok.ensures.written
