use Rattle.std.proofs.Common.{◌≡◌, true, false, sym, ap, ◌∙◌, option_map, string_bytes}
use Rattle.names.specs.Modules.{IsExported}
use Rattle.names.specs.Scopes.{module_of, origin_of, scopes}
use Rattle.names.proofs.Standings.{there_under}
use Rattle.names.proofs.standing.check_import.Goals as goal

pub returns-in_ok-source_location-in-None-assigned_to-clause-fault : goal.returns-in_ok-source_location-in-None-assigned_to-clause-fault
returns-in_ok-source_location-in-None-assigned_to-clause-fault c =
    let e = c.in_ok-source_location-in-None-assigned_to.ensures in
    (e.within, e.name, module_of c.in-Some.other.now, there_under (scopes c.args.modules.now.entries) _ (origin_of c.args.origin.now) _ _ (c.as_str.ensures.value ∙ ap (λ m. string_bytes m.it) c.deref.ensures) c.scope_of.ensures (ap (option_map (λ s. module_of s.now)) c.in-Some.is), sym c.assigned_to.ensures ∙ c.in-None-assigned_to.is)

pub returns-then-exports-clause-ok : goal.returns-then-exports-clause-ok
returns-then-exports-clause-ok c = record {
  other = module_of c.in-Some.other.now;
  there = there_under (scopes c.args.modules.now.entries) _ (origin_of c.args.origin.now) _ _ (c.as_str.ensures.value ∙ ap (λ m. string_bytes m.it) c.deref.ensures) c.scope_of.ensures (ap (option_map (λ s. module_of s.now)) c.in-Some.is);
  assigned = c.in-Some-assigned_to.field-0;
  assigns = sym c.assigned_to.ensures ∙ c.in-Some-assigned_to.is;
  exported = c.exports.ensures.0 c.if-exports.true;
}

pub returns-in_ok-source_location-in-Some-assigned_to-clause-fault : goal.returns-in_ok-source_location-in-Some-assigned_to-clause-fault
returns-in_ok-source_location-in-Some-assigned_to-clause-fault c =
    let n = module_of c.in-Some.other.now in
    let e = c.in_ok-source_location-in-Some-assigned_to.ensures in
    let u = there_under (scopes c.args.modules.now.entries) _ (origin_of c.args.origin.now) _ _ (c.as_str.ensures.value ∙ ap (λ m. string_bytes m.it) c.deref.ensures) c.scope_of.ensures (ap (option_map (λ s. module_of s.now)) c.in-Some.is) in
    let not : IsExported n.exports c.args.name.now → ⊥ = λ x. (let y : c.exports.result ≡ true = c.exports.ensures.1 x in let f : c.exports.result ≡ false = c.if-exports.false in absurd cc) in
    (e.within, e.name, n, u, c.in-Some-assigned_to.field-0, sym c.assigned_to.ensures ∙ c.in-Some-assigned_to.is, not)
