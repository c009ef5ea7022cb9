use Rattle.std.proofs.Common.{◌≡◌, Some, ap, option_map, sym, subst, ◌∙◌}
use Rattle.std.proofs.lemmas.Option.{same_Some}
use Rattle.names.specs.Modules.{OccursIn}
use Rattle.names.specs.Scopes.{module_of}
use Rattle.names.specs.proving.Standing.{HasNoAssignment}
use Rattle.names.specs.Names.{names_of}
use Rattle.names.proofs.Listing.{spots_named}
use Rattle.names.proofs.standing.check_exports.Goals as goal

pub returns-in-Ok-clause-ok : goal.returns-in-Ok-clause-ok
returns-in-Ok-clause-ok c = λ xs x e s.
    let i : c.args.scope.now.exports ≡ Some c.in-Some.exports = c.in-Some.is in
    let q : names_of c.in-Some.exports ≡ xs = same_Some (names_of c.in-Some.exports) xs (sym (ap (option_map names_of) i) ∙ e) in
    let same = sym (spots_named c.names.result.now) ∙ ap names_of c.names.ensures ∙ q in
    c.in-Ok.ensures.ok x (subst (λ l. OccursIn l x) (sym same) s)

pub returns-in-Err-clause-fault : goal.returns-in-Err-clause-fault
returns-in-Err-clause-fault c =
    let as' = (module_of c.args.scope.now).assigned in
    let i : c.args.scope.now.exports ≡ Some c.in-Some.exports = c.in-Some.is in
    let same = sym (spots_named c.names.result.now) ∙ ap names_of c.names.ensures in
    (names_of c.in-Some.exports, ap (option_map names_of) i, subst (λ l. HasNoAssignment c.args.within.now l as' c.in-Err.fault) same c.in-Err.ensures.fault)
