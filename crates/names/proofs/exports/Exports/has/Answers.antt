use Rattle.std.proofs.Common.{◌≡◌, sym, subst, ◌∙◌}
use Rattle.std.specs.List.{list_any}
use Rattle.std.specs.Str.{bytes_eq}
use Rattle.trees.specs.Values.{name_at}
use Rattle.names.specs.Modules.{OccursIn}
use Rattle.names.proofs.Listing.{any_occurs, occurs_any, spots_named}
use Rattle.names.proofs.exports.Exports.has.Goals as goal

pub returns : goal.returns
returns c =
    let x = c.args.name.now in
    let ns = c.self.inside.names.items in
    let e : c.contains.result ≡ list_any (λ n. bytes_eq x (name_at n)) ns = c.contains.ensures ∙ c.self.invariant x in
    rw (← c.self.view_is) (λ h. subst (λ l. OccursIn l x) (sym (spots_named ns)) (any_occurs x ns (sym e ∙ h)), λ s. e ∙ occurs_any x ns (subst (λ l. OccursIn l x) (spots_named ns) s))
