use Rattle.std.proofs.Common.{Some, ap, map, option_map, sym, ◌∙◌}
use Rattle.trees.specs.Values.{name_at}
use Rattle.names.specs.Names.{names_of}
use Rattle.names.proofs.Listing.{spots_named}
use Rattle.names.proofs.gather.exports_of.Goals as goal

pub returns-in-Ok-clause-named : goal.returns-in-Ok-clause-named
returns-in-Ok-clause-named c =
    ap Some (ap names_of c.in-Ok.ensures.ok ∙ spots_named c.in-Some.names.items) ∙ ap (option_map (λ xs. map name_at xs.items)) (sym c.in-Some.is)
