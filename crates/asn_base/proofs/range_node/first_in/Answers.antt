use Rattle.std.proofs.Common.{◌∙◌, ap, sym}
use Rattle.std.specs.Prelude.{◌∷◌}
use Rattle.asn_base.proofs.range_node.first_in.Goals as goal

pub returns : goal.returns
returns c = let f = c.first_kept.ensures in (f.0, f.1 ∙ ap (λ x. x ∷ f.0) (sym c.range.ensures))
