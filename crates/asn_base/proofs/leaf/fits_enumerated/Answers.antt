use mir.Syntax.{w128}
use Rattle.std.proofs.Common.{refl, ap, subst}
use Rattle.std.specs.Prelude.{◌↔◌, IsTrue}
use Rattle.std.proofs.lemmas.Int.{to_z-of_z}
use Rattle.asn_base.specs.Abstract.{enumerated}
use Rattle.asn_base.specs.Seen.{kind_of}
use Rattle.asn_base.specs.Typed.{IsPrimitive}
use Rattle.asn_base.proofs.Leaves.{enumerated_fits}
use Rattle.asn_base.proofs.leaf.fits_enumerated.Goals as goal

pub returns-in-Enumerated : goal.returns-in-Enumerated
returns-in-Enumerated c =
    subst (λ z. IsTrue c.is_item.result ↔ IsPrimitive (kind_of c.args.core.now) (enumerated z)) (to_z-of_z w128 c.args.number c.ranges.number)
    (enumerated_fits (ap kind_of c.in-Enumerated.is) refl c.lemma_integer_within_limit.ensures c.is_item.ensures)
