use mir.Syntax.{w128}
use Rattle.std.proofs.Common.{refl, ap, subst}
use Rattle.std.specs.Prelude.{◌↔◌, IsTrue}
use Rattle.std.proofs.lemmas.Int.{to_z-of_z}
use Rattle.asn_base.specs.Abstract.{integer}
use Rattle.asn_base.specs.Seen.{kind_of}
use Rattle.asn_base.specs.Typed.{IsPrimitive}
use Rattle.asn_base.proofs.Leaves.{integer_fits}
use Rattle.asn_base.proofs.leaf.fits_integer.Goals as goal

pub returns-in-Integer : goal.returns-in-Integer
returns-in-Integer c =
    subst (λ z. IsTrue c.is_allowed.result ↔ IsPrimitive (kind_of c.args.core.now) (integer z)) (to_z-of_z w128 c.args.number c.ranges.number)
    (integer_fits (ap kind_of c.in-Integer.is) refl c.lemma_integer_within_limit.ensures c.is_allowed.ensures)
