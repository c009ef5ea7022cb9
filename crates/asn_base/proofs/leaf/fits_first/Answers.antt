use mir.Syntax.{w128}
use Rattle.std.proofs.Common.{refl, ap, subst}
use Rattle.std.proofs.lemmas.Int.{to_z-of_z}
use Rattle.asn_base.specs.Abstract.{integer}
use Rattle.asn_base.specs.Seen.{kind_of}
use Rattle.asn_base.specs.Typed.{IsPrimitive}
use Rattle.asn_base.proofs.Leaves.{integer_fits_if}
use Rattle.asn_base.proofs.leaf.fits_first.Goals as goal

pub returns-in-Integer : goal.returns-in-Integer
returns-in-Integer c = λ y.
    subst (λ z. IsPrimitive (kind_of c.args.core.now) (integer z)) (to_z-of_z w128 c.args.number c.ranges.number)
    (integer_fits_if (ap kind_of c.in-Integer.is) refl c.lemma_integer_within_limit.ensures (c.is_in_first.ensures y))
