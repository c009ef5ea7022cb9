use Rattle.std.specs.Prelude.{IsTrue, ◌↔◌}
use Rattle.std.proofs.lemmas.Result.{IfOk-weaker}
use Rattle.asn_base.specs.Schemas.{AreBounds, IsSize}
use Rattle.asn_base.specs.Seen.{constraint_of}
use Rattle.asn_base.proofs.Bounding.{sizes}
use Rattle.asn_base.proofs.bounds.are_sizes.Goals as goal
use Rattle.asn_base.specs.proving.Lists.{onward}

pub returns : goal.returns
returns c =
    let a = sizes (constraint_of c.args.constraint.now) in
    IfOk-weaker c.are_bounds.result _ (λ b. IsTrue b ↔ AreBounds IsSize (constraint_of c.args.constraint.now)) (λ b h. onward h a.0 a.1) c.are_bounds.ensures
