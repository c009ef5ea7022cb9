use Rattle.std.proofs.Common.{subst}
use Rattle.asn_base.specs.Seen.{kind_of}
use Rattle.asn_base.specs.Schemas.{IsSound}
use Rattle.asn_base.proofs.schema.Schema.get.Goals as goal

pub returns-clause-sound : goal.returns-clause-sound
returns-clause-sound c =
    subst (λ s. IsSound s (kind_of c.get.result.now.core.value)) c.self.view_is (c.self.invariant.sound c.args.id.index _ _ (record { found = c.get.ensures.is }))
