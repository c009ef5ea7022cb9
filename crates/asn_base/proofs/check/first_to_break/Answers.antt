use Rattle.std.proofs.Common.{subst}
use Rattle.asn_base.specs.Rules.{AllKeep, place_of}
use Rattle.asn_base.proofs.Ready.{numbered_by_rules}
use Rattle.asn_base.proofs.check.first_to_break.Goals as goal

pub first_wrong_default-requires : goal.first_wrong_default-requires
first_wrong_default-requires c = numbered_by_rules c.args.types.now (subst (λ q. AllKeep c.args.types.now (place_of q)) c.in-Defaults.is c.requires)
