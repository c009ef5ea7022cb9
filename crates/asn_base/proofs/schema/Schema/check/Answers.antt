use Rattle.std.proofs.Common.{subst}
use Rattle.asn_base.specs.Rules.{IsRefused}
use Rattle.asn_base.proofs.Checks.{refused}
use Rattle.asn_base.proofs.Ruled.{schema_of_rules}
use Rattle.asn_base.proofs.schema.Schema.check.Goals as goal

pub of_kept-requires : goal.of_kept-requires
of_kept-requires c = schema_of_rules _ c.in-Ok.ensures

pub returns-in-Err-clause-refused : goal.returns-in-Err-clause-refused
returns-in-Err-clause-refused c = subst (λ q. IsRefused q c.in-Err.fault) c.of-kept.ensures (refused _ c.in-Err.fault c.in-Err.ensures)
