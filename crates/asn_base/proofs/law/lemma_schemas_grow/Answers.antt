use Rattle.asn_base.specs.Accepted.{IsSimpleType}
use Rattle.asn_base.proofs.Lists.{at_place}
use Rattle.asn_base.proofs.Schemas.{grows}
use Rattle.asn_base.proofs.law.lemma_schemas_grow.Goals as goal

pub returns : goal.returns
returns c = record { each = λ s t r e a. at_place (IsSimpleType s) s t r e a; empty = tt; grows = grows }
