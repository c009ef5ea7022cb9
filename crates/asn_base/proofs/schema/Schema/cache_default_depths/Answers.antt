use Rattle.asn_base.proofs.Ready.{numbered}
use Rattle.asn_base.proofs.schema.Schema.cache_default_depths.Goals as goal

pub cache_default_depths-requires : goal.cache_default_depths-requires
cache_default_depths-requires c = numbered c.self.invariant
