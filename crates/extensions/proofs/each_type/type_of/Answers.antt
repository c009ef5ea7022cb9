use Rattle.asn_base.specs.Seen.{resolved_of}
use Rattle.names.specs.proving.Distinct.{item_at}
use Rattle.extensions.proofs.each_type.type_of.Goals as goal

pub shared-requires-clause-made : goal.shared-requires-clause-made
shared-requires-clause-made c =
    c.requires.types.each c.in-Some.first (resolved_of c.index-types-first.result)
    (item_at resolved_of c.args.types.now c.in-Some.first c.index-types-first.result c.in-Some.ensures.made c.index-types-first.is)
