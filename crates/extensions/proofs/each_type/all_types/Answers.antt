use Rattle.std.proofs.Common.{subst, sym}
use Rattle.asn_base.specs.Seen.{resolved_of, types_of}
use Rattle.extensions.specs.proving.Tables.{AreEach, IsResolved}
use Rattle.extensions.proofs.Each.{one_more}
use Rattle.extensions.proofs.each_type.all_types.Goals as goal

pub loop-index-preserved : goal.loop-index-preserved
loop-index-preserved c =
    one_more (IsResolved c.args.bounded.now.program) c.loop-index.index (types_of c.loop-index.types.items) (types_of c.add.new.types.items)
    (resolved_of c.in_ok-one.one) c.loop-index.invariant c.in_ok-add.ensures c.in_ok-one.ensures

pub type_of-requires-clause-types : goal.type_of-requires-clause-types
type_of-requires-clause-types c =
    subst (λ ts. AreEach (IsResolved c.args.bounded.now.program) c.loop-index.index (types_of ts)) (sym c.deref.ensures.value) c.loop-index.invariant
