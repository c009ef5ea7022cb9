use Rattle.std.proofs.Common.{subst, sym}
use Rattle.asn_base.specs.Schemas.{IsSchema}
use Rattle.settled.specs.Settled.{IsProgramSchema}
use Rattle.extensions.proofs.accepted.settle.Goals as goal

pub returns-in-Ok : goal.returns-in-Ok
returns-in-Ok c = record {
  asked = c.in-Ok.ensures.asked;
  settled = subst (IsProgramSchema c.args.bounded.now.program) (sym c.accepted.ensures.same) c.in-Ok.ensures.settled;
  accepted = c.accepted.ensures.accepted;
}
