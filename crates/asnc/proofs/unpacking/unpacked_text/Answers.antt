use Rattle.std.proofs.Common.{subst}
use Rattle.asnc.specs.Unpacking.{IsNotUnpacked, IsNotUnpackedBy}
use Rattle.asnc.proofs.unpacking.unpacked_text.Goals as goal

pub returns-in-Err-clause-refused : goal.returns-in-Err-clause-refused
returns-in-Err-clause-refused c =
    subst
    (λ s. IsNotUnpackedBy s c.args.id.index c.args.octets.now c.in-Err.fault
    → IsNotUnpacked s c.args.id.index c.args.octets.now c.refusal.result)
    c.requires.same (c.refusal.ensures.valid c.args.octets.now) c.in-Err.ensures.refused
