use Rattle.std.proofs.Common.{◌≡◌, ◌<◌, subst, List, ℕ, length, Err}
use Rattle.std.specs.Prelude.{IfErr, IfOk}
use Rattle.asn_base.specs.Abstract.{abstract}
use Rattle.asnc.specs.Kits.{Opened}
use Rattle.asnc.specs.Unpacking.{IsNotUnpackedBy, IsUnpackedBy}
use Rattle.asnc.proofs.kit.Kit.unpack.Goals as goal

pub returns-clause-read : goal.returns-clause-read
returns-clause-read c =
    subst (λ (k : Opened). IfOk c.unpacked.result (λ r. IsUnpackedBy k.types c.args.id.index c.args.octets.now (abstract r.0) r.1))
    c.self.view_is
    (subst (λ s. IfOk c.unpacked.result (λ r. IsUnpackedBy s c.args.id.index c.args.octets.now (abstract r.0) r.1))
    c.self.invariant.2 c.unpacked.ensures.read)

pub returns-clause-refused : goal.returns-clause-refused
returns-clause-refused c =
    subst (λ (k : Opened). IfErr c.unpacked.result (IsNotUnpackedBy k.types c.args.id.index c.args.octets.now))
    c.self.view_is
    (subst (λ s. IfErr c.unpacked.result (IsNotUnpackedBy s c.args.id.index c.args.octets.now))
    c.self.invariant.2 c.unpacked.ensures.refused)
