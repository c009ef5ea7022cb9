use Rattle.std.proofs.Common.{subst}
use Rattle.std.specs.Prelude.{IfErr, IfOk, string_bytes}
use Rattle.asnc.specs.Kits.{Opened}
use Rattle.asnc.specs.Unpacking.{IsNotUnpackedAs, IsUnpackedAs}
use Rattle.asnc.proofs.kit.Kit.unper.Goals as goal

pub returns-clause-read : goal.returns-clause-read
returns-clause-read c =
    subst (λ (k : Opened). IfOk c.unpacked_as.result (λ r. IsUnpackedAs k.program k.types c.args.ty.now c.args.octets.now (string_bytes r.0) r.1))
    c.self.view_is
    (subst (λ s. IfOk c.unpacked_as.result (λ r. IsUnpackedAs c.self.inside.modules s c.args.ty.now c.args.octets.now (string_bytes r.0) r.1))
    c.self.invariant.2 c.unpacked_as.ensures.read)

pub returns-clause-refused : goal.returns-clause-refused
returns-clause-refused c =
    subst (λ (k : Opened). IfErr c.unpacked_as.result (IsNotUnpackedAs k.program k.types c.args.ty.now c.args.octets.now))
    c.self.view_is
    (subst (λ s. IfErr c.unpacked_as.result (IsNotUnpackedAs c.self.inside.modules s c.args.ty.now c.args.octets.now))
    c.self.invariant.2 c.unpacked_as.ensures.refused)
