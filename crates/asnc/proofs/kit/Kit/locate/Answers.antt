use Rattle.std.proofs.Common.{subst}
use Rattle.std.specs.Prelude.{IfOk, string_bytes}
use Rattle.asnc.specs.ErrorSites.{IsErrorSite}
use Rattle.asnc.specs.Kits.{Opened}
use Rattle.asnc.proofs.kit.Kit.locate.Goals as goal

pub returns-clause-place : goal.returns-clause-place
returns-clause-place c = λ n.
    subst (λ (k : Opened). IfOk c.locate_fault.result (λ u.
    IsErrorSite k.types c.args.id.index c.args.octets.now u.offset (string_bytes u.path)))
    c.self.view_is (c.locate_fault.ensures.place n)
