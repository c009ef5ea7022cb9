use Rattle.std.proofs.Common.{subst}
use Rattle.asnc.specs.Versions.{IsNotCompared}
use Rattle.jobs.proofs.Refused.{no_newer_type}
use Rattle.jobs.proofs.versions.compared.Goals as goal

-- an older type has the name, so the newer ones lack it
pub returns-in-Some-clause-lacks : goal.returns-in-Some-clause-lacks
returns-in-Some-clause-lacks c =
    no_newer_type c.args.older.now.program c.args.newer.now.program c.args.ty.now c.in-Err-NoType.name
    c.in-Some.field-0.index c.in-Some.ensures.named
    (subst (λ e. IsNotCompared c.args.older.now.program c.args.newer.now.program c.args.ty.now e)
    c.in-Err-NoType.field-0-is c.in-Err-NoType.ensures.refused)
