use Rattle.std.proofs.Common.{arith, Some, ◌≡◌, below_more, subst, sym, ap}
use Rattle.std.specs.Prelude.{slice_get}
use Rattle.asn_base.specs.Seen.{resolved_of}
use Rattle.asn_base.proofs.DepthLaws.{type_at}
use Rattle.asn_base.proofs.Checks.{keeps_of, all_keep}
use Rattle.asn_base.proofs.check.first_disobeying.Goals as goal
use Rattle.asn_base.specs.proving.Lists.{length_mapped}

pub loop-ty-preserved : goal.loop-ty-preserved
loop-ty-preserved c =
    let there = subst (λ q. slice_get q c.loop-ty.ty ≡ Some (resolved_of c.index-list-ty.result)) c.types-list.ensures (type_at c.types-list.result.now c.loop-ty.ty c.index-list-ty.result c.loop-ty-test.true c.index-list-ty.is) in
    below_more _ _ c.loop-ty.invariant (keeps_of c.args.types.now c.args.rule c.loop-ty.ty (resolved_of c.index-list-ty.result) there (c.in_ok-obeys.ensures.0 c.if-not-branch.false))

pub returns : goal.returns
returns c =
    let many = ap Rattle.std.proofs.Common.length c.types-list.ensures in
    let mapped = length_mapped resolved_of c.types-list.result.now in
    all_keep c.args.types.now c.args.rule c.loop-ty.ty (omega (arith, many, mapped, c.loop-ty-test.false)) c.loop-ty.invariant
