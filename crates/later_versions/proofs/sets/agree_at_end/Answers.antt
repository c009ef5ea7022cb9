use mir.Syntax.{w128}
use mir.Val.{SFits}
use Rattle.std.proofs.Common.{rules, subst, ℤ}
use Rattle.std.specs.Prelude.{◌↔◌, IsTrue}
use Rattle.std.proofs.lemmas.Int.{to_z-of_z}
use Rattle.asn_base.specs.Typed.{IsInSome}
use Rattle.later_versions.specs.proving.Edges.{IsAfter}
use Rattle.later_versions.proofs.Agree.{end_only}
use Rattle.later_versions.proofs.sets.agree_at_end.Goals as goal

pub returns-in-Some : goal.returns-in-Some
returns-in-Some c =
    let f : SFits w128 c.in-Some.number = search rules in
    end_only (λ z. IsInSome z c.args.one.now ↔ IsInSome z c.args.other.now) c.args.greatest c.in-Some.number c.in-Some.is
    (subst (λ k. IsTrue c.agree_after.result ↔ ((z : ℤ) → IsAfter k z → (IsInSome z c.args.one.now ↔ IsInSome z c.args.other.now))) (to_z-of_z w128 c.in-Some.number f) c.agree_after.ensures)
