use Rattle.std.proofs.Common.{◌<◌, length, subst, ◌∙◌}
use Rattle.std.specs.Prelude.{◌↔◌, IsTrue}
use Rattle.std.specs.List.{AllByRecursion}
use Rattle.asn_base.proofs.members.has_members.Goals as goal

pub returns : goal.returns
returns c =
    subst (λ q. IsTrue c.are_there.result ↔ AllByRecursion (λ u. u < length c.args.types.now) q) (c.as_slice.ensures.value ∙ c.in_ok-row.ensures) c.are_there.ensures
