use Rattle.std.proofs.Common.{subst, ◌∙◌}
use Rattle.std.specs.Prelude.{◌↔◌, IsTrue}
use Rattle.std.specs.List.{AllByRecursion}
use Rattle.asn_base.specs.Schemas.{HasTag}
use Rattle.asn_base.specs.Seen.{kind_of}
use Rattle.asn_base.proofs.FirstTags.{of_own, own_of}
use Rattle.asn_base.proofs.members.has_own_tags.Goals as goal
use Rattle.asn_base.specs.proving.Lists.{onward}

pub returns : goal.returns
returns c =
    let s = c.args.types.now in
    let k = kind_of c.args.core.now in
    onward (subst (λ q. IsTrue c.have_tags.result ↔ AllByRecursion (HasTag s) q) (c.as_slice.ensures.value ∙ c.in_ok-row.ensures) c.have_tags.ensures) (of_own s k) (own_of s k)
