use Rattle.std.proofs.Common.{sym, subst, ap, ◌∙◌, length, map}
use Rattle.std.specs.Prelude.{◌↔◌, IsTrue}
use Rattle.asn_base.specs.Seen.{component_of}
use Rattle.asn_base.specs.Rules.{AreFew, root_of}
use Rattle.asn_base.proofs.members.are_few_components.Goals as goal
use Rattle.asn_base.specs.proving.Lists.{length_mapped}

pub returns : goal.returns
returns c =
    let m = sym (length_mapped component_of c.additions.result.now) ∙ ap length c.additions.ensures in
    subst (λ q. IsTrue c.are_few.result ↔ AreFew 0 256 (length (root_of (map component_of c.args.components.now))) q) m
    (subst (λ q. IsTrue c.are_few.result ↔ AreFew 0 256 q (length c.additions.result.now)) c.root_count.ensures.count c.are_few.ensures)
