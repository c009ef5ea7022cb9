use Rattle.std.proofs.Common.{sym, ◌∙◌}
use Rattle.asn_base.specs.Abstract.{abstract}
use Rattle.asn_base.proofs.Parts.{member_count}
use Rattle.asn_base.proofs.node.RefValueValueNode.element_count.Goals as goal
use Rattle.asn_base.specs.proving.Lists.{length_mapped}

pub returns : goal.returns
returns c = sym (member_count _ ∙ length_mapped abstract c.args.elements.now.now)
