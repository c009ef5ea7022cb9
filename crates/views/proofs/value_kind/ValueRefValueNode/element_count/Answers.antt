use Rattle.std.proofs.Common.{◌∙◌}
use Rattle.views.proofs.Shown.{as_many}
use Rattle.views.proofs.value_kind.ValueRefValueNode.element_count.Goals as goal

pub returns : goal.returns
returns c = c.member_count.ensures ∙ as_many c.args.elements.now
