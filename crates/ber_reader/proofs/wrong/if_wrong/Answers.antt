use Rattle.ber_reader.specs.Judged.{placed}
use Rattle.views.specs.Tree.{value_of}
use Rattle.ber_reader.proofs.Judging.{one_right, one_wrong}
use Rattle.ber_reader.proofs.wrong.if_wrong.Goals as goal

pub returns-then-is_shown_value : goal.returns-then-is_shown_value
returns-then-is_shown_value c = one_right c.is_shown_value.result (placed c.args.part c.args.ty.index (value_of c.args.value)) c.if-is_shown_value.true c.is_shown_value.ensures c.requires

pub returns : goal.returns
returns c = one_wrong c.is_shown_value.result (placed c.args.part c.args.ty.index (value_of c.args.value)) c.if-is_shown_value.false c.is_shown_value.ensures
