use Rattle.views.proofs.Shown.{kind_shown}
use Rattle.views.proofs.value_kind.ValueRefValueNode.kind.Goals as goal

pub returns : goal.returns
returns c = kind_shown c.args.self.now c.value_kind.result c.value_kind.ensures
