use Rattle.views.proofs.Filled.{absent_more}
use Rattle.views.proofs.view.absent.Goals as goal

pub loop-i-preserved : goal.loop-i-preserved
loop-i-preserved c = absent_more c.loop-i.i c.loop-i.values.items c.add.new.list.items c.loop-i.invariant c.in_ok-add.ensures
