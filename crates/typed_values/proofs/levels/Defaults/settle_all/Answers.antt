use Rattle.std.proofs.Common.{◌∙◌, refl}
use Rattle.typed_values.proofs.Found.{later_on, later_same}
use Rattle.typed_values.proofs.levels.Defaults.settle_all.Goals as goal

pub loop-step-init : goal.loop-step-init
loop-step-init c = record { known = c.requires.known; later = later_same c.args.self.now; lowest = refl }

pub loop-step-preserved : goal.loop-step-preserved
loop-step-preserved c = record {
  known = c.settle.ensures.known;
  later = later_on c.loop-step.invariant.later c.settle.ensures.later;
  lowest = c.settle.ensures.lowest ∙ c.loop-step.invariant.lowest;
}
