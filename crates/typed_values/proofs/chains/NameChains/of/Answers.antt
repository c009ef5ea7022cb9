use Rattle.typed_values.proofs.Ways.{none_led}
use Rattle.typed_values.proofs.chains.NameChains.of.Goals as goal

pub returns : goal.returns
returns c = λ p turns. none_led _ c.new.ensures.items c.in_ok-of.ensures
