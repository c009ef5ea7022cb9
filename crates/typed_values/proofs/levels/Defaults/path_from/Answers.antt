use Rattle.typed_values.proofs.Ways.{led_same}
use Rattle.typed_values.proofs.levels.Defaults.path_from.Goals as goal

pub returns-clause-known : goal.returns-clause-known
returns-clause-known c =
    let k = c.requires.known in
    record {
      defaults = k.defaults;
      named = k.named;
      chains = led_same c.args.self.now.chains c.walk.new.self c.walk.ensures.chains c.walk.ensures.stops k.chains;
    }
