use Rattle.typed_values.proofs.Tables.{no_levels, none_true}
use Rattle.typed_values.proofs.levels.Defaults.of_one.Goals as goal

pub returns : goal.returns
returns c = λ p. record {
  defaults = no_levels _ c.new.ensures.items;
  named = none_true c.unturned.result c.unturned.ensures;
  chains = c.none.ensures p c.unturned.result.turns.items;
}
