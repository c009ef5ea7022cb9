use Rattle.typed_values.proofs.Tables.{no_levels, none_true}
use Rattle.typed_values.proofs.levels.Defaults.of.Goals as goal

pub returns : goal.returns
returns c = record {
  defaults = no_levels _ c.new.ensures.items;
  named = none_true c.in_ok-of.field-0 c.in_ok-of.ensures;
  chains = c.in_ok-of-2.ensures c.args.bounded.now.program c.in_ok-of.field-0.turns.items;
}
