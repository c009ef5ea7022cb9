use Rattle.std.proofs.Common.{subst, ap}
use Rattle.trees.specs.Values.{tree_of}
use Rattle.resolve.specs.Program.{Program, WrittenProgram}
use Rattle.range_ends.specs.Ends.{IsValueAt}
use Rattle.typed_values.proofs.Going.{goes_lower, lead_lower}
use Rattle.typed_values.proofs.Tables.{true_as}
use Rattle.typed_values.proofs.Ways.{goes_with}
use Rattle.typed_values.proofs.levels.Defaults.keep.Goals as goal

pub returns-in_default-clause-known : goal.returns-in_default-clause-known
returns-in_default-clause-known c =
    let x = c.take_turn-latest.ensures in
    record {
      defaults = c.requires.known.defaults;
      named = true_as c.args.self.now.named c.take_turn-latest.new.self x.entries x.lower c.requires.known.named;
      chains = lead_lower x.lower c.requires.known.chains;
    }

pub returns-clause-known : goal.returns-clause-known
returns-clause-known c =
    let x = c.take_turn-latest.ensures in
    let e = c.in-Some.ensures in
    record {
      defaults = c.requires.known.defaults;
      named = true_as c.args.self.now.named c.take_turn-latest.new.self x.entries x.lower c.requires.known.named;
      chains = c.grow.ensures c.args.bounded.now.program c.take_turn-latest.new.self.turns.items x.counted.0 c.notation_at.result.0.now
          (lead_lower x.lower c.requires.known.chains)
          (goes_with c.take_turn-latest.result c.in-Some.earliest (goes_lower x.lower c.requires.goes) x.most e.less)
          (subst (λ (p : Program). IsValueAt p c.args.number c.notation_at.result.0.now (tree_of c.notation_at.result.1.now))
          (ap (λ (w : WrittenProgram). w.program) c.linked.ensures) c.notation_at.ensures.is_so)
          x.counted.1 x.counted.2
          (λ n. record { turn = c.turn.result; has = c.turn.ensures; given = e.given n; since = e.since n });
    }
