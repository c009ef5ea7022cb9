use Rattle.std.proofs.Common.{sym, arith}
use Rattle.typed_values.proofs.Closing.{not_more}
use Rattle.typed_values.proofs.Endings.{later_passed, read_on}
use Rattle.typed_values.proofs.reader.NotationReader.end.Goals as goal

pub overflow_sub-nodes : goal.overflow_sub-nodes
overflow_sub-nodes c = not_more c.requires.ended

pub close_all-requires-clause-ended : goal.close_all-requires-clause-ended
close_all-requires-clause-ended c =
    let m = not_more c.requires.ended in
    record {
      most = c.args.levels;
      before = c.args.before.left;
      after = c.args.self.now.left;
      enough = c.used-used.ensures.enough;
      counted = omega (arith, m);
      ended = c.requires.ended;
    }

pub returns-clause-read : goal.returns-clause-read
returns-clause-read c = λ os M n v l h.
    let r = c.close_all.ensures.closed c.args.levels c.args.before.left c.args.self.now.left os M n v l h in (
      r.0,
      read_on (later_passed c.pass.ensures.turns c.reach.ensures.named c.reach.ensures.lowest c.pass.ensures.latest)
          (sym c.close_all.ensures.left) r.1,
    )
