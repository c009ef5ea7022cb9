use Rattle.std.proofs.Common.{arith}
use Rattle.value_notations.proofs.Rooted.{rooted_two, rooted_less}
use Rattle.value_notations.proofs.leaf.is_rooted.Goals as goal

pub returns-then-first-eq2-clause-yes : goal.returns-then-first-eq2-clause-yes
returns-then-first-eq2-clause-yes c e = rooted_two c.args.numbers.now c.in-len2-up.len_at_least c.if-first-eq2.true

pub returns-then-first-lt2-clause-yes : goal.returns-then-first-lt2-clause-yes
returns-then-first-lt2-clause-yes c e =
    rooted_less c.args.numbers.now c.in-len2-up.len_at_least c.if-first-lt2.true (grind arith)
