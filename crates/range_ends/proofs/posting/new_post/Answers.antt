use Rattle.std.proofs.Common.{sym, subst}
use Rattle.std.specs.Prelude.{IfOk}
use Rattle.range_ends.specs.proving.Posting.{IsMade}
use Rattle.range_ends.proofs.posting.new_post.Goals as goal

pub returns-in-None-clause-made : goal.returns-in-None-clause-made
returns-in-None-clause-made c =
    subst (λ o. IfOk c.last_post.result (IsMade c.args.forks.now c.last_post.new.forks c.args.place c.args.value c.args.label o))
    (sym c.in-None.is) c.last_post.ensures.last

pub returns-in-Some-clause-made : goal.returns-in-Some-clause-made
returns-in-Some-clause-made c =
    subst (λ o. IfOk c.next_post.result (IsMade c.args.forks.now c.next_post.new.forks c.args.place c.args.value c.args.label o))
    (sym c.in-Some.is) c.next_post.ensures.next
