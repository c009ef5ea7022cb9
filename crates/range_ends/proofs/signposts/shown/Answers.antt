use Rattle.std.proofs.Common.{sym, ◌∙◌}
use Rattle.range_ends.proofs.Posts.{shown_if}
use Rattle.range_ends.proofs.signposts.shown.Goals as goal

pub returns-in-Some : goal.returns-in-Some
returns-in-Some c = λ p os a o.
    shown_if p os c.args.signs.now c.args.post.now c.args.key c.in-Some.place c.post_in.result c.post_in.ensures
    (sym c.leaf.ensures ∙ c.in-Some.is) a o
