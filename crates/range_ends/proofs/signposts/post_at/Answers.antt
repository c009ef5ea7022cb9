use Rattle.std.proofs.Common.{sym, ◌∙◌}
use Rattle.range_ends.proofs.signposts.post_at.Goals as goal

pub returns-then-post-value-clause-there : goal.returns-then-post-value-clause-there
returns-then-post-value-clause-there c = (c.in-Some.place.now, sym c.post_in.ensures ∙ c.in-Some-post_in.is)
