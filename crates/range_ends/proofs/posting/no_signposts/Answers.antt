use Rattle.range_ends.proofs.Posts.{nothing_at}
use Rattle.range_ends.proofs.posting.no_signposts.Goals as goal

pub returns : goal.returns
returns c = λ p os post key o. absurd (nothing_at c.new-posts.result.items o.0 post c.new-posts.ensures.items o.1)
