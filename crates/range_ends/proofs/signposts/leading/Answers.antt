use Rattle.std.proofs.Common.{map, ap, ◌∙◌}
use Rattle.trees.specs.Types.{numbered_name}
use Rattle.type_table.specs.Seen.{kind_of}
use Rattle.resolve.specs.Listed.{numbers_listed}
use Rattle.range_ends.proofs.Posts.{arrives_if}
use Rattle.range_ends.proofs.signposts.leading.Goals as goal

pub returns-in-Some : goal.returns-in-Some
returns-in-Some c = λ p os r a.
    arrives_if p (kind_of c.args.shape.now) os (map numbered_name c.numbers_of-numbers.result.now) c.in-Some.post c.args.start
    c.nearest_post.result r
    (c.numbers_of-numbers.ensures ∙ ap (λ z. numbers_listed (kind_of z)) c.shape-written.ensures)
    c.in-Some.ensures.value (c.nearest_post.ensures p os a c.in-Some.ensures.there)
