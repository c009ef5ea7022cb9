use Rattle.std.proofs.Common.{ap, ◌∙◌}
use Rattle.trees.specs.Values.{tree_of}
use Rattle.range_ends.specs.proving.Keys.{key_in, texts}
use Rattle.range_ends.proofs.Posts.{labelled, unlabelled}
use Rattle.range_ends.proofs.posting.label.Goals as goal

pub returns-in-None : goal.returns-in-None
returns-in-None c =
    unlabelled c.args.linked.now.program (texts c.args.signs.now.names.items) c.args.value c.notation_at.result.0.now
    (tree_of c.notation_at.result.1.now) c.notation_at.ensures c.in-None.ensures

pub returns-in-Some : goal.returns-in-Some
returns-in-Some c =
    labelled c.args.linked.now.program (texts c.args.signs.now.names.items) c.args.value c.notation_at.result.0.now
    (tree_of c.notation_at.result.1.now) c.in-Some.name.now c.key_of.result c.notation_at.ensures c.in-Some.ensures
    (c.key_of.ensures ∙ ap (λ z. key_in (texts z) c.in-Some.name.now) c.deref.ensures.value)
