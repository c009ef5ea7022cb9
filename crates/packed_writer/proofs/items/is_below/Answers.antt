use Rattle.std.proofs.Common.{◌∙◌}
use Rattle.packed_writer.proofs.ByWords.{by_words}
use Rattle.packed_writer.proofs.items.is_below.Goals as goal

pub returns : goal.returns
returns c = c.are_below.ensures ∙ by_words c.args.first.now c.args.second.now c.words.result.now c.words-2.result.now c.words.ensures c.words-2.ensures
