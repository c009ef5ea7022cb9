use Rattle.std.proofs.Common.{sym, ◌∙◌}
use Rattle.packed_writer.proofs.ByWords.{words_decide, words_same}
use Rattle.packed_writer.proofs.items.are_below.Goals as goal

pub returns-then-one-two : goal.returns-then-one-two
returns-then-one-two c =
    words_decide c.args.firsts.now c.args.seconds.now c.loop-place.place c.word_at-one.result c.word_at-two.result c.word_at-one.ensures c.word_at-two.ensures c.word_at-one.type_inv c.word_at-two.type_inv c.if-one-two.true
    ∙ sym c.loop-place.invariant

pub loop-place-preserved : goal.loop-place-preserved
loop-place-preserved c = c.loop-place.invariant ∙ words_same c.args.firsts.now c.args.seconds.now c.loop-place.place c.word_at-one.result c.word_at-two.result c.word_at-one.ensures c.word_at-two.ensures c.if-one-two.false
