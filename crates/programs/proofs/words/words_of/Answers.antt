-- One word more is put after the others.
use Rattle.std.proofs.Common.{◌∙◌, ap, map, string_bytes}
use Rattle.programs.proofs.FirstWord.{one_more}
use Rattle.programs.proofs.words.words_of.Goals as goal

-- src/words.rt:24:5
pub loop-word-preserved : goal.loop-word-preserved
loop-word-preserved c =
    let m = one_more string_bytes _ c.loop-word.words.items c.in-Some.word c.loop-word.invariant.0
    c.loop-word.invariant.1 in
    (m.0, ap (map string_bytes) c.in_ok-push-2.ensures.items ∙ m.1)
