use Rattle.std.proofs.Common.{ap, drop, take_while, ◌∙◌}
use Rattle.source_text.specs.Strings.{is_in_word}
use Rattle.source_text.proofs.Words.{word_utf8}
use Rattle.source_text.proofs.places.word_at.Goals as goal

pub returns-in-Err : goal.returns-in-Err
returns-in-Err c = absurd (c.in-Err.ensures.cases.0 (word_utf8 (drop c.args.octet c.args.text.now)
    c.word_front-word.result.now
    (c.word_front-word.ensures ∙ ap (λ x. take_while is_in_word x) c.rest_from.ensures)))
