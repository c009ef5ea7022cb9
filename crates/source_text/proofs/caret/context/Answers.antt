use Rattle.std.proofs.Common.{◌++◌, ◌∙◌, ap, arith, string_bytes}
use Rattle.std.proofs.lemmas.Str.{encode_ascii}
use Rattle.source_text.specs.Context.{text_or_none}
use Rattle.source_text.specs.Shown.{on_one_line}
use Rattle.source_text.proofs.Ends.{two_lines}
use Rattle.source_text.proofs.caret.context.Goals as goal

pub returns : goal.returns
returns c =
    two_lines (string_bytes c.in_ok-front.front) c.as_str.result.now (string_bytes c.in_ok-rest.rest)
    (string_bytes c.in_ok-lines.lines) (string_bytes c.push_spaces.new.line) (string_bytes c.push.new.self) _ _
    (c.in_ok-front.ensures.text ∙ ap on_one_line (c.text_of.ensures ∙ ap text_or_none c.before-2.ensures))
    (c.in_ok-rest.ensures.text ∙ ap on_one_line (c.text_of-2.ensures ∙ ap text_or_none c.rest_of_line.ensures))
    c.as_str.ensures.value c.in_ok-lines.ensures.ok c.in_ok-push_spaces.ensures
    (c.in_ok-push.ensures.bytes ∙ ap (λ t. string_bytes c.push_spaces.new.line ++ t) (encode_ascii 94 (omega arith)))
