use Rattle.std.proofs.Common.{◌∙◌, ◌++◌, ap, append_assoc, codes, string_bytes}
use Rattle.jobs.proofs.answers.with_comment.Goals as goal

-- the comment is added to the value
pub returns-clause-text : goal.returns-clause-text
returns-clause-text c =
    ap (λ v. v.items) c.into_bytes.ensures.value
    ∙ c.in_ok-push_str-2.ensures.bytes
    ∙ ap (λ q. q ++ c.as_str.result.now) c.in_ok-push_str.ensures.bytes
    ∙ append_assoc (string_bytes c.args.text) (codes " -- skipped ") c.as_str.result.now
    ∙ ap (λ q. string_bytes c.args.text ++ (codes " -- skipped " ++ q)) (c.as_str.ensures.value ∙ c.in_ok-digits.ensures.ok)
