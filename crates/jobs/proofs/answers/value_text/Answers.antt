use Rattle.std.proofs.Common.{◌≡◌, ◌++◌, sym, subst, List, ℕ, arith}
use Rattle.std.specs.Prelude.{IfOk, string_bytes}
use Rattle.jobs.proofs.Answering.{comment_some}
use Rattle.jobs.proofs.answers.value_text.Goals as goal

-- additions were skipped
pub returns-clause-text : goal.returns-clause-text
returns-clause-text c =
    subst (λ (q : List ℕ). IfOk c.with_comment.result (λ v. v.items ≡ string_bytes c.args.text ++ q))
    (sym (comment_some c.args.skipped (λ e. omega (arith, e, c.if-skipped-eq0.false)))) c.with_comment.ensures.text
