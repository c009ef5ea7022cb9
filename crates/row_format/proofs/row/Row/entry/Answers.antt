use Rattle.std.proofs.Common.{◌++◌, ap, ◌∙◌}
use Rattle.std.proofs.lemmas.Result.{IfOk-weaker}
use Rattle.row_format.specs.Rows.{indented}
use Rattle.row_format.proofs.row.Row.entry.Goals as goal

pub returns : goal.returns
returns c =
    let answer = c.args.answer.now in
    let whole = IfOk-weaker c.with_lines.result _ _ (λ t e. e ∙ ap (λ l. l ++ indented answer) c.in_ok-title.ensures) c.with_lines.ensures in
    record {
      whole = whole;
      entry = IfOk-weaker c.with_lines.result _ _ (λ t e. record { answer = answer; whole = e }) whole;
    }
