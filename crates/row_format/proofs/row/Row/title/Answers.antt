use Rattle.std.proofs.Common.{ap, ◌∙◌, string_bytes, codes}
use Rattle.std.specs.List.{join_by}
use Rattle.std.proofs.lemmas.Result.{IfOk-weaker}
use Rattle.row_format.proofs.Joined.{join_by_map}
use Rattle.row_format.proofs.row.Row.title.Goals as goal

pub returns : goal.returns
returns c =
    let words = c.args.self.now.words.items in
    IfOk-weaker c.join.result _ _ (λ t e. e ∙ ap (join_by string_bytes (codes " ")) c.as_slice.ensures.value ∙ join_by_map string_bytes (codes " ") words) c.join.ensures.ok
