use Rattle.std.proofs.Common.{ap, ◌∙◌}
use Rattle.tagging.specs.proving.TagStep.{form_before}
use Rattle.tagging.specs.Tags.{outermost}
use Rattle.tagging.proofs.Paths.{form_same, none_is, written_unique}
use Rattle.tagging.proofs.path.form_at.Goals as goal

pub returns : goal.returns
returns c = λ p w.
    let o = c.written_outermost.ensures in
    c.form_with.ensures
    ∙ ap (form_before c.args.keyword c.args.default) (none_is c.written_outermost.result c.is_none-untagged.result c.is_none-untagged.ensures)
    ∙ form_same c.args.keyword c.args.default p c.written_outermost.result (o.is ∙ ap outermost (written_unique c.args.columns.now.program.types c.args.inner o.path p o.written w))
