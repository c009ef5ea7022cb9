use Rattle.std.proofs.Common.{◌∷◌, [], sym, ap, ◌∙◌}
use Rattle.std.proofs.lemmas.Result.{IfOk-weaker}
use Rattle.asn_base.specs.declared.tag.Class.TheVariants.{Context}
use Rattle.tagging.specs.Tags.{path_of}
use Rattle.tagging.proofs.Fronts.{written_answer, numbered_answer, pushed_first}
use Rattle.tagging.proofs.automatic.path_of.Goals as goal

pub returns-in-None-clause-ok : goal.returns-in-None-clause-ok
returns-in-None-clause-ok c = IfOk-weaker c.with_written.result _ _ (λ v. written_answer c.args.columns.now.program.types c.args.ty (path_of c.new-path.result.items) (path_of v.items) (sym c.in-None.ensures) (ap path_of c.new-path.ensures.items)) c.with_written.ensures.ok

pub returns-in-Some-clause-ok : goal.returns-in-Some-clause-ok
returns-in-Some-clause-ok c = IfOk-weaker c.with_written-in-Some.result _ _ (λ v. numbered_answer c.args.columns.now.program.types c.args.ty c.in-Some.number (path_of c.push_reserved.new.self.items) (path_of v.items) c.form_at-form.result (sym c.in-Some.ensures)
    c.form_at-form.ensures
    (pushed_first c.new-path.result.items c.push_reserved.new.self.items _ c.push_reserved.ensures.items c.new-path.ensures.items ∙ ap (λ z. (z, c.form_at-form.result) ∷ []) (ap (λ z. (z, c.of-tag.result.number)) c.of-tag.ensures.class ∙ ap (λ z. (Context, z)) c.of-tag.ensures.number))) c.with_written-in-Some.ensures.ok
