use Rattle.std.proofs.Common.{refl}
use Rattle.std.proofs.lemmas.Result.{err_from_is_err_and}
use Rattle.grammar.specs.Lexeme.{lexemes}
use Rattle.type_parts.proofs.Tagging.{tag_is, tag_fails}
use Rattle.type_parts.proofs.tags.tag.Goals as goal

pub returns-in_err-number-clause-read : goal.returns-in_err-number-clause-read
returns-in_err-number-clause-read c =
    let p = err_from_is_err_and c.from_residual.result c.from_residual.ensures.1 in
    rw (p.1, p.2) (tag_fails (lexemes c.args.text.now c.args.tokens.now) _ c.in_err-number.field-0.0 c.class-class.ensures.remaining c.in_err-number.ensures.read)

pub returns-clause-read : goal.returns-clause-read
returns-clause-read c = tag_is (lexemes c.args.text.now c.args.tokens.now) _ (lexemes c.args.text.now c.in_ok-number.rest.now) c.in_ok-number.number _ c.class-class.ensures.remaining c.in_ok-number.ensures.read c.class-class.ensures.class refl
