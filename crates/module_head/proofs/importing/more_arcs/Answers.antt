use Rattle.std.proofs.Common.{arith, sym, ◌∙◌}
use Rattle.std.proofs.lemmas.Result.{err_from_is_err_and}
use Rattle.std.proofs.lemmas.List.{length-map}
use Rattle.grammar.specs.Lexeme.{lexeme_of, lexemes}
use Rattle.module_head.proofs.Imported.{arc_consumes, arcs_more, arcs_end, arcs_give_up}
use Rattle.module_head.proofs.importing.more_arcs.Goals as goal

pub returns-in_err-rest-clause-read : goal.returns-in_err-rest-clause-read
returns-in_err-rest-clause-read c =
    let p = err_from_is_err_and c.from_residual.result c.from_residual.ensures.1 in
    rw (p.1, p.2) (arcs_give_up (lexemes c.args.text.now c.loop-rest.rest.now) c.in_err-rest.field-0.0 _ (sym c.is_arc.ensures ∙ c.loop-rest-test.true) c.in_err-rest.ensures.read c.loop-rest.invariant.read)

pub loop-rest-smaller : goal.loop-rest-smaller
loop-rest-smaller c =
    let x = c.args.text.now in
    let shorter = arc_consumes.shorter (lexemes x c.loop-rest.rest.now) (tt, lexemes x c.in_ok-rest.rest.now) c.in_ok-rest.ensures.read in
    omega (arith, shorter, length-map c.in_ok-rest.rest.now (lexeme_of x), length-map c.loop-rest.rest.now (lexeme_of x))

pub loop-rest-preserved : goal.loop-rest-preserved
loop-rest-preserved c =
    let x = c.args.text.now in
    record {
      read = arcs_more (lexemes x c.loop-rest.rest.now) (tt, lexemes x c.in_ok-rest.rest.now) _ (sym c.is_arc.ensures ∙ c.loop-rest-test.true) c.in_ok-rest.ensures.read c.loop-rest.invariant.read;
      tokens = c.in_ok-rest.ensures.rest;
    }

pub returns-clause-read : goal.returns-clause-read
returns-clause-read c = arcs_end (lexemes c.args.text.now c.loop-rest.rest.now) _ (sym c.is_arc.ensures ∙ c.loop-rest-test.false) c.loop-rest.invariant.read
