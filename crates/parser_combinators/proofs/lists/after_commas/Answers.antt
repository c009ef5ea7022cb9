use Rattle.std.proofs.Common.{map}
use Rattle.std.proofs.lemmas.Result.{err_from_is_err_and}
use Rattle.std.proofs.lemmas.List.{map_push}
use Rattle.grammar.specs.Lexeme.{lexemes}
use Rattle.grammar.specs.Loops.{commas_more, commas_end}
use Rattle.grammar.specs.Short.{shrinks_of}
use Rattle.parser_combinators.specs.Failing.{commas_give_up}
use Rattle.parser_combinators.proofs.lists.after_commas.Goals as goal

pub returns-in_err-next-clause-read : goal.returns-in_err-next-clause-read
returns-in_err-next-clause-read g c =
    let x = c.args.text.now in
    let p = err_from_is_err_and c.from_residual.result c.from_residual.ensures.1 in
    rw (p.1, p.2) (commas_give_up (g.P.Parser.reader c.args.part.now) (lexemes x c.loop-after.rest.now) (lexemes x c.in-Some.after.now) c.in_err-next.field-0.0 (map g.P.Parser.view c.loop-after.items.items) _ c.in-Some.ensures.0 c.in_err-next.ensures.read c.loop-after.invariant.read)

pub loop-after-preserved : goal.loop-after-preserved
loop-after-preserved g c =
    let x = c.args.text.now in
    let read = g.P.Parser.reader c.args.part.now in
    record {
      read = rw (c.in_ok-push_part.ensures, map_push g.P.Parser.view c.loop-after.items.items c.in_ok-next.next)
          (commas_more read (shrinks_of read (g.P.Parser.is_short c.args.part.now c.args.text.now c.requires.ready)) (lexemes x c.loop-after.rest.now) (lexemes x c.in-Some.after.now) (g.P.Parser.view c.in_ok-next.next, lexemes x c.in_ok-next.after.now) (map g.P.Parser.view c.loop-after.items.items) _ c.in-Some.ensures.0 c.in_ok-next.ensures.read c.loop-after.invariant.read);
      tokens = c.in_ok-next.ensures.rest;
    }

pub returns-clause-read : goal.returns-clause-read
returns-clause-read g c = rw c.shrink_to_fit.ensures.items (commas_end (g.P.Parser.reader c.args.part.now) (lexemes c.args.text.now c.loop-after.rest.now) (map g.P.Parser.view c.loop-after.items.items) _ c.in_default.ensures c.loop-after.invariant.read)
