use Rattle.std.proofs.Common.{arith, map, sym}
use Rattle.std.proofs.lemmas.Result.{err_from_is_err_and}
use Rattle.std.proofs.lemmas.List.{map_push, length-map}
use Rattle.grammar.specs.Lexeme.{lexeme_of, lexemes}
use Rattle.grammar.specs.Short.{shrinks_of}
use Rattle.parser_combinators.proofs.Extensions.{more_marked, more_read, more_fails, more_ends}
use Rattle.parser_combinators.proofs.lists.more.Goals as goal

pub returns-in-Some-marker-clause-read : goal.returns-in-Some-marker-clause-read
returns-in-Some-marker-clause-read g c =
    let x = c.args.text.now in
    let read = g.P.Parser.reader c.args.list.now.part in
    rw (sym c.loop-after.invariant.read, more_marked read (g.Q.Parser.reader c.args.list.now.addition) (g.P.Parser.is_short c.args.list.now.part c.args.text.now c.requires.ready) (lexemes x c.loop-after.rest.now) (lexemes x c.in-Some.after.now) (lexemes x c.in-Some-marker.after_marker.now) (map g.P.Parser.view c.loop-after.root.items) c.in-Some.ensures.0 c.in-Some-marker.ensures.0) c.additions.ensures.read

pub returns-in_err-next-clause-read : goal.returns-in_err-next-clause-read
returns-in_err-next-clause-read g c =
    let x = c.args.text.now in
    let read = g.P.Parser.reader c.args.list.now.part in
    let p = err_from_is_err_and c.from_residual.result c.from_residual.ensures.1 in
    rw (p.1, p.2) (more_fails read (g.Q.Parser.reader c.args.list.now.addition) (g.P.Parser.is_short c.args.list.now.part c.args.text.now c.requires.ready) (lexemes x c.loop-after.rest.now) (lexemes x c.in-Some.after.now) c.in_err-next.field-0.0 (map g.P.Parser.view c.loop-after.root.items) _ c.in-Some.ensures.0 c.in_default-marker.ensures c.in_err-next.ensures.read c.loop-after.invariant.read)

pub loop-after-smaller : goal.loop-after-smaller
loop-after-smaller g c =
    let x = c.args.text.now in
    let read = g.P.Parser.reader c.args.list.now.part in
    let shorter = (shrinks_of read (g.P.Parser.is_short c.args.list.now.part c.args.text.now c.requires.ready)).shorter (lexemes x c.in-Some.after.now) (g.P.Parser.view c.in_ok-next.next, lexemes x c.in_ok-next.after.now) c.in_ok-next.ensures.read in
    omega (arith, c.in-Some.ensures.2, shorter, length-map c.in-Some.after.now (lexeme_of x), length-map c.in_ok-next.after.now (lexeme_of x))

pub loop-after-preserved : goal.loop-after-preserved
loop-after-preserved g c =
    let x = c.args.text.now in
    let read = g.P.Parser.reader c.args.list.now.part in
    record {
      read = rw (c.in_ok-push.ensures.items, map_push g.P.Parser.view c.loop-after.root.items c.in_ok-next.next)
          (more_read read (g.Q.Parser.reader c.args.list.now.addition) (g.P.Parser.is_short c.args.list.now.part c.args.text.now c.requires.ready) (lexemes x c.loop-after.rest.now) (lexemes x c.in-Some.after.now) (g.P.Parser.view c.in_ok-next.next, lexemes x c.in_ok-next.after.now) (map g.P.Parser.view c.loop-after.root.items) _ c.in-Some.ensures.0 c.in_default-marker.ensures c.in_ok-next.ensures.read c.loop-after.invariant.read);
      tokens = c.in_ok-next.ensures.rest;
    }

pub returns-clause-read : goal.returns-clause-read
returns-clause-read g c = more_ends (g.P.Parser.reader c.args.list.now.part) (g.Q.Parser.reader c.args.list.now.addition) (lexemes c.args.text.now c.loop-after.rest.now) (map g.P.Parser.view c.loop-after.root.items) _ c.in_default.ensures c.loop-after.invariant.read
