use Rattle.std.proofs.Common.{arith, map}
use Rattle.std.proofs.lemmas.Result.{err_from_is_err_and}
use Rattle.std.proofs.lemmas.List.{map_push, length-map}
use Rattle.grammar.specs.Lexeme.{lexeme_of, lexemes}
use Rattle.notation.proofs.Ors.{ors_more, ors_end, ors_first, ors_give_up, first_gives_up}
use Rattle.grammar.specs.Short.{shrinks_of}
use Rattle.notation.proofs.unions.by_union_mark.Goals as goal

pub returns-in_err-first-clause-read : goal.returns-in_err-first-clause-read
returns-in_err-first-clause-read g c =
    let p = err_from_is_err_and c.from_residual.result c.from_residual.ensures.1 in
    rw (p.1, p.2) (first_gives_up (g.P.Parser.reader c.args.part.now) (lexemes c.args.text.now c.args.tokens.now) c.in_err-first.field-0.0 c.in_err-first.ensures.read)

pub loop-after-init : goal.loop-after-init
loop-after-init g c =
    let x = c.args.text.now in
    record {
      read = rw (c.in_ok-push.ensures.items, c.in_ok-parts.ensures.items) (ors_first (g.P.Parser.reader c.args.part.now) (lexemes x c.args.tokens.now) (g.P.Parser.view c.in_ok-first.first, lexemes x c.in_ok-first.rest.now) c.in_ok-first.ensures.read);
      tokens = c.in_ok-first.ensures.rest;
    }

pub returns-in_err-next-clause-read : goal.returns-in_err-next-clause-read
returns-in_err-next-clause-read g c =
    let x = c.args.text.now in
    let p = err_from_is_err_and c.from_residual-in_err-next.result c.from_residual-in_err-next.ensures.1 in
    rw (p.1, p.2) (ors_give_up (g.P.Parser.reader c.args.part.now) (lexemes x c.loop-after.rest.now) (lexemes x c.in-Some.after.now) c.in_err-next.field-0.0 (map g.P.Parser.view c.loop-after.parts.items) _ c.in-Some.ensures.0 c.in_err-next.ensures.read c.loop-after.invariant.read)

pub loop-after-smaller : goal.loop-after-smaller
loop-after-smaller g c =
    let x = c.args.text.now in
    let shorter = (shrinks_of (g.P.Parser.reader c.args.part.now) (g.P.Parser.is_short c.args.part.now c.args.text.now c.requires.ready)).shorter (lexemes x c.in-Some.after.now) (g.P.Parser.view c.in_ok-next.next, lexemes x c.in_ok-next.after.now) c.in_ok-next.ensures.read in
    omega (arith, c.in-Some.ensures.2, shorter, length-map c.in-Some.after.now (lexeme_of x), length-map c.in_ok-next.after.now (lexeme_of x))

pub loop-after-preserved : goal.loop-after-preserved
loop-after-preserved g c =
    let x = c.args.text.now in
    let e = c.in_ok-push_part.ensures in
    record {
      read = rw (e, map_push g.P.Parser.view c.loop-after.parts.items c.in_ok-next.next) (ors_more (g.P.Parser.reader c.args.part.now) (shrinks_of (g.P.Parser.reader c.args.part.now) (g.P.Parser.is_short c.args.part.now c.args.text.now c.requires.ready)) (lexemes x c.loop-after.rest.now) (lexemes x c.in-Some.after.now) (g.P.Parser.view c.in_ok-next.next, lexemes x c.in_ok-next.after.now) (map g.P.Parser.view c.loop-after.parts.items) _ c.in-Some.ensures.0 c.in_ok-next.ensures.read c.loop-after.invariant.read);
      tokens = c.in_ok-next.ensures.rest;
    }

pub returns-clause-read : goal.returns-clause-read
returns-clause-read g c = rw c.shrink_to_fit.ensures.items (ors_end (g.P.Parser.reader c.args.part.now) (lexemes c.args.text.now c.loop-after.rest.now) (map g.P.Parser.view c.loop-after.parts.items) _ c.in_default.ensures c.loop-after.invariant.read)
