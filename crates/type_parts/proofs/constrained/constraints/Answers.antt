use Rattle.std.proofs.Common.{arith, map, sym, ◌∙◌}
use Rattle.std.proofs.lemmas.Result.{err_from_is_err_and}
use Rattle.std.proofs.lemmas.List.{map_push, length-map}
use Rattle.grammar.specs.Lexeme.{lexeme_of, lexemes}
use Rattle.grammar.specs.Manies.{many_more, many_end}
use Rattle.grammar.specs.Places.{small}
use Rattle.trees.specs.Constraints.{constraint_of}
use Rattle.notation.specs.ConstraintReading.{constraint_at}
use Rattle.grammar.specs.Reading.{is_open}
use Rattle.parser_combinators.specs.Failing.{many_gives_up}
use Rattle.type_parts.proofs.Constraints.{constraint_consumes}
use Rattle.type_parts.proofs.constrained.constraints.Goals as goal

pub returns-in_err-next-clause-read : goal.returns-in_err-next-clause-read
returns-in_err-next-clause-read c =
    let x = c.args.text.now in
    let p = err_from_is_err_and c.from_residual.result c.from_residual.ensures.1 in
    rw (p.1, p.2) (many_gives_up is_open (constraint_at small) (lexemes x c.loop-alloc.rest.now) c.in_err-next.field-0.0 (map constraint_of c.loop-alloc.constraints.items) _ (sym c.begins.ensures ∙ c.loop-alloc-test.true) c.in_err-next.ensures.read c.loop-alloc.invariant.read)

pub loop-alloc-smaller : goal.loop-alloc-smaller
loop-alloc-smaller c =
    let x = c.args.text.now in
    let shorter = (constraint_consumes c.lemma_parts_are_read.ensures).shorter (lexemes x c.loop-alloc.rest.now) (constraint_of c.in_ok-next.next, lexemes x c.in_ok-next.after.now) c.in_ok-next.ensures.read in
    omega (arith, shorter, length-map c.in_ok-next.after.now (lexeme_of x), length-map c.loop-alloc.rest.now (lexeme_of x))

pub loop-alloc-preserved : goal.loop-alloc-preserved
loop-alloc-preserved c =
    let x = c.args.text.now in
    record {
      read = rw (c.in_ok-push.ensures.items, map_push constraint_of c.loop-alloc.constraints.items c.in_ok-next.next) (many_more is_open (constraint_at small) (constraint_consumes c.lemma_parts_are_read.ensures) (lexemes x c.loop-alloc.rest.now) (constraint_of c.in_ok-next.next, lexemes x c.in_ok-next.after.now) (map constraint_of c.loop-alloc.constraints.items) _ (sym c.begins.ensures ∙ c.loop-alloc-test.true) c.in_ok-next.ensures.read c.loop-alloc.invariant.read);
      tokens = c.in_ok-next.ensures.rest;
    }

pub returns-clause-read : goal.returns-clause-read
returns-clause-read c = rw c.shrink_to_fit.ensures.items (many_end is_open (constraint_at small) (lexemes c.args.text.now c.loop-alloc.rest.now) (map constraint_of c.loop-alloc.constraints.items) _ (sym c.begins.ensures ∙ c.loop-alloc-test.false) c.loop-alloc.invariant.read)
