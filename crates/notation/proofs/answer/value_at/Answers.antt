use Rattle.std.proofs.Common.{◌-◌, length}
use Rattle.grammar.specs.Lexeme.{lexemes}
use Rattle.grammar.specs.Reading.{Unexpected, Beyond}
use Rattle.grammar.specs.Places.{small, bounded}
use Rattle.grammar.specs.Texts.{found, rest_fits, left_fits, first, passes, same_found, never_found}
use Rattle.trees.specs.Values.{tree_of}
use Rattle.notation.specs.Value.{values}
use Rattle.parser_combinators.specs.Given.{limit_of}
use Rattle.notation.specs.Reading.{value_at}
use Rattle.notation.proofs.Places.{value_reads}
use Rattle.notation.proofs.Answered.{are_tokens, slice_tokens}
use Rattle.notation.specs.Laws.{fault_at_first}
use Rattle.notation.proofs.answer.value_at.Goals as goal

pub value-requires : goal.value-requires
value-requires c = record { tokens = slice_tokens c.args.text.now c.args.place c.args.tokens.now (are_tokens c.lemma_spans_within.ensures c.args.text.now c.args.tokens.now c.requires.text) }

pub overflow_sub-result : goal.overflow_sub-result
overflow_sub-result c =
    let n = 128 - c.args.opened in
    rest_fits values (bounded n) (value_at small n) (value_reads n) c.args.text.now c.args.tokens.now c.args.place c.requires.place (tree_of c.in-Ok.value) c.in-Ok.rest.now c.in-Ok.ensures.read

pub overflow_sub-tokens : goal.overflow_sub-tokens
overflow_sub-tokens c =
    let n = 128 - c.args.opened in
    let e = c.in-Err-Unexpected in
    let h = rw e.field-0-is at e.ensures.read in
    left_fits values (bounded n) (value_at small n) (value_reads n) c.args.text.now c.args.tokens.now c.args.place c.requires.place (Unexpected e.left) h

pub overflow_sub-result-in-Err-Limit : goal.overflow_sub-result-in-Err-Limit
overflow_sub-result-in-Err-Limit c =
    let n = 128 - c.args.opened in
    let e = c.in-Err-Limit in
    let h = rw e.field-0-is at e.ensures.read in
    left_fits values (bounded n) (value_at small n) (value_reads n) c.args.text.now c.args.tokens.now c.args.place c.requires.place (Beyond (limit_of e.limit) e.left) h

pub returns-in-Ok-clause-found : goal.returns-in-Ok-clause-found
returns-in-Ok-clause-found c =
    let n = 128 - c.args.opened in
    found values (bounded n) (value_at small n) (value_reads n) c.args.text.now c.args.tokens.now c.args.place c.requires.place (tree_of c.in-Ok.value) c.in-Ok.rest.now c.in-Ok.ensures.read

pub returns-in-Ok-clause-only : goal.returns-in-Ok-clause-only
returns-in-Ok-clause-only c = λ v end i.
    let n = 128 - c.args.opened in
    same_found values (bounded n) (value_at small n) (value_reads n) c.args.text.now c.args.tokens.now c.args.place c.requires.place (tree_of c.in-Ok.value) v c.in-Ok.rest.now end c.in-Ok.ensures.read i

pub returns-in-Err-Unexpected-clause-only : goal.returns-in-Err-Unexpected-clause-only
returns-in-Err-Unexpected-clause-only c = λ v end i.
    let n = 128 - c.args.opened in
    let e = c.in-Err-Unexpected in
    let h = rw e.field-0-is at e.ensures.read in
    absurd (never_found values (bounded n) (value_at small n) (value_reads n) c.args.text.now c.args.tokens.now c.args.place c.requires.place (Unexpected e.left) v end h i)

pub returns-in-Err-Unexpected-clause-fault : goal.returns-in-Err-Unexpected-clause-fault
returns-in-Err-Unexpected-clause-fault c =
    let n = 128 - c.args.opened in
    let e = c.in-Err-Unexpected in
    let h = rw e.field-0-is at e.ensures.read in
    fault_at_first values (lexemes c.args.text.now c.args.tokens.now) c.args.place (bounded n) (length c.args.tokens.now - e.left) c.unexpected.result (c.unexpected.ensures c.args.text.now)
    (first values (bounded n) (value_at small n) (value_reads n) c.args.text.now c.args.tokens.now c.args.place c.requires.place e.left h)

pub returns-in-Err-Limit-clause-only : goal.returns-in-Err-Limit-clause-only
returns-in-Err-Limit-clause-only c = λ v end i.
    let n = 128 - c.args.opened in
    let e = c.in-Err-Limit in
    let h = rw e.field-0-is at e.ensures.read in
    absurd (never_found values (bounded n) (value_at small n) (value_reads n) c.args.text.now c.args.tokens.now c.args.place c.requires.place (Beyond (limit_of e.limit) e.left) v end h i)

pub returns-in-Err-Limit-clause-fault : goal.returns-in-Err-Limit-clause-fault
returns-in-Err-Limit-clause-fault c =
    let n = 128 - c.args.opened in
    let e = c.in-Err-Limit in
    let h = rw e.field-0-is at e.ensures.read in
    passes values (bounded n) (value_at small n) (value_reads n) c.args.text.now c.args.tokens.now c.args.place c.requires.place (limit_of e.limit) e.left h
