use Rattle.std.proofs.Common.{◌≡◌, ◌-◌, ◌≤◌, List, length, Ok, sym, ap, subst, ◌∙◌, arith}
use Rattle.std.proofs.lemmas.List.{length-map}
use Rattle.text.specs.declared.token.Token.{Token}
use Rattle.grammar.specs.Lexeme.{lexeme_of, lexemes}
use Rattle.grammar.specs.Places.{bounded}
use Rattle.grammar.specs.Reading.{Unexpected, Beyond}
use Rattle.parser_combinators.specs.Given.{limit_of}
use Rattle.notation.specs.Laws.{fault_at_first}
use Rattle.notation.specs.Value.{values}
use Rattle.trees.specs.Values.{tree_of}
use Rattle.written_values.proofs.Whole.{rest_short, left_short, whole_read, rest_ends, left_ends, limit_passed, is_nil, not_nil}
use Rattle.written_values.proofs.written.whole.Goals as goal

pub value-requires : goal.value-requires
value-requires c = record { tokens = c.lemma_lexed_tokens.ensures c.args.text.now c.args.tokens.now c.requires }

pub overflow_sub-tokens : goal.overflow_sub-tokens
overflow_sub-tokens c = rest_short c.lemma_values_are_read.ensures c.args.text.now c.args.tokens.now (tree_of c.in-Ok.value) c.in-Ok.rest.now c.in-Ok.ensures.read

pub overflow_sub-tokens-in-Err-Unexpected : goal.overflow_sub-tokens-in-Err-Unexpected
overflow_sub-tokens-in-Err-Unexpected c =
    let e = c.in-Err-Unexpected in
    let h = rw e.field-0-is at e.ensures.read in
    left_short c.lemma_values_are_read.ensures c.args.text.now c.args.tokens.now (Unexpected e.left) h

pub overflow_sub-result : goal.overflow_sub-result
overflow_sub-result c =
    let e = c.in-Err-Limit in
    let h = rw e.field-0-is at e.ensures.read in
    left_short c.lemma_values_are_read.ensures c.args.text.now c.args.tokens.now (Beyond (limit_of e.limit) e.left) h

pub returns-then-is_empty-clause-found : goal.returns-then-is_empty-clause-found
returns-then-is_empty-clause-found c =
    whole_read c.lemma_values_are_read.ensures c.args.text.now c.args.tokens.now (tree_of c.in-Ok.value) c.in-Ok.rest.now (is_nil c.in-Ok.rest.now (sym c.is_empty.ensures ∙ c.if-is_empty.true)) c.in-Ok.ensures.read

pub returns-else-is_empty-clause-fault : goal.returns-else-is_empty-clause-fault
returns-else-is_empty-clause-fault c =
    fault_at_first values (lexemes c.args.text.now c.args.tokens.now) 0 (bounded 128) (length c.args.tokens.now - length c.in-Ok.rest.now) c.unexpected.result (c.unexpected.ensures c.args.text.now)
    (rest_ends c.lemma_values_are_read.ensures c.args.text.now c.args.tokens.now (tree_of c.in-Ok.value) c.in-Ok.rest.now c.in-Ok.ensures.read (not_nil (length c.in-Ok.rest.now) (sym c.is_empty.ensures ∙ c.if-is_empty.false)))

pub returns-in-Err-Unexpected-clause-fault : goal.returns-in-Err-Unexpected-clause-fault
returns-in-Err-Unexpected-clause-fault c =
    let e = c.in-Err-Unexpected in
    let h = rw e.field-0-is at e.ensures.read in
    fault_at_first values (lexemes c.args.text.now c.args.tokens.now) 0 (bounded 128) (length c.args.tokens.now - e.left) c.unexpected-in-Err-Unexpected.result (c.unexpected-in-Err-Unexpected.ensures c.args.text.now)
    (left_ends c.lemma_values_are_read.ensures c.args.text.now c.args.tokens.now e.left h)

pub returns-in-Err-Limit-clause-fault : goal.returns-in-Err-Limit-clause-fault
returns-in-Err-Limit-clause-fault c =
    let e = c.in-Err-Limit in
    let h = rw e.field-0-is at e.ensures.read in
    limit_passed c.lemma_values_are_read.ensures c.args.text.now c.args.tokens.now e.limit e.left h
