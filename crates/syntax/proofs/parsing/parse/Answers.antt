use Rattle.std.proofs.Common.{◌-◌, length, sym, ◌∙◌}
use Rattle.grammar.specs.Lexeme.{lexemes}
use Rattle.grammar.specs.Places.{bounded}
use Rattle.grammar.specs.Reading.{Unexpected, Beyond}
use Rattle.parser_combinators.specs.Given.{limit_of}
use Rattle.notation.specs.Laws.{fault_at_first}
use Rattle.trees.specs.Modules.{module_tree_of}
use Rattle.syntax.specs.Syntax.{module_text}
use Rattle.syntax.proofs.Assigned.{module_laws}
use Rattle.syntax.proofs.Parsed.{rest_le, left_le, is_there, is_same, no_rest, no_fault, first_rest, first_left, limit_is_true, is_nil, not_nil}
use Rattle.syntax.proofs.parsing.parse.Goals as goal

pub module-requires : goal.module-requires
module-requires c = record { tokens = c.lemma_lexed_tokens.ensures c.args.text.now c.args.tokens.now c.requires }

pub overflow_sub-tokens : goal.overflow_sub-tokens
overflow_sub-tokens c = rest_le (module_laws c.lemma_heads_are_read.ensures c.lemma_types_are_read.ensures) 128 c.args.text.now c.args.tokens.now (module_tree_of c.in-Ok.module) c.in-Ok.rest.now c.in-Ok.ensures.read

pub overflow_sub-tokens-in-Err-Unexpected : goal.overflow_sub-tokens-in-Err-Unexpected
overflow_sub-tokens-in-Err-Unexpected c =
    let e = c.in-Err-Unexpected in
    let h = rw e.field-0-is at e.ensures.read in
    left_le (module_laws c.lemma_heads_are_read.ensures c.lemma_types_are_read.ensures) 128 c.args.text.now c.args.tokens.now (Unexpected e.left) h

pub overflow_sub-result : goal.overflow_sub-result
overflow_sub-result c =
    let e = c.in-Err-Limit in
    let h = rw e.field-0-is at e.ensures.read in
    left_le (module_laws c.lemma_heads_are_read.ensures c.lemma_types_are_read.ensures) 128 c.args.text.now c.args.tokens.now (Beyond (limit_of e.limit) e.left) h

pub returns-then-is_empty-clause-found : goal.returns-then-is_empty-clause-found
returns-then-is_empty-clause-found c = is_there (module_laws c.lemma_heads_are_read.ensures c.lemma_types_are_read.ensures) 128 c.args.text.now c.args.tokens.now (module_tree_of c.in-Ok.module) c.in-Ok.rest.now (is_nil c.in-Ok.rest.now (sym c.is_empty.ensures ∙ c.if-is_empty.true)) c.in-Ok.ensures.read

pub returns-then-is_empty-clause-only : goal.returns-then-is_empty-clause-only
returns-then-is_empty-clause-only c = λ m h. is_same (module_laws c.lemma_heads_are_read.ensures c.lemma_types_are_read.ensures) 128 c.args.text.now c.args.tokens.now (module_tree_of c.in-Ok.module) m c.in-Ok.rest.now c.in-Ok.ensures.read h

pub returns-else-is_empty-clause-only : goal.returns-else-is_empty-clause-only
returns-else-is_empty-clause-only c = λ m h. absurd (no_rest (module_laws c.lemma_heads_are_read.ensures c.lemma_types_are_read.ensures) 128 c.args.text.now c.args.tokens.now (module_tree_of c.in-Ok.module) m c.in-Ok.rest.now c.in-Ok.ensures.read (not_nil (length c.in-Ok.rest.now) (sym c.is_empty.ensures ∙ c.if-is_empty.false)) h)

pub returns-else-is_empty-clause-fault : goal.returns-else-is_empty-clause-fault
returns-else-is_empty-clause-fault c =
    fault_at_first module_text (lexemes c.args.text.now c.args.tokens.now) 0 (bounded 128) (length c.args.tokens.now - length c.in-Ok.rest.now) c.unexpected.result (c.unexpected.ensures c.args.text.now)
    (first_rest (module_laws c.lemma_heads_are_read.ensures c.lemma_types_are_read.ensures) 128 c.args.text.now c.args.tokens.now (module_tree_of c.in-Ok.module) c.in-Ok.rest.now c.in-Ok.ensures.read (not_nil (length c.in-Ok.rest.now) (sym c.is_empty.ensures ∙ c.if-is_empty.false)))

pub returns-in-Err-Unexpected-clause-only : goal.returns-in-Err-Unexpected-clause-only
returns-in-Err-Unexpected-clause-only c = λ m i.
    let e = c.in-Err-Unexpected in
    let h = rw e.field-0-is at e.ensures.read in
    absurd (no_fault (module_laws c.lemma_heads_are_read.ensures c.lemma_types_are_read.ensures) 128 c.args.text.now c.args.tokens.now (Unexpected e.left) m h i)

pub returns-in-Err-Unexpected-clause-fault : goal.returns-in-Err-Unexpected-clause-fault
returns-in-Err-Unexpected-clause-fault c =
    let e = c.in-Err-Unexpected in
    let h = rw e.field-0-is at e.ensures.read in
    fault_at_first module_text (lexemes c.args.text.now c.args.tokens.now) 0 (bounded 128) (length c.args.tokens.now - e.left) c.unexpected-in-Err-Unexpected.result (c.unexpected-in-Err-Unexpected.ensures c.args.text.now)
    (first_left (module_laws c.lemma_heads_are_read.ensures c.lemma_types_are_read.ensures) 128 c.args.text.now c.args.tokens.now e.left h)

pub returns-in-Err-Limit-clause-only : goal.returns-in-Err-Limit-clause-only
returns-in-Err-Limit-clause-only c = λ m i.
    let e = c.in-Err-Limit in
    let h = rw e.field-0-is at e.ensures.read in
    absurd (no_fault (module_laws c.lemma_heads_are_read.ensures c.lemma_types_are_read.ensures) 128 c.args.text.now c.args.tokens.now (Beyond (limit_of e.limit) e.left) m h i)

pub returns-in-Err-Limit-clause-fault : goal.returns-in-Err-Limit-clause-fault
returns-in-Err-Limit-clause-fault c =
    let e = c.in-Err-Limit in
    let h = rw e.field-0-is at e.ensures.read in
    limit_is_true (module_laws c.lemma_heads_are_read.ensures c.lemma_types_are_read.ensures) 128 c.args.text.now c.args.tokens.now e.limit e.left h
