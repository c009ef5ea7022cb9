use Rattle.std.proofs.Common.{◌-◌, length}
use Rattle.grammar.specs.Lexeme.{lexemes}
use Rattle.grammar.specs.Reading.{Unexpected, Beyond}
use Rattle.grammar.specs.Places.{small, bounded}
use Rattle.grammar.specs.Answers.{Reads}
use Rattle.grammar.specs.Texts.{found, rest_fits, left_fits, first, passes, same_found, never_found}
use Rattle.notation.specs.Laws.{fault_at_first}
use Rattle.parser_combinators.specs.Given.{limit_of}
use Rattle.trees.specs.Constraints.{constraint_of}
use Rattle.notation.specs.ConstraintGrammar.{size, flat}
use Rattle.notation.specs.ConstraintReading.{is_size, size_at}
use Rattle.notation.proofs.ConstraintPlaces.{flat_reads, size_ruled, size_grows}
use Rattle.notation.proofs.Answered.{are_tokens, slice_tokens}
use Rattle.notation.proofs.constraint_answer.size_at.Goals as goal

size_reads : Reads (flat size) (bounded 0) (size_at small)
size_reads = flat_reads size is_size size_at size_ruled size_grows

pub size-requires : goal.size-requires
size-requires c = record { tokens = slice_tokens c.args.text.now c.args.place c.args.tokens.now (are_tokens c.lemma_spans_within.ensures c.args.text.now c.args.tokens.now c.requires.text) }

pub overflow_sub-result : goal.overflow_sub-result
overflow_sub-result c = rest_fits (flat size) (bounded 0) (size_at small) size_reads c.args.text.now c.args.tokens.now c.args.place c.requires.place (constraint_of c.in-Ok.size) c.in-Ok.rest.now c.in-Ok.ensures.read

pub overflow_sub-tokens : goal.overflow_sub-tokens
overflow_sub-tokens c =
    let e = c.in-Err-Unexpected in
    let h = rw e.field-0-is at e.ensures.read in
    left_fits (flat size) (bounded 0) (size_at small) size_reads c.args.text.now c.args.tokens.now c.args.place c.requires.place (Unexpected e.left) h

pub overflow_sub-result-in-Err-Limit : goal.overflow_sub-result-in-Err-Limit
overflow_sub-result-in-Err-Limit c =
    let e = c.in-Err-Limit in
    let h = rw e.field-0-is at e.ensures.read in
    left_fits (flat size) (bounded 0) (size_at small) size_reads c.args.text.now c.args.tokens.now c.args.place c.requires.place (Beyond (limit_of e.limit) e.left) h

pub returns-in-Ok-clause-found : goal.returns-in-Ok-clause-found
returns-in-Ok-clause-found c = found (flat size) (bounded 0) (size_at small) size_reads c.args.text.now c.args.tokens.now c.args.place c.requires.place (constraint_of c.in-Ok.size) c.in-Ok.rest.now c.in-Ok.ensures.read

pub returns-in-Ok-clause-only : goal.returns-in-Ok-clause-only
returns-in-Ok-clause-only c = λ v end i. same_found (flat size) (bounded 0) (size_at small) size_reads c.args.text.now c.args.tokens.now c.args.place c.requires.place (constraint_of c.in-Ok.size) v c.in-Ok.rest.now end c.in-Ok.ensures.read i

pub returns-in-Err-Unexpected-clause-only : goal.returns-in-Err-Unexpected-clause-only
returns-in-Err-Unexpected-clause-only c = λ v end i.
    let e = c.in-Err-Unexpected in
    let h = rw e.field-0-is at e.ensures.read in
    absurd (never_found (flat size) (bounded 0) (size_at small) size_reads c.args.text.now c.args.tokens.now c.args.place c.requires.place (Unexpected e.left) v end h i)

pub returns-in-Err-Unexpected-clause-fault : goal.returns-in-Err-Unexpected-clause-fault
returns-in-Err-Unexpected-clause-fault c =
    let e = c.in-Err-Unexpected in
    let h = rw e.field-0-is at e.ensures.read in
    fault_at_first (flat size) (lexemes c.args.text.now c.args.tokens.now) c.args.place (bounded 0) (length c.args.tokens.now - e.left) c.unexpected.result (c.unexpected.ensures c.args.text.now)
    (first (flat size) (bounded 0) (size_at small) size_reads c.args.text.now c.args.tokens.now c.args.place c.requires.place e.left h)

pub returns-in-Err-Limit-clause-only : goal.returns-in-Err-Limit-clause-only
returns-in-Err-Limit-clause-only c = λ v end i.
    let e = c.in-Err-Limit in
    let h = rw e.field-0-is at e.ensures.read in
    absurd (never_found (flat size) (bounded 0) (size_at small) size_reads c.args.text.now c.args.tokens.now c.args.place c.requires.place (Beyond (limit_of e.limit) e.left) v end h i)

pub returns-in-Err-Limit-clause-fault : goal.returns-in-Err-Limit-clause-fault
returns-in-Err-Limit-clause-fault c =
    let e = c.in-Err-Limit in
    let h = rw e.field-0-is at e.ensures.read in
    passes (flat size) (bounded 0) (size_at small) size_reads c.args.text.now c.args.tokens.now c.args.place c.requires.place (limit_of e.limit) e.left h
