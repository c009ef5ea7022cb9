use Rattle.std.proofs.Common.{◌≡◌, sym, subst}
use Rattle.parser_combinators.specs.Given.{IsLexed}
use Rattle.trees.specs.Values.{Tree, tree_of}
use Rattle.written_values.specs.Written.{IsNotation}
use Rattle.written_values.proofs.Texts.{of_memory, of_slice}
use Rattle.written_values.proofs.written.parse_value.Goals as goal

pub returns-in-Err-clause-only : goal.returns-in-Err-clause-only
returns-in-Err-clause-only c = λ n i. of_memory c.lemma_wrong_texts_are_none.ensures c.args.text.now n c.in-Err.fault c.in-Err.ensures.fault i

pub returns-in-Ok-whole-clause-only : goal.returns-in-Ok-whole-clause-only
returns-in-Ok-whole-clause-only c = λ n i.
    c.lemma_one_notation.ensures c.args.text.now (tree_of c.in-Ok-whole.value) n
    (of_slice c.args.text.now c.in-Ok.tokens.items c.as_slice.result.now (tree_of c.in-Ok-whole.value) c.as_slice.ensures.value c.in-Ok.ensures.tokens c.in-Ok-whole.ensures.found)
    i

pub returns-clause-only : goal.returns-clause-only
returns-clause-only c = λ n i. of_memory c.lemma_wrong_texts_are_none.ensures c.args.text.now n c.wrong_tokens.result
    (c.wrong_tokens.ensures c.args.text.now c.as_slice.result.now (subst (IsLexed c.args.text.now) (sym c.as_slice.ensures.value) c.in-Ok.ensures.tokens) c.in-Err-whole.ensures.fault) i
