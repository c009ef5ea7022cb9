use Rattle.std.proofs.Common.{rules, sym, ◌∙◌}
use denote.Enum.Bare.{same_true, same_false}
use Rattle.text.specs.contracts.reserved.Word.{the_type}
use Rattle.expected_tokens.proofs.stacks.is_same_word.Goals as goal

pub returns-clause-same : goal.returns-clause-same
returns-clause-same c is = same_true the_type (search rules) _ _ (sym c.eq.ensures ∙ is)

pub returns-clause-other : goal.returns-clause-other
returns-clause-other c is = same_false the_type _ _ (sym c.eq.ensures ∙ is)
