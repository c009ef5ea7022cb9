use Rattle.std.proofs.Common.{sym, subst}
use Rattle.parser_combinators.specs.Given.{IsLexed}
use Rattle.front_end.proofs.reading.module_of.Goals as goal

pub returns-in-Ok-parse-clause-module : goal.returns-in-Ok-parse-clause-module
returns-in-Ok-parse-clause-module c = record {
  tokens = c.as_slice.result.now;
  lexed = subst (IsLexed c.args.text.now) (sym c.as_slice.ensures.value) c.in-Ok.ensures.tokens;
  tree = c.in-Ok-parse.ensures.found;
}
