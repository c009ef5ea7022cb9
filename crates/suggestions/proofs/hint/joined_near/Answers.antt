use Rattle.suggestions.proofs.Questions.{octet_string}
use Rattle.suggestions.proofs.hint.joined_near.Goals as goal

pub returns-then-is_alike : goal.returns-then-is_alike
returns-then-is_alike c = octet_string c.args.name.now (c.is_alike.ensures.0 c.if-is_alike.true)
