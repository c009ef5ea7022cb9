use Rattle.front_end.proofs.OneText as one
use Rattle.front_end.proofs.law.one_text.Goals as goal

pub returns : goal.returns
returns c = one.one_text c.one_text.ensures.types c.one_text.ensures.values
