use Rattle.der_check.proofs.Climbing.{found_one, found_none}
use Rattle.der_check.proofs.sets.is_known.Goals as goal

pub returns-in-Some-clause-yes : goal.returns-in-Some-clause-yes
returns-in-Some-clause-yes c = λ e cs r. found_one r c.in-Some.ensures.some

pub returns-in-None-clause-no : goal.returns-in-None-clause-no
returns-in-None-clause-no c = λ e cs r. found_none r c.in-None.ensures.none
