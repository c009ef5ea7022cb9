use Rattle.views.proofs.Readings.{later, fewer, within, some_nodes}
use Rattle.views.proofs.law.lemma_taken_members.Goals as goal

pub returns-clause-later : goal.returns-clause-later
returns-clause-later c i j ms l = later i j ms l

pub returns-clause-fewer : goal.returns-clause-fewer
returns-clause-fewer c i ms = fewer i ms

pub returns-clause-within : goal.returns-clause-within
returns-clause-within c i ms t e = within i ms t e

pub returns-clause-some : goal.returns-clause-some
returns-clause-some c t = some_nodes t
