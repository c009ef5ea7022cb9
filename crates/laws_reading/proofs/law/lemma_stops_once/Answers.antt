use Rattle.laws_reading.proofs.StopsOnce.{stopped_once, stopped_or_read, read_once}
use Rattle.laws_reading.proofs.law.lemma_stops_once.Goals as goal

pub returns-clause-once : goal.returns-clause-once
returns-clause-once c = stopped_once c.lemma_one_refusal.ensures.once

pub returns-clause-either : goal.returns-clause-either
returns-clause-either c = stopped_or_read

pub returns-clause-reading : goal.returns-clause-reading
returns-clause-reading c = read_once
