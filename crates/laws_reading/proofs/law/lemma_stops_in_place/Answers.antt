use Rattle.laws_reading.proofs.Stopped.{slice_where_stopped, slice_where_read}
use Rattle.laws_reading.proofs.law.lemma_stops_in_place.Goals as goal

pub returns-clause-stopped : goal.returns-clause-stopped
returns-clause-stopped c = slice_where_stopped

pub returns-clause-read : goal.returns-clause-read
returns-clause-read c = slice_where_read
