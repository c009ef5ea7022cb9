use Rattle.ber_source.specs.Seen.{state_of}
use Rattle.ber_source.specs.Log.{logged}
use Rattle.ber_source.proofs.Taken.{value_as, nothing_as}
use Rattle.ber_source.proofs.cursor.ViewerSource.small_value.Goals as goal

pub returns-clause-taken : goal.returns-clause-taken
returns-clause-taken c = value_as c.small_value.result (state_of (λ t. logged t.log) c.self.inside.place) c.args.self.now (state_of (λ t. logged t.log) c.small_value.new.place) c.args.id c.args.head c.args.kind c.self.view_is c.small_value.ensures.taken

pub returns-clause-same : goal.returns-clause-same
returns-clause-same c = nothing_as c.small_value.result (state_of (λ t. logged t.log) c.self.inside.place) c.args.self.now (state_of (λ t. logged t.log) c.small_value.new.place) c.self.view_is c.small_value.ensures.same
